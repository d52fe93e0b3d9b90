-- Associations and controllers in range stay so under an edit for which no refusal is due.
use Rattle.std.proofs.Common.{◌≡◌, ◌==◌, ◌<◌, ◌≤◌, ◌&&◌, Bool, true, false, not, List, length, map, nat_le, All, Option, Some, None, refl, subst, arith, leb→le}
use Rattle.std.specs.Prelude.{option_and_then}
use Rattle.std.specs.Bool.{passes}
use Rattle.std.specs.Option.{option_map_or}
use Rattle.std.proofs.lemmas.List.{length-map}
use Rattle.std.proofs.lemmas.List.Elements.{All-push, All-filter}
use Rattle.std.proofs.lemmas.Map.Views.{All-insert_key}
use Rattle.un_schema.specs.Catalog.{kind_at, kind_named, place_of}
use Rattle.un_tiers.specs.declared.tier.Tier.{Tier}
use Rattle.un_defs.specs.declared.port.Port.{Port}
use Rattle.un_defs.specs.declared.row.Row.{Row}
use Rattle.un_defs.specs.declared.edit.Edit.{Edit}
use Rattle.un_defs.specs.declared.edit.Edit.TheVariants as edit
use Rattle.un_defs.specs.declared.refusal.Refusal.{Refusal}
use Rattle.un_defs.specs.declared.refusal.Refusal.TheVariants as refusal
use Rattle.un_defs.specs.Refusing.{refused_if}
use Rattle.un_defs.specs.Orders.{same_port}
use Rattle.un_defs.specs.Features.{Features, row, is_joint, has_terminal}
use Rattle.un_defs.specs.Result.{controller_cmp}
use Rattle.un_defs.specs.Change.{Setting, Next, changed}
use Rattle.un_defs.proofs.Locality.{by_option}
use Rattle.un_defs.proofs.LinkCases.{both_true}
use Rattle.un_defs.proofs.Unique.{from_all}
use Rattle.un_defs.proofs.Standing.{from_row}
use Rattle.un_assoc.specs.Refusals.{refusal_of, no_feature, of_feature, of_both, not_joints, no_terminal}
use Rattle.un_store.proofs.Fitting.{none_refused}
use Rattle.un_feed_json.specs.Sound.{IsId}
use Rattle.un_feed_laws.specs.Ranges.{IsRowInRange, IsAssocInRange, IsControllerInRange}
use Rattle.un_feed_laws.specs.Typed.{IsTypedEdit}
use Rattle.un_feed_laws.proofs.Given.{place_within}

-- a refusal that is not due where a test fails: the test holds
holds : (b : Bool) (r : Refusal) → refused_if (not b) r ≡ None → b ≡ true
holds true r e = refl
holds false r e = let none : Some r ≡ None = e in cc

module _ (T : Setting) (next : Next) (F : Features) where
  -- ---- associations

  -- the terminal that a port names is one of its row
  terminal_in_range : All (IsRowInRange T.catalog) F.rows → (q : Port) → no_feature F q.feature ≡ None → of_feature F q.feature (no_terminal q) ≡ None → q.number ≤ 63
  terminal_in_range rows q = go (row F q.feature) refl
    where
      go : (o : Option Row) → row F q.feature ≡ o → option_map_or (λ r. None) o (Some (refusal.NoSuchFeature q.feature)) ≡ None
          → option_and_then (no_terminal q) o ≡ None → q.number ≤ 63
      go None is there good = let none : Some (refusal.NoSuchFeature q.feature) ≡ None = there in cc
      go (Some r) is there good =
          let has = holds (has_terminal r q.number) (refusal.BadTerminal q.feature) good in
          let below = leb→le q.number r.terminals (passes (nat_le q.number r.terminals) (both_true (is_joint r.class && nat_le 1 q.number) (nat_le q.number r.terminals) has).1) in
          let few = (from_all (IsRowInRange T.catalog) F.rows rows r (from_row F q.feature r is).0).terminals in
          omega (arith, below, few)

  abbrev HasAssociations : Features → Type 0
  HasAssociations G = All IsAssocInRange G.associations

  pub associations_kept : All (IsRowInRange T.catalog) F.rows → HasAssociations F → (e : Edit) → IsId next.association → refusal_of T F e ≡ None
      → HasAssociations (changed T next F e)
  associations_kept rows h (edit.Connect from to) id none =
      let behind_from = none_refused (no_feature F from.feature) _ none in
      let behind_to = none_refused (no_feature F to.feature) _ behind_from.1 in
      let behind_joints = none_refused (of_both F from.feature to.feature (not_joints from to)) _ behind_to.1 in
      let first = none_refused (of_feature F from.feature (no_terminal from)) _ behind_joints.1 in
      let second = none_refused (of_feature F to.feature (no_terminal to)) _ first.1 in
      All-push IsAssocInRange F.associations _ h (record {
        id = id;
        from = terminal_in_range rows from behind_from.0 first.0;
        to = terminal_in_range rows to behind_to.0 second.0;
      })
  associations_kept rows h (edit.Contain container content) id none = All-push IsAssocInRange F.associations _ h (record { id = id; from = omega arith; to = omega arith })
  associations_kept rows h (edit.Attach structure content) id none = All-push IsAssocInRange F.associations _ h (record { id = id; from = omega arith; to = omega arith })
  associations_kept rows h (edit.Detach assoc) id none = All-filter (λ a. not (a.id == assoc)) IsAssocInRange F.associations h
  associations_kept rows h (edit.Insert kind points attrs flow ends note) id none =
      by_option HasAssociations _ F (kind_named T.catalog kind) h (λ k _. by_option HasAssociations _ F (kind_at T.catalog k) h (λ kind _. h))
  associations_kept rows h (edit.Kind key base kind) id none = by_option HasAssociations _ F (kind_named T.catalog kind) h (λ k _. h)
  associations_kept rows h (edit.Controller key terminal tier subnet) id none = by_option HasAssociations _ F (place_of tier T.tiers) h (λ t _. h)
  associations_kept rows h _ id none = h

  -- ---- controllers

  module _ (tiers : List Tier) (named : T.tiers ≡ map (λ t. t.name) tiers) where
    abbrev HasControllers : Features → Type 0
    HasControllers G = All (IsControllerInRange tiers) G.controllers

    pub controllers_kept : HasControllers F → (e : Edit) → IsTypedEdit e → HasControllers (changed T next F e)
    controllers_kept h (edit.Controller key terminal tier subnet) typed = by_option HasControllers _ F (place_of tier T.tiers) h (λ t e.
        let same = length-map tiers (λ t. t.name) in
        let within = subst (λ n. t < n) same (subst (λ l. t < length l) named (place_within tier T.tiers t e)) in
        All-insert_key controller_cmp (record { port = record { feature = key; number = terminal }; tier = t; subnet = subnet })
        (IsControllerInRange tiers) F.controllers h (record { tier = within; subnet = typed }))
    controllers_kept h (edit.Uncontroller key terminal) typed =
        All-filter (λ c. not (same_port c.port (record { feature = key; number = terminal }))) (IsControllerInRange tiers) F.controllers h
    controllers_kept h (edit.Insert kind points attrs flow ends note) typed =
        by_option HasControllers _ F (kind_named T.catalog kind) h (λ k _. by_option HasControllers _ F (kind_at T.catalog k) h (λ kind _. h))
    controllers_kept h (edit.Kind key base kind) typed = by_option HasControllers _ F (kind_named T.catalog kind) h (λ k _. h)
    controllers_kept h _ typed = h
