-- The law that an accepted command leaves a state in range.
use Rattle.std.proofs.Common.{◌≡◌, ℕ, suc, ◌+◌, ◌<◌, ◌≤◌, ◌==◌, ◌||◌, Bool, true, false, List, [], ◌∷◌, length, nat_le, All, Option, Some, None, refl, sym, arith, if◌then◌else◌}
use Rattle.std.specs.List.{list_any}
use Rattle.std.specs.Option.{option_map, option_map_or}
use Rattle.std.proofs.lemmas.Bool.Decides.{nat_tests}
use Rattle.std.proofs.lemmas.List.Elements.{All-head, All-tail, All-map, All-weaker}
use Rattle.un_schema.specs.Sound.{IsCatalog}
use Rattle.un_schema.specs.Catalog.{Catalog}
use Rattle.un_schema.specs.declared.rule.Rule.{Rule}
use Rattle.un_defs.specs.declared.row.Row.{Row}
use Rattle.un_defs.specs.declared.edit.Edit.{Edit}
use Rattle.un_defs.specs.declared.edit.Edit.TheVariants as edit
use Rattle.un_defs.specs.declared.refusal.Refusal.{Refusal}
use Rattle.un_defs.specs.declared.refusal.Refusal.TheVariants as refusal
use Rattle.un_defs.specs.declared.refusal.Limit.TheVariants as limit
use Rattle.un_defs.specs.Refusing.{first_refusal}
use Rattle.un_defs.specs.Change.{Next, after}
use Rattle.un_defs.proofs.Locality.{or_both}
use Rattle.un_ask.specs.declared.request.Command.{Command}
use Rattle.un_ask.specs.declared.request.Command.TheVariants as command
use Rattle.un_store.specs.Edits.{at_moment, settled}
use Rattle.un_store.proofs.Fitting.{none_refused}
use Rattle.un_facts.specs.Refusals.{refusal_of}
use Rattle.un_facts.proofs.Alone.{unmapped, fails}
use Rattle.un_core.specs.State.{State, known}
use Rattle.un_core.specs.Step.{next_with, made_at, made_by_all, touched_by_all, rule_of, ruled, next_state}
use Rattle.un_core.specs.Refusals.{last_number, numbers_refusal, beside_numbers, first_refused}
use Rattle.un_core.specs.Commands.{unknown, known_refusal}
use Rattle.un_feed_laws.specs.Ranges.{IsRowInRange}
use Rattle.un_feed_laws.specs.Typed.{IsTypedEdit, IsTyped}
use Rattle.un_feed_laws.specs.States.{IsInRange, OpeningInRangeLaw, CommandsStayInRangeLaw}
use Rattle.un_feed_laws.proofs.EditsKept.{edits_kept}

-- ---- the numbers that are given next

-- an edit gives one id at most
record IsNextAfter (next later : Next) : Type 0 where
  feature : next.feature ≤ later.feature
  few : later.feature ≤ next.feature + 1
  association : next.association ≤ later.association
  few_associations : later.association ≤ next.association + 1

next_after : (next : Next) (e : Edit) → IsNextAfter next (after next e)
next_after next (edit.Insert kind points attrs flow ends note) = record { feature = omega arith; few = omega arith; association = omega arith; few_associations = omega arith }
next_after next (edit.Connect from to) = record { feature = omega arith; few = omega arith; association = omega arith; few_associations = omega arith }
next_after next (edit.Contain container content) = record { feature = omega arith; few = omega arith; association = omega arith; few_associations = omega arith }
next_after next (edit.Attach structure content) = record { feature = omega arith; few = omega arith; association = omega arith; few_associations = omega arith }
next_after next _ = record { feature = omega arith; few = omega arith; association = omega arith; few_associations = omega arith }

not_reached : (m n : ℕ) → nat_le m n ≡ false → n < m
not_reached m n e = grind (arith, nat_tests)

-- the version and both ids are below the last number
record HasNumbers (s : State) : Type 0 where
  version : s.version < last_number
  feature : s.next_feature < last_number
  association : s.next_association < last_number

has_numbers : (s : State) → numbers_refusal s ≡ None → HasNumbers s
has_numbers s none =
    let version = nat_le last_number s.version in
    let feature = nat_le last_number s.next_feature in
    let association = nat_le last_number s.next_association in
    let area = nat_le last_number s.next_area in
    let all = or_both (version || feature || association) area (fails (version || feature || association || area) (refusal.Full limit.Numbers) none) in
    let front = or_both (version || feature) association all.0 in
    let both = or_both version feature front.0 in
    record {
      version = not_reached last_number s.version both.0;
      feature = not_reached last_number s.next_feature both.1;
      association = not_reached last_number s.next_association front.1;
    }

-- so many edits may be made, each of which may take an id
record HasRoom (s : State) (count : ℕ) : Type 0 where
  feature : s.next_feature + count ≤ 9007199254740991
  association : s.next_association + count ≤ 9007199254740991

has_room : (s : State) (count : ℕ) → numbers_refusal s ≡ None → count ≤ 256 → HasRoom s count
has_room s count none few =
    let numbers = has_numbers s none in
    let feature : s.next_feature < 9000000000000000 = numbers.feature in
    let association : s.next_association < 9000000000000000 = numbers.association in
    record { feature = omega (arith, feature, few); association = omega (arith, association, few) }

-- ---- one edit

made_in_range : (moment : ℕ) (s : State) (e : Edit) (left : ℕ) → IsCatalog s.setup.schema → IsTypedEdit e → HasRoom s (suc left) → IsInRange s
    → first_refusal (beside_numbers s e) ≡ None → IsInRange (made_at moment s e)
made_in_range moment s e left catalog typed room is none =
    let feature = is.feature in
    let association = is.association in
    let enough = room.feature in
    let enough_associations = room.association in
    let later = next_after (next_with s moment) e in
    let more = later.feature in
    let more_associations = later.association in
    record {
      features = edits_kept (known s) (next_with s moment) e catalog typed
          (record { some = feature; few = omega (arith, enough) })
          (record { some = association; few = omega (arith, enough_associations) })
          is.features (none_refused (refusal_of (known s) e) _ none).0;
      feature = omega (arith, feature, more);
      association = omega (arith, association, more_associations);
      version = is.version;
    }

made_room : (moment : ℕ) (s : State) (e : Edit) (left : ℕ) → HasRoom s (suc left) → HasRoom (made_at moment s e) left
made_room moment s e left room =
    let enough = room.feature in
    let enough_associations = room.association in
    let later = next_after (next_with s moment) e in
    let few = later.few in
    let few_associations = later.few_associations in
    record { feature = omega (arith, enough, few); association = omega (arith, enough_associations, few_associations) }

-- ---- batches

none_some : {A : Type 0} {x : A} → None ≡ Some x → ⊥
none_some h = cc

none_in_batch : (s : State) (place : ℕ) (e : Edit) (es : List Edit) → first_refused s place (e ∷ es) ≡ None
    → (first_refusal (beside_numbers s e) ≡ None) × (first_refused (made_at 0 s e) (place + 1) es ≡ None)
none_in_batch s place e es none = go (first_refusal (beside_numbers s e)) none
  where
    go : (d : Option Refusal) → option_map_or (λ r. Some (place, r)) d (first_refused (made_at 0 s e) (place + 1) es) ≡ None
        → (d ≡ None) × (first_refused (made_at 0 s e) (place + 1) es ≡ None)
    go None none = (refl, none)
    go (Some r) none = absurd (none_some (sym none))

all_in_range : (s : State) (place : ℕ) (es : List Edit) → IsCatalog s.setup.schema → All IsTypedEdit es → HasRoom s (length es) → IsInRange s
    → first_refused s place es ≡ None → IsInRange (made_by_all s es)
all_in_range s place [] catalog typed room is none = is
all_in_range s place (e ∷ es) catalog typed room is none =
    let both = none_in_batch s place e es none in
    all_in_range (made_at 0 s e) (place + 1) es catalog (All-tail IsTypedEdit e es typed) (made_room 0 s e (length es) room)
    (made_in_range 0 s e (length es) catalog (All-head IsTypedEdit e es typed) room is both.0) both.1

-- the moments of rows do not count
settled_in_range : (S : Catalog) (ids : List ℕ) (moment : ℕ) (rows : List Row) → All (IsRowInRange S) rows → All (IsRowInRange S) (settled ids moment rows)
settled_in_range S ids moment rows h =
    All-map (IsRowInRange S) settle rows (All-weaker (IsRowInRange S) (λ r. IsRowInRange S (settle r)) (λ r is. go (list_any (λ id. id == r.id) ids) r is) rows h)
  where
    settle : Row → Row
    settle r = if list_any (λ id. id == r.id) ids then at_moment moment r else r

    go : (b : Bool) (r : Row) → IsRowInRange S r → IsRowInRange S (if b then at_moment moment r else r)
    go true r is = record { id = is.id; terminals = is.terminals; attrs = is.attrs; named = is.named; placed = is.placed }
    go false r is = is

-- ---- all commands

-- the next version
next_version : (s : State) → numbers_refusal s ≡ None → s.version + 1 ≤ 9007199254740991
next_version s none = let below : s.version < 9000000000000000 = (has_numbers s none).version in omega (arith, below)

batch_in_range : (s : State) (es : List Edit) → s.version + 1 ≤ 9007199254740991 → IsInRange (made_by_all s es) → IsInRange (next_state s (command.Batch es))
batch_in_range s es version is = record {
  features = record {
    rows = settled_in_range (made_by_all s es).setup.schema (touched_by_all s es) (s.version + 1) (made_by_all s es).features.rows is.features.rows;
    associations = is.features.associations;
    controllers = is.features.controllers;
  };
  feature = is.feature;
  association = is.association;
  version = version;
}

rule_in_range : (s : State) (o : Option Rule) → s.version + 1 ≤ 9007199254740991 → IsInRange s → IsInRange (ruled s o)
rule_in_range s None version is = record { features = is.features; feature = is.feature; association = is.association; version = version }
rule_in_range s (Some rule) version is = record {
  features = record { rows = is.features.rows; associations = is.features.associations; controllers = is.features.controllers };
  feature = is.feature;
  association = is.association;
  version = version;
}

known_in_range : (s : State) (c : Command) → IsCatalog s.setup.schema → IsTyped c → IsInRange s → known_refusal s c ≡ None → IsInRange (next_state s c)
known_in_range s (command.Edit e) catalog typed is none =
    let behind = none_refused (numbers_refusal s) _ none in
    let made = made_in_range (s.version + 1) s e 0 catalog typed (has_room s 1 behind.0 (omega arith)) is behind.1 in
    record { features = made.features; feature = made.feature; association = made.association; version = next_version s behind.0 }
known_in_range s (command.Batch es) catalog typed is none =
    let behind = none_refused (numbers_refusal s) _ none in
    let refused = none_refused (option_map (λ p. p.1) (first_refused s 0 es)) [] behind.1 in
    batch_in_range s es (next_version s behind.0)
    (all_in_range s 0 es catalog typed.each (has_room s (length es) behind.0 typed.few) is (unmapped (λ p. p.1) (first_refused s 0 es) refused.0))
known_in_range s (command.Validate extent) catalog typed is none =
    record { features = is.features; feature = is.feature; association = is.association; version = next_version s none }
known_in_range s (command.Update tier subnet) catalog typed is none =
    let behind = none_refused (numbers_refusal s) _ none in
    record { features = is.features; feature = is.feature; association = is.association; version = next_version s behind.0 }
known_in_range s (command.Rule named) catalog typed is none =
    let behind = none_refused (numbers_refusal s) _ none in
    rule_in_range s (rule_of s named) (next_version s behind.0) is

pub commands_kept : CommandsStayInRangeLaw
commands_kept s c catalog typed is none =
    let behind = none_refused (unknown c) (known_refusal s c ∷ []) none in
    known_in_range s c catalog typed is (none_refused (known_refusal s c) [] behind.1).0

pub opening_in_range : OpeningInRangeLaw
opening_in_range S = record {
  features = record { rows = λ i d l. absurd (omega arith); associations = λ i d l. absurd (omega arith); controllers = λ i d l. absurd (omega arith) };
  feature = omega arith;
  association = omega arith;
  version = omega arith;
}
