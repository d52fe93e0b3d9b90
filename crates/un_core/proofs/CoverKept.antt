-- What might happen to a state leaves a state.
use Rattle.std.proofs.Common.{◌≡◌, ◌≢◌, ℕ, ◌+◌, ◌<◌, Bool, true, false, not, List, [], ◌∷◌, ◌++◌, Option, None, Some, refl, sym, ◌∙◌, subst, All, Contains, IsFalse, find}
use Rattle.std.specs.List.{list_any, enumerate_from}
use Rattle.std.specs.Option.{option_map_or}
use Rattle.std.proofs.lemmas.List.Folds.{list_any-append}
use Rattle.std.proofs.lemmas.List.Elements.{All-filter}
use Rattle.std.proofs.lemmas.List.Kept.{AllPairs-filter}
use Rattle.un_geom.specs.declared.point.Point.{Point}
use Rattle.un_geom.specs.Rectangle.{Rectangle}
use Rattle.un_geom.specs.Places.{covers, meets}
use Rattle.un_defs.specs.declared.port.Node.{Node}
use Rattle.un_defs.specs.declared.link.Tie.{Tie}
use Rattle.un_defs.specs.declared.star.Star.{Star}
use Rattle.un_schema.specs.declared.rule.Rule.{Rule}
use Rattle.un_defs.specs.declared.edit.Edit.{Edit}
use Rattle.un_defs.specs.declared.edit.Edit.TheVariants as edit
use Rattle.un_defs.specs.Orders.{same_port}
use Rattle.un_defs.specs.Star.{star, empty_star}
use Rattle.un_defs.specs.Change.{Next, changed, after}
use Rattle.un_defs.specs.Features.{Features}
use Rattle.un_defs.specs.Dirtied.{dirtied}
use Rattle.un_defs.specs.Laws.{AreNew, MayBeMade}
use Rattle.un_defs.proofs.Members.{among_from_contains}
use Rattle.un_defs.proofs.TwoGrounds.{fresh_path}
use Rattle.un_defs.proofs.Unique.{from_all}
use Rattle.un_defs.proofs.Locality.{locality, or_both}
use Rattle.un_defs.proofs.KeepsSound.{keeps_sound, all_from}
use Rattle.un_index.specs.Kept.{stars_of}
use Rattle.un_core.specs.State.{State, fresh_star, kept_ground}
use Rattle.un_core.specs.Validation.{met, unmet, is_under, rebuilt, changes_under}
use Rattle.un_core.specs.Updating.{updated}
use Rattle.un_ask.specs.declared.request.Command.TheVariants as command
use Rattle.un_core.specs.Step.{setting, next_with, next_of, made_at, edited, made_by_all, touched_by_all, settled_at, batched, rule_of, ruled}
use Rattle.un_core.specs.Validation.{validated}
use Rattle.un_core.specs.Cover.{IsState, PathsStay, MayAllBeMade, MayHappen, CoverLaw}
use Rattle.un_core.proofs.NextIds.{new_after}
use Rattle.un_ask.specs.declared.stored.StoredSubnet.{StoredSubnet}
use Rattle.un_subnet.specs.Stored.{AreOrdered}
use Rattle.un_subnet.proofs.Ordered.{marked_ordered}
use Rattle.un_core.proofs.Stored.{rows_ordered}
use Rattle.un_core.proofs.LookUps.{sorted_map}
use Rattle.un_facts.proofs.Settled.{settled_sound, settled_star, settled_new}
use Rattle.un_core.proofs.Rebuilding.{rebuilt_under, rebuilt_elsewhere, rebuilt_sorted, rebuilt_nonempty}
use Rattle.un_core.proofs.Numbers.{numbered_more, under_more, any_enumerated, any_split}

-- ids are new at every moment
pub same_ids : (next other : Next) (F : Features) → next.feature ≡ other.feature → next.association ≡ other.association → AreNew next F → AreNew other F
same_ids next other F e g new = record { feature = subst (λ n. All (λ r. r.id < n) F.rows) e new.feature; association = subst (λ n. All (λ a. a.id < n) F.associations) g new.association }

-- neither is any of the rest told by the version
at_version : (s : State) (version : ℕ) → IsState s → IsState (record s { version = version })
at_version s version is = record {
  sound = is.sound;
  fresh_ids = same_ids (next_of s) (next_of (record s { version = version })) s.features refl refl is.fresh_ids;
  numbered = is.numbered;
  numbers = is.numbers;
  sorted = is.sorted;
  nonempty = is.nonempty;
  cover = is.cover;
  paths = is.paths;
  stored = is.stored;
}

module _ (s : State) (is : IsState s) where
  -- ---- an edit, made at a moment

  module _ (moment : ℕ) (e : Edit) (may : MayBeMade (setting s) (next_with s moment) s.features e) where
    abbrev next_features : Features
    next_features = changed (setting s) (next_with s moment) s.features e

    new : AreNew (next_with s moment) s.features
    new = same_ids (next_of s) (next_with s moment) s.features refl refl is.fresh_ids

    made_cover : (p : Point) → IsFalse (list_any (λ area. covers area.1 p) (s.areas ++ enumerate_from s.next_area (dirtied s.features e)))
        → stars_of s.kept p ≡ star s.setup.schema next_features p
    made_cover p h =
        let both = or_both (list_any (λ area. covers area.1 p) s.areas) (list_any (λ area. covers area.1 p) (enumerate_from s.next_area (dirtied s.features e)))
        (sym (list_any-append (λ area. covers area.1 p) s.areas (enumerate_from s.next_area (dirtied s.features e))) ∙ h) in
        is.cover p both.0
        ∙ sym (locality (setting s) (next_with s moment) s.features e is.sound new may p (sym (any_enumerated (λ r. covers r p) s.next_area (dirtied s.features e)) ∙ both.1))

    pub made_state : IsState (made_at moment s e)
    made_state = record {
      sound = keeps_sound (setting s) (next_with s moment) s.features e is.sound new may;
      fresh_ids = same_ids (after (next_with s moment) e) (next_of (made_at moment s e)) next_features refl refl (new_after (setting s) (next_with s moment) s.features e new);
      numbered = numbered_more s.areas (dirtied s.features e) s.next_area is.numbered is.numbers;
      numbers = under_more s.areas (dirtied s.features e) s.next_area is.numbers;
      sorted = is.sorted;
      nonempty = is.nonempty;
      cover = made_cover;
      paths = is.paths;
      stored = is.stored;
    }

  -- the edit is a step to the next version
  pub edited_state : (e : Edit) → MayHappen s (command.Edit e) → IsState (edited s e)
  edited_state e may = at_version (made_at (s.version + 1) s e) (s.version + 1) (made_state (s.version + 1) e may)

  -- ---- a validation

  module _ (extent : Rectangle) where
    validated_cover : (p : Point) → IsFalse (list_any (λ area. covers area.1 p) (unmet extent s.areas)) → stars_of (rebuilt s (met extent s.areas)) p ≡ fresh_star s p
    validated_cover p h = go (is_under (met extent s.areas) p) refl
      where
        go : (b : Bool) → is_under (met extent s.areas) p ≡ b → stars_of (rebuilt s (met extent s.areas)) p ≡ fresh_star s p
        go true e = rebuilt_under s (met extent s.areas) is.sound (sorted_map s.kept is.sorted) p e
        go false e =
            rebuilt_elsewhere s (met extent s.areas) (sorted_map s.kept is.sorted) p e
            ∙ is.cover p (any_split (λ area. covers area.1 p) (λ area. meets area.1 extent) s.areas e h)

    -- the links that a node has by the star at its point
    abbrev ties_by : Star → Node → List Tie
    ties_by star n = option_map_or (λ spot. spot.ties) (find (λ spot. same_port spot.port n.port) star.spots) []

    validated_paths : PathsStay (kept_ground (validated s extent))
    validated_paths n t stands path = go (is_under (met extent s.areas) n.at) refl
      where
        go : (b : Bool) → is_under (met extent s.areas) n.at ≡ b → t.to.at ≡ n.at
        go true e =
            fresh_path s.setup.schema s.features s.areas n t
            (among_from_contains (ties_by (fresh_star s n.at) n) t
            (subst (λ star. Contains (ties_by star n) t) (rebuilt_under s (met extent s.areas) is.sound (sorted_map s.kept is.sorted) n.at e) stands)) path
        go false e =
            is.paths n t (subst (λ star. Contains (ties_by star n) t) (rebuilt_elsewhere s (met extent s.areas) (sorted_map s.kept is.sorted) n.at e) stands) path

    pub validated_state : IsState (validated s extent)
    validated_state = record {
      sound = is.sound;
      fresh_ids = same_ids (next_of s) (next_of (validated s extent)) s.features refl refl is.fresh_ids;
      numbered = AllPairs-filter (λ a b. a.0 ≢ b.0) (λ area. not (meets area.1 extent)) s.areas is.numbered;
      numbers = All-filter (λ area. not (meets area.1 extent)) (λ area. area.0 < s.next_area) s.areas is.numbers;
      sorted = rebuilt_sorted s (met extent s.areas);
      nonempty = all_from (λ pair. pair.1 ≢ empty_star) (rebuilt s (met extent s.areas))
          (rebuilt_nonempty s (met extent s.areas) is.sound (λ pair h. from_all (λ pair. pair.1 ≢ empty_star) s.kept is.nonempty pair h));
      cover = validated_cover;
      paths = validated_paths;
      stored = marked_ordered (changes_under s (met extent s.areas)) s.stored is.stored;
    }

-- ---- a batch

pub made_all_state : (s : State) (es : List Edit) → IsState s → MayAllBeMade s es → IsState (made_by_all s es)
made_all_state s [] is may = is
made_all_state s (e ∷ es) is may = made_all_state (made_at 0 s e) es (made_state s is 0 e may.0) may.1

-- whichever rows have another moment, a state stays one
settled_state : (s : State) (moment : ℕ) (ids : List ℕ) → IsState s → IsState (record s { features = settled_at moment ids s.features })
settled_state s moment ids is = record {
  sound = settled_sound s.setup.schema s.features moment ids is.sound;
  fresh_ids = settled_new s.setup.schema s.features moment ids _ is.fresh_ids;
  numbered = is.numbered;
  numbers = is.numbers;
  sorted = is.sorted;
  nonempty = is.nonempty;
  cover = λ p clean. is.cover p clean ∙ settled_star s.setup.schema s.features moment ids is.sound p;
  paths = is.paths;
  stored = is.stored;
}

pub batched_state : (s : State) (es : List Edit) → IsState s → MayHappen s (command.Batch es) → IsState (batched s es)
batched_state s es is may =
    at_version (record (made_by_all s es) { features = settled_at (s.version + 1) (touched_by_all s es) (made_by_all s es).features }) (s.version + 1)
    (settled_state (made_by_all s es) (s.version + 1) (touched_by_all s es) (made_all_state s es is may))

-- ---- an update

pub stored_state : (s : State) (rows : List StoredSubnet) (version : ℕ) → IsState s → AreOrdered rows → IsState (record s { stored = rows; version = version })
stored_state s rows version is ordered = at_version (record s { stored = rows }) version (record {
  sound = is.sound;
  fresh_ids = is.fresh_ids;
  numbered = is.numbered;
  numbers = is.numbers;
  sorted = is.sorted;
  nonempty = is.nonempty;
  cover = is.cover;
  paths = is.paths;
  stored = ordered;
})

updated_state : (s : State) (tier subnet : List ℕ) → IsState s → IsState (updated s tier subnet)
updated_state s tier subnet is = stored_state s (updated s tier subnet).stored (s.version + 1) is (rows_ordered s tier subnet is.stored)

-- ---- a rule

ruled_state : (s : State) → IsState s → (o : Option Rule) → IsState (ruled s o)
ruled_state s is None = at_version s (s.version + 1) is
ruled_state s is (Some rule) = edited_state s is (edit.Rule rule) tt

-- ---- all

pub cover_is_kept : CoverLaw
cover_is_kept s (command.Edit e) is may = edited_state s is e may
cover_is_kept s (command.Batch es) is may = batched_state s es is may
cover_is_kept s (command.Validate extent) is may = validated_state s is extent
cover_is_kept s (command.Update tier subnet) is may = updated_state s tier subnet is
cover_is_kept s (command.Rule named) is may = ruled_state s is (rule_of s named)
