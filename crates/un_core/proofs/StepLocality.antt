-- A command changes the stars of the features only under the rectangles that it makes dirty.
use Rattle.std.proofs.Common.{◌≡◌, ℕ, ◌+◌, List, [], ◌∷◌, Option, None, Some, refl, sym, ◌∙◌, IsFalse}
use Rattle.std.specs.List.{list_any}
use Rattle.std.proofs.lemmas.List.Folds.{list_any-append}
use Rattle.un_geom.specs.declared.point.Point.{Point}
use Rattle.un_geom.specs.Places.{covers}
use Rattle.un_schema.specs.declared.rule.Rule.{Rule}
use Rattle.un_defs.specs.declared.edit.Edit.{Edit}
use Rattle.un_defs.specs.declared.edit.Edit.TheVariants as edit
use Rattle.un_defs.specs.Star.{star}
use Rattle.un_defs.specs.Change.{changed}
use Rattle.un_defs.specs.Dirtied.{dirtied}
use Rattle.un_defs.specs.Laws.{MayBeMade}
use Rattle.un_defs.proofs.Locality.{locality, or_both}
use Rattle.un_facts.proofs.Settled.{settled_star}
use Rattle.un_ask.specs.declared.request.Command.TheVariants as command
use Rattle.un_core.specs.State.{State, fresh_star}
use Rattle.un_core.specs.Step.{setting, next_with, next_of, made_at, made_by_all, touched_by_all, dirtied_by_batch, rule_of, ruled, dirtied_by_rule}
use Rattle.un_core.specs.Cover.{IsState, MayAllBeMade, StepLocalityLaw}
use Rattle.un_core.proofs.CoverKept.{same_ids, made_state, made_all_state}

edit_is_local : (s : State) → IsState s → (moment : ℕ) (e : Edit) → MayBeMade (setting s) (next_with s moment) s.features e
    → (p : Point) → IsFalse (list_any (λ r. covers r p) (dirtied s.features e))
    → star s.setup.schema (changed (setting s) (next_with s moment) s.features e) p ≡ fresh_star s p
edit_is_local s is moment e may p clean =
    locality (setting s) (next_with s moment) s.features e is.sound (same_ids (next_of s) (next_with s moment) s.features refl refl is.fresh_ids) may p clean

batch_is_local : (s : State) (es : List Edit) → IsState s → MayAllBeMade s es → (p : Point) → IsFalse (list_any (λ r. covers r p) (dirtied_by_batch s es))
    → fresh_star (made_by_all s es) p ≡ fresh_star s p
batch_is_local s [] is may p clean = refl
batch_is_local s (e ∷ es) is may p clean =
    let both = or_both (list_any (λ r. covers r p) (dirtied s.features e)) (list_any (λ r. covers r p) (dirtied_by_batch (made_at 0 s e) es))
    (sym (list_any-append (λ r. covers r p) (dirtied s.features e) (dirtied_by_batch (made_at 0 s e) es)) ∙ clean) in
    batch_is_local (made_at 0 s e) es (made_state s is 0 e may.0) may.1 p both.1 ∙ edit_is_local s is 0 e may.0 p both.0

rule_is_local : (s : State) → IsState s → (o : Option Rule) (p : Point) → IsFalse (list_any (λ r. covers r p) (dirtied_by_rule s o)) → fresh_star (ruled s o) p ≡ fresh_star s p
rule_is_local s is None p clean = refl
rule_is_local s is (Some rule) p clean = edit_is_local s is (s.version + 1) (edit.Rule rule) tt p clean

pub steps_are_local : StepLocalityLaw
steps_are_local s (command.Edit e) is may p clean = edit_is_local s is (s.version + 1) e may p clean
steps_are_local s (command.Batch es) is may p clean =
    sym (settled_star (made_by_all s es).setup.schema (made_by_all s es).features (s.version + 1) (touched_by_all s es) (made_all_state s es is may).sound p)
    ∙ batch_is_local s es is may p clean
steps_are_local s (command.Validate extent) is may p clean = refl
steps_are_local s (command.Update tier subnet) is may p clean = refl
steps_are_local s (command.Rule named) is may p clean = rule_is_local s is (rule_of s named) p clean
