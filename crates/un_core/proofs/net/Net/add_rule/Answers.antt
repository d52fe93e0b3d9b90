use Rattle.std.proofs.Common.{◌≡◌, Some, refl, sym, ap, ◌∙◌, subst}
use Rattle.std.proofs.lemmas.Result.{err_from_is_err_and}
use Rattle.un_defs.specs.declared.edit.Edit.TheVariants.{Rule as RuleEdit}
use Rattle.un_defs.specs.Dirtied.{dirtied}
use Rattle.un_dirty.specs.Areas.{added}
use Rattle.un_facts.specs.Known.{in_force}
use Rattle.un_facts.specs.Ruling.{rule_refusal}
use Rattle.un_core.specs.State.{State}
use Rattle.un_core.specs.Refusals.{too_many, added_refusal}
use Rattle.un_core.proofs.Making.{is_state, two_second}
use Rattle.un_core.proofs.net.Net.add_rule.Goals as goal

pub with_made-requires : goal.with_made-requires
with_made-requires c =
    is_state c.self.inside.facts c.self.inside.kept c.self.inside.dirty c.self.inside.stored c.self.inside.version c.self.inside.ids 0 (RuleEdit c.args.rule.now)
    c.in_ok-facts.field-0.facts c.in_ok-dirty.dirty c.self.inside.ids c.in_ok-facts.ensures.features
    (c.in_ok-dirty.ensures.list ∙ ap (added c.self.inside.dirty) (c.deref.ensures.value ∙ c.in_ok-facts.ensures.dirtied)) refl c.args.self.now c.self.view_is
    c.self.invariant tt

pub returns-in_err-dirty-clause-bad : goal.returns-in_err-dirty-clause-bad
returns-in_err-dirty-clause-bad c =
    let K = c.self.inside.facts in
    let rule = c.args.rule.now in
    let r = c.in_err-dirty.field-0.0 in
    let p = err_from_is_err_and c.from_residual-in_err-dirty.result c.from_residual-in_err-dirty.ensures.1 in
    rw (p.1, p.2)
    (λ memory. subst (λ (s : State). added_refusal s (Some rule) ≡ Some r) c.self.view_is
    (two_second (rule_refusal (in_force K) rule) (too_many c.self.inside.dirty.areas (dirtied K.features (RuleEdit rule))) r c.in_ok-facts.ensures.good
    (sym (ap (too_many c.self.inside.dirty.areas) (c.deref.ensures.value ∙ c.in_ok-facts.ensures.dirtied)) ∙ c.in_err-dirty.ensures.bad memory)))
