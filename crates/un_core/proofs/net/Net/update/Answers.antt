use Rattle.std.proofs.Common.{◌≡◌, ◌+◌, None, Some, unwrap_or, refl, sym, ap, subst, ◌∙◌, rules}
use Rattle.std.proofs.lemmas.Result.{err_from_is_err_and}
use Rattle.un_defs.specs.declared.refusal.Refusal.TheVariants.{NoSuchTier}
use Rattle.un_ask.specs.declared.reply.Reply.TheVariants as reply
use Rattle.un_tiers.specs.Lists.{tier_named}
use Rattle.un_subnet.specs.Outcome.{outcome_refusal, stored_row}
use Rattle.un_subnet.specs.Stored.{with_row}
use Rattle.un_core.specs.State.{State}
use Rattle.un_core.specs.Cover.{IsState}
use Rattle.un_core.specs.Updating.{number_of, outcome, done}
use Rattle.un_core.specs.Refusals.{numbers_refusal}
use Rattle.un_core.proofs.Making.{two_none, two_first, two_second}
use Rattle.un_core.proofs.Updated.{outcome_named, outcome_unnamed, done_none}
use Rattle.un_core.proofs.net.Net.update.Goals as goal

pub returns-in_err-check_numbers-clause-good : goal.returns-in_err-check_numbers-clause-good
returns-in_err-check_numbers-clause-good c =
    let p = err_from_is_err_and c.from_residual.result c.from_residual.ensures.1 in
    rw p.1 tt

pub returns-in_err-check_numbers-clause-bad : goal.returns-in_err-check_numbers-clause-bad
returns-in_err-check_numbers-clause-bad c =
    let s = c.args.self.now in
    let p = err_from_is_err_and c.from_residual.result c.from_residual.ensures.1 in
    rw (p.1, p.2)
    (λ memory. two_first (numbers_refusal s) (outcome_refusal (outcome s c.args.tier.now c.args.subnet.now)) c.in_err-check_numbers.field-0.0 c.in_err-check_numbers.ensures.bad)

pub returns-in_default-clause-bad : goal.returns-in_default-clause-bad
returns-in_default-clause-bad c = λ other.
    let s = c.args.self.now in
    let tier = c.args.tier.now in
    let subnet = c.args.subnet.now in
    let none : tier_named s.setup.tiers tier ≡ None = search rules in
    two_second (numbers_refusal s) (outcome_refusal (outcome s tier subnet)) NoSuchTier c.in_ok-check_numbers.ensures.good
    (ap outcome_refusal (sym (outcome_unnamed s tier subnet none)))

pub returns-in_err-row-clause-bad : goal.returns-in_err-row-clause-bad
returns-in_err-row-clause-bad c =
    let s = c.args.self.now in
    let tier = c.args.tier.now in
    let subnet = c.args.subnet.now in
    let named : tier_named s.setup.tiers tier ≡ Some c.in-Some.number = search rules in
    let is = subst IsState c.self.view_is c.self.invariant in
    let p = err_from_is_err_and c.from_residual-in_err-row.result c.from_residual-in_err-row.ensures.1 in
    rw (p.1, p.2)
    (λ other. two_second (numbers_refusal s) (outcome_refusal (outcome s tier subnet)) c.in_err-row.field-0.0 c.in_ok-check_numbers.ensures.good
    (ap outcome_refusal (sym (outcome_named s is tier subnet c.in-Some.number named)) ∙ c.in_err-row.ensures.bad other))

pub returns-in_err-with_row-clause-bad : goal.returns-in_err-with_row-clause-bad
returns-in_err-with_row-clause-bad c =
    let p = err_from_is_err_and c.from_residual-in_err-with_row.result c.from_residual-in_err-with_row.ensures.1 in
    rw (p.1, p.2) (λ other. absurd (other refl))

pub returns-clause-state : goal.returns-clause-state
returns-clause-state c =
    let s = c.args.self.now in
    let tier = c.args.tier.now in
    let subnet = c.args.subnet.now in
    let named : tier_named s.setup.tiers tier ≡ Some c.in-Some.number = search rules in
    let is = subst IsState c.self.view_is c.self.invariant in
    let done_is : done c.in_ok-row.row ≡ outcome s tier subnet = sym c.in_ok-row.ensures.row ∙ outcome_named s is tier subnet c.in-Some.number named in
    let version_is : c.self.inside.version + 1 ≡ s.version + 1 = ap (λ (t : State). t.version + 1) c.self.view_is in
    let row_is = c.at_version-row.ensures ∙ (λ i. stored_row (done_is i) (version_is i)) in
    let number_is : c.in-Some.number ≡ number_of s tier = ap (λ o. unwrap_or o 0) (sym named) in
    c.in_ok-with_row.ensures.net ∙ (λ i. record s { stored = with_row s.stored (number_is i) subnet (row_is i); version = version_is i })

pub returns-clause-reply : goal.returns-clause-reply
returns-clause-reply c =
    let s = c.args.self.now in
    let tier = c.args.tier.now in
    let subnet = c.args.subnet.now in
    let named : tier_named s.setup.tiers tier ≡ Some c.in-Some.number = search rules in
    let is = subst IsState c.self.view_is c.self.invariant in
    let done_is : done c.in_ok-row.row ≡ outcome s tier subnet = sym c.in_ok-row.ensures.row ∙ outcome_named s is tier subnet c.in-Some.number named in
    let version_is : c.self.inside.version + 1 ≡ s.version + 1 = ap (λ (t : State). t.version + 1) c.self.view_is in
    let row_is = c.at_version-row.ensures ∙ (λ i. stored_row (done_is i) (version_is i)) in
    c.in_ok-with_row.ensures.reply ∙ (λ i. reply.Updated (row_is i) (version_is i))

pub returns-clause-good : goal.returns-clause-good
returns-clause-good c =
    let s = c.args.self.now in
    let tier = c.args.tier.now in
    let subnet = c.args.subnet.now in
    let named : tier_named s.setup.tiers tier ≡ Some c.in-Some.number = search rules in
    let is = subst IsState c.self.view_is c.self.invariant in
    let done_is : done c.in_ok-row.row ≡ outcome s tier subnet = sym c.in_ok-row.ensures.row ∙ outcome_named s is tier subnet c.in-Some.number named in
    two_none (numbers_refusal s) (outcome_refusal (outcome s tier subnet)) c.in_ok-check_numbers.ensures.good (ap outcome_refusal (sym done_is) ∙ done_none c.in_ok-row.row)
