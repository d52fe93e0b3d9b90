use Rattle.std.proofs.Common.{◌≡◌, ◌==◌, Some, find, sym, ◌∙◌}
use Rattle.un_assoc.proofs.Lists.{found_id, found_own}
use Rattle.un_assoc.proofs.checks.alive.Goals as goal

there : (c : goal.In-Some) → find (λ b. b.id == c.args.id) c.args.links.now.associations ≡ Some c.in-Some.assoc
there c = sym c.get.ensures ∙ sym c.copied.ensures ∙ c.in-Some.is

pub returns-in-Some-clause-alive : goal.returns-in-Some-clause-alive
returns-in-Some-clause-alive c = found_own c.args.links.now.associations c.args.id c.in-Some.assoc (there c)

pub returns-in-Some-clause-id : goal.returns-in-Some-clause-id
returns-in-Some-clause-id c = found_id c.args.links.now.associations c.args.id c.in-Some.assoc (there c)
