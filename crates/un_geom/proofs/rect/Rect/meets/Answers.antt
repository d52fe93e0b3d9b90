use Rattle.std.proofs.Common.{arith, subst}
use Rattle.std.proofs.lemmas.Int.{to_z-of_z}
use Rattle.std.proofs.lemmas.Grind.{common_steps}
use Rattle.un_geom.specs.Rectangle.{IsBounded}
use Rattle.un_geom.proofs.Rectangles.{shared_by_test}
use Rattle.un_geom.proofs.rect.Rect.meets.Goals as goal

pub returns-then-across-clause-value : goal.returns-then-across-clause-value
returns-then-across-clause-value c = rw (← c.self.view_is, ← c.other.view_is) (grind (arith, common_steps, to_z-of_z))

pub returns-else-across-clause-value : goal.returns-else-across-clause-value
returns-else-across-clause-value c = rw (← c.self.view_is, ← c.other.view_is) (grind (arith, common_steps, to_z-of_z))

pub returns-then-across-clause-shared : goal.returns-then-across-clause-shared
returns-then-across-clause-shared c =
    shared_by_test _ c.args.self.now c.args.other.now (subst IsBounded c.self.view_is c.self.invariant)
    (subst IsBounded c.other.view_is c.other.invariant) (returns-then-across-clause-value c)

pub returns-else-across-clause-shared : goal.returns-else-across-clause-shared
returns-else-across-clause-shared c =
    shared_by_test _ c.args.self.now c.args.other.now (subst IsBounded c.self.view_is c.self.invariant)
    (subst IsBounded c.other.view_is c.other.invariant) (returns-else-across-clause-value c)
