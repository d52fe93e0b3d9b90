use Rattle.std.proofs.Common.{arith}
use Rattle.std.proofs.lemmas.Int.{to_z-of_z}
use Rattle.std.proofs.lemmas.Grind.{common_steps}
use Rattle.un_geom.proofs.rect.Rect.covers.Goals as goal

pub returns-then-across : goal.returns-then-across
returns-then-across c = rw (← c.self.view_is) (grind (arith, common_steps, to_z-of_z))

pub returns-else-across : goal.returns-else-across
returns-else-across c = rw (← c.self.view_is) (grind (arith, common_steps, to_z-of_z))
