use Rattle.std.proofs.Common.{◌≡◌, true, IfSome, sym, subst}
use Rattle.un_dirty.specs.Cells.{IsIn, cell_at, covers_at, IsAtMost}
use Rattle.un_dirty.proofs.Indexed.{one_more}
use Rattle.un_dirty.proofs.Least.{lesser_sound, lesser_first, lesser_second}
use Rattle.un_dirty.proofs.cells.least_over.Goals as goal

pub loop-level-preserved : goal.loop-level-preserved
loop-level-preserved c =
    let i = c.loop-level.invariant in
    let found = c.least_in-found.ensures in
    let now = sym c.lesser-least.ensures in
    record {
      sound = subst (λ o. IfSome o (λ n. covers_at c.args.p n c.args.areas.now ≡ true)) now
          (lesser_sound (λ n. covers_at c.args.p n c.args.areas.now ≡ true) c.loop-level.least c.least_in-found.result i.sound found.sound);
      least = λ level n r low there covered over.
          one_more (λ l. IsIn (cell_at l c.args.p) n r c.args.cells.now → IsAtMost c.lesser-least.result n) c.loop-level.level
          (λ l below e. subst (λ o. IsAtMost o n) now (lesser_first c.loop-level.least c.least_in-found.result n (i.least l n r below e covered over)))
          (λ e. subst (λ o. IsAtMost o n) now (lesser_second c.loop-level.least c.least_in-found.result n
          (found.least n r (subst (λ k. IsIn k n r c.args.cells.now) (sym c.cell_of.ensures) e) covered over)))
          level low there;
    }
