use Rattle.std.proofs.Common.{sym, subst}
use Rattle.un_asof.specs.Pasts.{IsAfter}
use Rattle.un_turns.proofs.handle.keep_view.Goals as goal

pub returns-in-Ok : goal.returns-in-Ok
returns-in-Ok g c log stands after =
    c.keep.ensures.stands log stands (subst (λ s. IsAfter g.M.Machine.step g.J.BoardName.opening log (c.args.view.now.version, s)) (sym c.in-Ok.ensures) after)
