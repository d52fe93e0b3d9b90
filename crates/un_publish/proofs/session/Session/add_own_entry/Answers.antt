use Rattle.std.proofs.Common.{◌≡◌, ap, arith}
use Rattle.un_publish.specs.Models.{SessionModel}
use Rattle.un_publish.proofs.Own.{entries_le}
use Rattle.un_publish.proofs.session.Session.add_own_entry.Goals as goal

pub overflow_add-self : goal.overflow_add-self
overflow_add-self g c =
    let below = entries_le c.args.self.now.number c.args.log.now in
    let same : c.self.inside.own ≡ c.args.self.now.own = ap (λ (s : SessionModel g.row.M.Denot g.row.M-Cmd.Denot g.row.M-Reply.Denot g.row.M-Hint.Denot g.row.M-Mark.Denot). s.own) c.self.view_is in
    omega (arith, below, c.requires.own, same, c.len-most.ensures)
