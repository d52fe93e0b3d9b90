use Rattle.std.proofs.Common.{IfOk, sym, subst}
use Rattle.std.specs.Option.{IfSome}
use Rattle.un_rebuild.specs.Preparing.{AreUsable}
use Rattle.un_rebuild.specs.Renewed.{IsRebuilt}
use Rattle.un_core.specs.State.{known}
use Rattle.un_core.specs.Validation.{met}
use Rattle.un_core.proofs.net.Net.rebuilt_with.Goals as goal

pub rebuild-requires : goal.rebuild-requires
rebuild-requires c = subst (λ s. IfSome c.args.usable (λ u. AreUsable (known s) u.now)) (sym c.self.view_is) c.requires

pub returns : goal.returns
returns c =
    subst (λ s. IfOk c.rebuild.result (IsRebuilt (known s) s.kept (met c.args.extent s.areas))) c.self.view_is c.rebuild.ensures
