use Rattle.std.proofs.Common.{◌≡◌, IfOk, subst}
use Rattle.un_tiers.specs.declared.setup.Setup.{Setup}
use Rattle.un_core.specs.State.{State, opening}
use Rattle.un_script.proofs.BuiltIn.{set_up, not_bad}
use Rattle.un_script.proofs.make.network.open.Goals as goal

pub unreachable-requires : goal.unreachable-requires
unreachable-requires c = not_bad _ _ c.in-Err-BadSchema.ensures.bad c.in-Err-BadSchema.field-0-is

pub returns-in-Ok : goal.returns-in-Ok
returns-in-Ok c =
    subst (λ (S : Setup). IfOk c.open.result (λ (net : State). net ≡ opening S)) (set_up _ _ c.in-Ok.ensures.ok) c.open.ensures
