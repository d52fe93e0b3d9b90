use Rattle.std.proofs.Common.{◌≡◌, get_or, true, false, is_some, sym, ap, ◌∙◌}
use Rattle.std.specs.Prelude.{not}
use Rattle.un_defs.specs.declared.port.Port.{Port}
use Rattle.un_defs.specs.declared.refusal.Refusal.TheVariants as refusal
use Rattle.un_defs.specs.Features.{row}
use Rattle.un_defs.specs.Refusing.{refused_if}
use Rattle.un_resolve.specs.Starts.{no_feature}
use Rattle.un_resolve.proofs.Checking.{refusal_further, refusal_here, some_copied}
use Rattle.un_resolve.proofs.starts.check_features.Goals as goal

pub loop-port-preserved : goal.loop-port-preserved
loop-port-preserved g c =
    let F = g.D.Directory.features c.args.features.now in
    let ports = c.args.ports.now in
    let k = c.loop-port.port-index in
    let d : Port = record { feature = 0; number = 0 } in
    let q : Port = get_or ports k d in
    let found : is_some (row F q.feature) ≡ true = ap is_some (sym c.row.ensures) ∙ some_copied c.row.result ∙ c.is_none.ensures ∙ ap not c.if-is_none.false in
    c.loop-port.invariant ∙ refusal_further (no_feature F) ports k d c.loop-port-test.true (ap (λ b. refused_if (not b) (refusal.NoSuchFeature q.feature)) found)

pub returns-then-is_none-clause-bad : goal.returns-then-is_none-clause-bad
returns-then-is_none-clause-bad g c =
    let F = g.D.Directory.features c.args.features.now in
    let ports = c.args.ports.now in
    let k = c.loop-port.port-index in
    let d : Port = record { feature = 0; number = 0 } in
    let q : Port = get_or ports k d in
    let found : is_some (row F q.feature) ≡ false = ap is_some (sym c.row.ensures) ∙ some_copied c.row.result ∙ c.is_none.ensures ∙ ap not c.if-is_none.true in
    c.loop-port.invariant
    ∙ refusal_here (no_feature F) ports k d (refusal.NoSuchFeature q.feature) c.loop-port-test.true (ap (λ b. refused_if (not b) (refusal.NoSuchFeature q.feature)) found)
