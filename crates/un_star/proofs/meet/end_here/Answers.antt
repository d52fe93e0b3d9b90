use Rattle.std.proofs.Common.{◌<◌, length, sym, subst}
use Rattle.un_schema.specs.Catalog.{Catalog}
use Rattle.un_defs.proofs.RowFacts.{kind_lives}
use Rattle.un_star.proofs.meet.end_here.Goals as goal

pub any_vertex-requires : goal.any_vertex-requires
any_vertex-requires g c =
    let now = c.args.rows.now in
    subst (λ (S : Catalog). c.args.row.now.kind < length S.kinds) (sym c.schema.ensures)
    (kind_lives (g.R.Rows.catalog now) (g.R.Rows.features now) (g.met.R.Rows.sound now) c.args.port.feature c.args.row.now c.requires)
