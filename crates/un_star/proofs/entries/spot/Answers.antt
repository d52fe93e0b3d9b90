use Rattle.std.proofs.Common.{◌∙◌, ap}
use Rattle.un_defs.specs.Features.{associations_of}
use Rattle.un_defs.proofs.Standing.{from_row}
use Rattle.un_star.proofs.entries.spot.Goals as goal

pub ties_of-requires-clause-assocs : goal.ties_of-requires-clause-assocs
ties_of-requires-clause-assocs g c =
    let F = g.R.Rows.features c.args.rows.now in
    c.as_slice.ensures.value ∙ c.in_ok-assocs.ensures ∙ ap (associations_of F) (from_row F c.args.port.feature c.args.row.now c.requires.row).1
