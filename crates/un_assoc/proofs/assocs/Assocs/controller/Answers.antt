use Rattle.un_assoc.proofs.RowKinds.{kind_within}
use Rattle.un_assoc.proofs.assocs.Assocs.controller.Goals as goal

pub check_kind-requires : goal.check_kind-requires
check_kind-requires g c = kind_within c.args.schema.now (g.K.Lookup.features c.args.rows.now) c.in-Controller.id c.in_ok-row.row.now c.requires.kinds c.in_ok-row.ensures.row
