use Rattle.std.proofs.Common.{◌∙◌, sym, ap, ◌++◌}
use Rattle.std.proofs.lemmas.List.{append-nil}
use Rattle.std.specs.Option.{option_map, option_copied}
use Rattle.un_schema.specs.Catalog.{Catalog, PathSet, config_of}
use Rattle.un_star.proofs.Paths.{no_ties_by_paths, without_path, without_config, ties_by_path, path_lives}
use Rattle.un_star.proofs.links.add_device_paths.Goals as goal

pub returns-in_default : goal.returns-in_default
returns-in_default g c =
    let S = g.R.Rows.catalog c.args.rows.now in
    sym (append-nil c.args.ties.now.items) ∙ ap (λ l. c.args.ties.now.items ++ l)
    (sym (no_ties_by_paths S c.args.row.now (without_path S c.args.row.now c.in_default.is) c.args.node))

pub returns-in_default-config : goal.returns-in_default-config
returns-in_default-config g c =
    let S = g.R.Rows.catalog c.args.rows.now in
    sym (append-nil c.args.ties.now.items) ∙ ap (λ l. c.args.ties.now.items ++ l)
    (sym (no_ties_by_paths S c.args.row.now (without_config S c.args.row.now
    (ap (λ (T : Catalog). option_map (λ (c : PathSet). c.config) (config_of T c.args.row.now.kind)) (sym c.schema.ensures) ∙ sym c.config.ensures ∙ ap option_copied c.in_default-config.is)) c.args.node))

pub add_paths_of-requires : goal.add_paths_of-requires
add_paths_of-requires g c =
    let now = c.args.rows.now in
    path_lives (g.R.Rows.catalog now) (g.R.Rows.features now) (g.met.R.Rows.sound now) c.args.node.port.feature c.args.row.now c.requires.row
    c.in-Some.number c.in-Some-config.config.now c.in-Some.is
    (ap (λ (T : Catalog). option_map (λ (c : PathSet). c.config) (config_of T c.args.row.now.kind)) (sym c.schema.ensures) ∙ sym c.config.ensures ∙ ap option_copied c.in-Some-config.is)

pub returns : goal.returns
returns g c =
    let S = g.R.Rows.catalog c.args.rows.now in
    c.in_ok-add_paths_of.ensures ∙ ap (λ l. c.args.ties.now.items ++ l)
    (sym (ties_by_path S c.args.row.now c.in-Some.number c.in-Some-config.config.now c.in-Some.is
    (ap (λ (T : Catalog). option_map (λ (c : PathSet). c.config) (config_of T c.args.row.now.kind)) (sym c.schema.ensures) ∙ sym c.config.ensures ∙ ap option_copied c.in-Some-config.is)
    c.args.node c.requires.device))
