use Rattle.std.proofs.Common.{◌==◌, ◌&&◌, map, nat_cmp, ap, ◌∙◌}
use Rattle.un_defs.specs.Orders.{rising}
use Rattle.un_defs.specs.Permit.{permitted}
use Rattle.un_defs.specs.Star.{is_attachment}
use Rattle.un_star.proofs.Filtering.{filters_commute}
use Rattle.un_star.proofs.entries.structures.Goals as goal

pub returns : goal.returns
returns g c =
    let F = g.R.Rows.features c.args.rows.now in
    let id = c.args.id in
    let assocs = c.args.assocs.now in
    c.new.ensures ∙ c.in_ok-ids-2.ensures
    ∙ ap (rising nat_cmp) (c.as_slice-2.ensures.value ∙ c.in_ok-ids.ensures
    ∙ ap (map (λ a. a.from.feature)) (c.as_slice.ensures.value ∙ c.in_ok-found.ensures
    ∙ filters_commute (λ a. is_attachment a.sort && permitted F a) (λ a. a.to.feature == id) assocs))
