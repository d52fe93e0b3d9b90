use Rattle.std.proofs.Common.{◌≡◌, ◌∙◌, ap, List}
use Rattle.un_geom.specs.declared.point.Point.{Point}
use Rattle.un_schema.specs.Catalog.{Catalog}
use Rattle.un_defs.specs.declared.star.Spot.{Spot}
use Rattle.un_defs.specs.declared.star.TopoError.{TopoError}
use Rattle.un_defs.specs.Features.{Features}
use Rattle.un_defs.specs.Errors.{errors}
use Rattle.un_defs.specs.Sound.{IsSound}
use Rattle.un_defs.specs.Star.{star, spots}
use Rattle.un_star.specs.Entries.{spots_here}
use Rattle.un_star.specs.Errors.{errors_here}
use Rattle.un_star.proofs.EntriesHere.{spots_are}
use Rattle.un_star.proofs.ErrorsHere.{errors_are}
use Rattle.un_star.proofs.star.build.Goals as goal

-- the entries and errors by the ports at the point are those of the star
both_are : (S : Catalog) (F : Features) → IsSound S F → F.rules ≡ S.rules → (p q : Point) → q ≡ p → (xs : List Spot) (es : List TopoError)
    → xs ≡ spots_here S F q → es ≡ errors_here S F q → record { spots = xs; errors = es } ≡ star S F p
both_are S F sound rules p q at xs es e f =
    let entries : xs ≡ spots S F p = e ∙ ap (spots_here S F) at ∙ spots_are S F sound rules p in
    let wrong : es ≡ errors S F p = f ∙ ap (errors_here S F) at ∙ errors_are S F sound rules p in
    λ i. record { spots = entries i; errors = wrong i }

pub returns : goal.returns
returns g c =
    both_are (g.R.Rows.catalog c.args.rows.now) (g.R.Rows.features c.args.rows.now) (g.met.R.Rows.sound c.args.rows.now) (g.met.R.Rows.same_rules c.args.rows.now)
    c.args.p c.in_ok-meeting.meeting.at c.in_ok-meeting.ensures.at c.new.result c.new-2.result
    (c.new.ensures ∙ c.in_ok-spots.ensures) (c.new-2.ensures ∙ c.in_ok-errors.ensures)
