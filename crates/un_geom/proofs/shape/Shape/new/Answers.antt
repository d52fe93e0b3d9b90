use Rattle.std.proofs.Common.{arith, sym, ◌≡◌, None, subst}
use Rattle.std.proofs.lemmas.List.{length-map}
use Rattle.std.proofs.lemmas.List.Elements.{All-map}
use Rattle.un_geom.specs.Places.{bad_place, point_of, IsPlace, IsShape}
use Rattle.un_geom.proofs.BadPlaces.{good_triples, good_count}
use Rattle.un_geom.proofs.shape.Shape.new.Goals as goal

pub vertices-requires : goal.vertices-requires
vertices-requires c = good_triples c.args.least c.args.most c.args.points.now cc

pub invariant_of-result : goal.invariant_of-result
invariant_of-result c =
    let ps = c.args.points.now in
    let good : bad_place c.args.least c.args.most ps ≡ None = cc in
    let count = good_count c.args.least c.args.most ps good in
    let size = length-map ps point_of in
    subst IsShape (sym c.in-Ok.ensures.ok) (record {
      some = omega (arith, count.0, size);
      few = omega (arith, count.1, size);
      placed = All-map IsPlace point_of ps c.in-Ok.ensures.placed;
    })
