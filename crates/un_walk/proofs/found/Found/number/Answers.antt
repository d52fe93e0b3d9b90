use Rattle.std.proofs.Common.{◌≡◌, ◌∙◌, List, ◌<◌, map, length, refl, sym, ap, subst, inr, arith}
use Rattle.std.proofs.lemmas.List.{length-map}
use Rattle.un_geom.specs.declared.point.Point.{Point}
use Rattle.un_defs.specs.Ground.{Ground}
use Rattle.un_walk.specs.declared.site.Site.{Site}
use Rattle.un_walk.specs.Site.{IsSite}
use Rattle.un_walk.specs.Visits.{Visited, IsOneMore}
use Rattle.un_walk.specs.declared.found.Found.{Found}
use Rattle.un_walk.specs.Found.{number_of, IsNumberOf, IsWithoutNumber, IsUnmarkedAt}
use Rattle.un_walk.proofs.FoundOver.{point_more, same_found}
use Rattle.un_walk.proofs.Marking.{point_known, point_new, number_new}
use Rattle.un_walk.proofs.found.Found.number.Goals as goal

-- as many points as were visited
count : (f : Found) → f.points ≡ map (λ (v : Visited). v.site.at) f.visited → length f.points ≡ length f.visited
count f e = ap length e ∙ length-map f.visited (λ (v : Visited). v.site.at)

pub returns-then-number-count-clause-over : goal.returns-then-number-count-clause-over
returns-then-number-count-clause-over g c =
    let f : Found = c.args.self.now in
    let known : number_of f.points c.args.at < length f.points = omega (arith, c.if-number-count.true, c.in_ok-number.ensures.number, c.len-count.ensures, count f c.requires.points) in
    same_found (g.G.Ground.stars_and_areas c.args.over.now) f _ c.requires (c.in_ok-number.ensures.points ∙ point_known f.points c.args.at known) refl refl refl

pub returns-then-number-count-clause-number : goal.returns-then-number-count-clause-number
returns-then-number-count-clause-number g c =
    let f : Found = c.args.self.now in
    let known : number_of f.points c.args.at < length f.points = omega (arith, c.if-number-count.true, c.in_ok-number.ensures.number, c.len-count.ensures, count f c.requires.points) in
    subst (λ ps. IsNumberOf ps c.args.at c.in_ok-number.number) (sym (c.in_ok-number.ensures.points ∙ point_known f.points c.args.at known))
    (c.in_ok-number.ensures.number, subst (λ k. k < length f.points) (sym c.in_ok-number.ensures.number) known)

-- nothing is marked at a point that is new
unmarked_at : (G : Ground) (p : Point) (s : Site) (old new : List Visited) → IsSite G s → s.at ≡ p → (one : IsOneMore old new s) → IsUnmarkedAt G p one.last
unmarked_at G p s old new site at one = record {
  at = ap (λ (t : Site). t.at) one.site ∙ at;
  site = subst (IsSite G) (sym one.site) site;
  unmarked = one.unmarked;
}

pub returns-clause-over : goal.returns-clause-over
returns-clause-over g c =
    let G : Ground = g.G.Ground.stars_and_areas c.args.over.now in
    let f : Found = c.args.self.now in
    let new : IsWithoutNumber f.points c.args.at = omega (arith, c.if-number-count.false, c.in_ok-number.ensures.number, c.len-count.ensures, count f c.requires.points) in
    let one = c.in_ok-push.ensures in
    point_more G f c.requires c.args.at one.last (unmarked_at G c.args.at c.looked_up-site.result f.visited c.push.new.self c.looked_up-site.ensures.site c.looked_up-site.ensures.at one) new _
    c.in_ok-number.ensures.points one.is refl refl

pub returns-clause-number : goal.returns-clause-number
returns-clause-number g c =
    let f : Found = c.args.self.now in
    let new : IsWithoutNumber f.points c.args.at = omega (arith, c.if-number-count.false, c.in_ok-number.ensures.number, c.len-count.ensures, count f c.requires.points) in
    subst (λ ps. IsNumberOf ps c.args.at c.in_ok-number.number) (sym (c.in_ok-number.ensures.points ∙ point_new f.points c.args.at new))
    (number_new f.points c.args.at c.in_ok-number.number c.in_ok-number.ensures.number new)

pub returns-clause-once : goal.returns-clause-once
returns-clause-once g c =
    let f : Found = c.args.self.now in
    let new : IsWithoutNumber f.points c.args.at = omega (arith, c.if-number-count.false, c.in_ok-number.ensures.number, c.len-count.ensures, count f c.requires.points) in
    inr (c.looked_up-site.ensures.once, new)

pub returns-clause-chords : goal.returns-clause-chords
returns-clause-chords g c = c.in_ok-reserve.ensures.items
