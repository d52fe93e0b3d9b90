use Rattle.std.proofs.Common.{◌≡◌, ℕ, ◌+◌, ◌-◌, ◌≤◌, slice_get, Option, Some, None, IfSome, SomeIff, subst, arith}
use Rattle.un_defs.specs.declared.port.Node.{Node}
use Rattle.un_defs.specs.Ground.{Ground}
use Rattle.un_walk.specs.declared.found.Found.{Found}
use Rattle.un_walk.specs.Visits.{IsPlaceAt, WasMarkedAt}
use Rattle.un_walk.specs.Found.{nodes, IsNumberOf, IsPlaceIn, IsFoundOver}
use Rattle.un_walk.proofs.FoundOver.{placed_in, marked_place}
use Rattle.un_walk.proofs.found.Found.marked_place.Goals as goal

-- what the mark tells
told : (G : Ground) (f : Found) → IsFoundOver G f → (n : Node) (number place mark : ℕ) → IsNumberOf f.points n.at number → IsPlaceIn (G.stars n.at) n.port place → WasMarkedAt f.visited number place mark
    → (o : Option ℕ) → SomeIff o (1 ≤ mark) (mark - 1) → IfSome o (λ k. slice_get (nodes f) k ≡ Some n)
told G f is n number place mark h is_place was None facts = tt
told G f is n number place mark h is_place was (Some k) facts =
    let one : mark ≡ k + 1 = omega (arith, facts.0, facts.1) in
    marked_place G f is n number place k h is_place (subst (WasMarkedAt f.visited number place) one was)

pub returns : goal.returns
returns g c =
    let G : Ground = g.G.Ground.stars_and_areas c.args._over.now in
    let f : Found = c.args.self.now in
    let n : Node = c.args.node in
    let is_place : IsPlaceIn (G.stars n.at) n.port c.in_ok-place.place = placed_in G f c.requires.over n c.args.number c.in_ok-place.place c.requires.number
    (subst (IsPlaceAt f.visited c.args.number n.port) c.in_ok-place.was c.place.ensures) in
    told G f c.requires.over n c.args.number c.in_ok-place.place c.mark.result c.requires.number is_place c.mark.ensures c.checked_sub.result c.checked_sub.ensures
