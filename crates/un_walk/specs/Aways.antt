-- Links that a walk has met, and follows later.
use Rattle.std.specs.Prelude.{◌≡◌, ◌⊎◌, ℕ, ◌≤◌, Bool, true, List, ◌++◌, Contains}
use Rattle.un_defs.specs.declared.port.Node.{Node}
use Rattle.un_defs.specs.declared.link.Tie.{Tie}
use Rattle.un_defs.specs.declared.walk.Mode.{Mode}
use Rattle.un_defs.specs.declared.walk.Barriers.{Barriers}
use Rattle.un_defs.specs.Ground.{Ground, ties}
use Rattle.un_defs.specs.Reach.{goes_by, is_open}
use Rattle.un_geom.specs.declared.point.Point.{Point}
use Rattle.un_geom.specs.Places.{same_point}
use Rattle.un_walk.specs.declared.order.Order.{Order}
use Rattle.un_walk.specs.declared.order.Order.TheVariants.{Breadth, Depth}
use Rattle.un_walk.specs.declared.traversal.Away.{Away}
use Rattle.un_walk.specs.declared.found.Found.{Found}
use Rattle.un_walk.specs.Traced.{Traces}

-- a link from a node at the second point to one at the first is followed at once, and not put off
abbrev pub at_once : Order → Point → Point → Bool
at_once Breadth p q = true
at_once Depth p q = same_point p q

-- the link of the node at the place is among them
pub record HasAway (aways : List Away) (p : ℕ) (t : Tie) : Type 0 where
  pub away : Away
  pub stands : Contains aways away
  pub from : away.from ≡ p
  pub tie : away.tie.now ≡ t

-- a link of this open node, which has the place, and by which a walk goes
pub record IsAwayOf (G : Ground) (B : Barriers) (mode : Mode) (n : Node) (p : ℕ) (a : Away) : Type 0 where
  pub from : a.from ≡ p
  pub opened : is_open G B n ≡ true
  pub stands : Contains (ties G n) a.tie.now
  pub goes : goes_by G B mode n a.to a.tie.now ≡ true

-- links by their places that are done
abbrev pub AreSettled : List (ℕ × Tie) → ℕ → Tie → Type 0
AreSettled settled p t = Contains settled (p, t)

-- a walk has come to the place: these links, of nodes up to there, are done, and the places from the first on have one root
pub record StandsAt (G : Ground) (B : Barriers) (mode : Mode) (f : Found) (first p : ℕ) (settled : List (ℕ × Tie)) : Type 0 where
  pub low : first ≤ p
  pub bounded : (q : ℕ) (t : Tie) → Contains settled (q, t) → q ≤ p
  pub traces : Traces G B mode f first (AreSettled settled)

-- more links are done, and of the node at the place each of these links by which a walk goes is done or put off
pub record Follows (G : Ground) (B : Barriers) (mode : Mode) (f : Found) (aways : List Away) (n : Node) (first p : ℕ) (settled : List (ℕ × Tie)) (ts : List Tie) : Type 0 where
  pub more : List (ℕ × Tie)
  pub after : StandsAt G B mode f first p (more ++ settled)
  pub covers : is_open G B n ≡ true → (t : Tie) (m : Node) → Contains ts t → goes_by G B mode n m t ≡ true → Contains (more ++ settled) (p, t) ⊎ HasAway aways p t

-- the walk went from f to g by the links of the node at the place: each by which it goes is done, or put off, at the end of the list
pub record FollowsAll (G : Ground) (B : Barriers) (mode : Mode) (f g : Found) (old new : List Away) (n : Node) (p : ℕ) : Type 0 where
  pub aways : List Away
  pub is : new ≡ old ++ aways
  pub of : (a : Away) → Contains aways a → IsAwayOf G B mode n p a
  pub follows : (first : ℕ) (settled : List (ℕ × Tie)) → StandsAt G B mode f first p settled → Follows G B mode g aways n first p settled (ties G n)
