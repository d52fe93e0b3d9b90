-- What a walk finds out of a node and its links.
use Rattle.std.proofs.Common.{◌≡◌, ℕ, Bool, true, false, not, ◌&&◌, ◌||◌, [], Some, None, inl, inr, refl, sym, ap, ◌∙◌}
use Rattle.std.specs.List.{list_any}
use Rattle.std.specs.Option.{option_map_or}
use Rattle.un_geom.specs.declared.point.Point.{Point}
use Rattle.un_defs.specs.declared.port.Node.{Node}
use Rattle.un_defs.specs.declared.link.Tie.{Tie}
use Rattle.un_defs.specs.declared.star.Spot.{Spot}
use Rattle.un_defs.specs.declared.star.Star.{Star}
use Rattle.un_defs.specs.declared.walk.Mode.{Mode}
use Rattle.un_defs.specs.declared.walk.Barriers.{Barriers}
use Rattle.un_defs.specs.Orders.{same_port}
use Rattle.un_defs.specs.Ground.{Ground, entry, ties, is_dirty}
use Rattle.un_defs.specs.Reach.{is_open, is_barrier, is_path, is_shut, controls, goes_by, leads, meets_condition}
use Rattle.un_walk.specs.Entries.{controlled_in}
use Rattle.un_walk.specs.Ticks.{IsLookedUpOnce, TiesStay}

-- a node at this point has its controllers in the star there
pub controls_here : (G : Ground) (tier : ℕ) (n : Node) (p : Point) (star : Star) → star ≡ G.stars p → n.at ≡ p → controlled_in star n.port tier ≡ controls G tier n
controls_here G tier n p star e at = ap (λ s. controlled_in s n.port tier) (e ∙ ap G.stars (sym at))

-- where a tier is given, a path is shut by either of its terminals
pub shut_by : (G : Ground) (B : Barriers) (n : Node) (t : Tie) (tier : ℕ) → B.tier ≡ Some tier → is_path t.name ≡ true
    → is_shut G B n t ≡ (controls G tier n || controls G tier t.to)
shut_by G B n t tier e path = (λ i. path i && option_map_or (λ k. controls G k n || controls G k t.to) (e i) false)

-- ---- tests of which some fail

pub goes_when : (s t u : Bool) → (t && u) ≡ true → (s && t && u) ≡ s
goes_when true true u e = e
goes_when true false u e = e
goes_when false true u e = refl
goes_when false false u e = refl

pub goes_not : (s t u : Bool) → (t && u) ≡ false → (s && t && u) ≡ false
goes_not true true u e = e
goes_not true false u e = refl
goes_not false true u e = refl
goes_not false false u e = refl

and_false : (b : Bool) → (b && false) ≡ false
and_false true = refl
and_false false = refl

or_true : (b : Bool) → (b || true) ≡ true
or_true true = refl
or_true false = refl

module _ (G : Ground) (B : Barriers) (mode : Mode) (n : Node) where
  -- from a node that is not open no step leads on
  pub leads_not : is_open G B n ≡ false → (m : Node) → leads G B mode n m ≡ false
  leads_not e m = ap (λ b. b && list_any (goes_by G B mode n m) (ties G n)) e

  pub shut_by_dirt : (B.consistent && is_dirty G n.at) ≡ true → is_open G B n ≡ false
  shut_by_dirt e = ap (λ b. not (is_barrier G B n) && not b) e ∙ and_false (not (is_barrier G B n))

  pub shut_by_stop : list_any (same_port n.port) B.stops ≡ true → is_open G B n ≡ false
  shut_by_stop e =
      ap (λ b. not (option_map_or (meets_condition B) (entry G n) false || b) && not (B.consistent && is_dirty G n.at)) e
      ∙ ap (λ b. not b && not (B.consistent && is_dirty G n.at)) (or_true (option_map_or (meets_condition B) (entry G n) false))

  pub shut_by_condition : (s : Spot) → entry G n ≡ Some s → meets_condition B s ≡ true → is_open G B n ≡ false
  shut_by_condition s e meets =
      ap (λ o. not (option_map_or (meets_condition B) o false || list_any (same_port n.port) B.stops) && not (B.consistent && is_dirty G n.at)) e
      ∙ ap (λ b. not (b || list_any (same_port n.port) B.stops) && not (B.consistent && is_dirty G n.at)) meets

  -- a node that is neither a barrier nor shut by dirt is open
  pub is_open_by : (s : Spot) → entry G n ≡ Some s → meets_condition B s ≡ false → list_any (same_port n.port) B.stops ≡ false
      → (B.consistent && is_dirty G n.at) ≡ false → is_open G B n ≡ true
  is_open_by s e meets stop dirt =
      ap (λ o. not (option_map_or (meets_condition B) o false || list_any (same_port n.port) B.stops) && not (B.consistent && is_dirty G n.at)) e
      ∙ (λ i. not (meets i || stop i) && not (dirt i))

  -- from a node without an entry no step leads on
  pub leads_nowhere : entry G n ≡ None → (m : Node) → leads G B mode n m ≡ false
  leads_nowhere e m =
      ap (λ o. is_open G B n && list_any (goes_by G B mode n m) (option_map_or (λ s. s.ties) o [])) e ∙ and_false (is_open G B n)

  -- from an open node a step leads to where its links lead
  pub leads_open : is_open G B n ≡ true → (m : Node) → leads G B mode n m ≡ list_any (goes_by G B mode n m) (ties G n)
  leads_open e m = ap (λ b. b && list_any (goes_by G B mode n m) (ties G n)) e

-- the links of an open node ask for no star at another point, if those of no open node do
pub ties_stay : (G : Ground) (B : Barriers) (n : Node) → IsLookedUpOnce G B → is_open G B n ≡ true → TiesStay G B n
ties_stay G B n (inl none) is t h = inl none
ties_stay G B n (inr stay) is t h = inr (λ path. stay n t is h path)
