-- The errors of what is kept are those of the ground, at any points that it has.
use Rattle.std.proofs.Common.{◌≡◌, ◌≢◌, Bool, true, false, cond, List, [], ◌∷◌, ◌++◌, map, filter, flat_map, refl, sym, ap, ◌∙◌, inl, inr, true≢false}
use Rattle.std.specs.List.{list_any}
use Rattle.std.proofs.lemmas.List.Kept.{IsStrictlySortedBy-filter}
use Rattle.un_geom.specs.declared.point.Point.{Point}
use Rattle.un_geom.specs.Rectangle.{Rectangle}
use Rattle.un_geom.specs.Places.{point_cmp, same_point, covers}
use Rattle.un_defs.specs.declared.star.Star.{Star}
use Rattle.un_defs.specs.declared.star.TopoError.{TopoError}
use Rattle.un_defs.specs.Star.{empty_star}
use Rattle.un_defs.specs.Orders.{rising}
use Rattle.un_defs.specs.Ground.{Ground}
use Rattle.un_defs.proofs.Rising.{sorted-rising, among-rising}
use Rattle.un_defs.proofs.Members.{among_from-filter, list_any_from_among}
use Rattle.un_defs.proofs.OrderLaws.{point_total, point_ties}
use Rattle.un_defs.proofs.Unique.{from_all, point_itself}
use Rattle.un_index.specs.Kept.{stars_of}
use Rattle.un_core.specs.Validation.{by_point, IsKept}
use Rattle.un_core.specs.Walked.{Survey}
use Rattle.un_core.specs.Listed.{errors_at, errors_in}
use Rattle.un_core.proofs.LookUps.{Pairs, table, table_map, stars_table, missing_table, missing}
use Rattle.un_core.proofs.Nonempty.{is_nonempty, empty_otherwise, nonempty_star, stars_nonempty, table_sorted}
use Rattle.un_core.proofs.Canonical.{canonical}
use Rattle.un_core.proofs.Grounds.{HasPoints}

-- the errors of a pair, each with the point
abbrev pub errors_of_pair : Point × Star → List (Point × TopoError)
errors_of_pair pair = map (λ e. (pair.0, e)) pair.1.errors

-- the errors of kept stars whose points the extent covers
abbrev pub errors_kept : Pairs → Rectangle → List (Point × TopoError)
errors_kept kept extent = flat_map errors_of_pair (filter (λ pair. covers extent pair.0) kept)

-- stars that tell nothing have no errors to list
list_nonempty : (G : Ground) (extent : Rectangle) (ps : List Point) → errors_kept (filter is_nonempty (table G.stars ps)) extent ≡ flat_map (errors_at G) (filter (covers extent) ps)
list_nonempty G extent [] = refl
list_nonempty G extent (p ∷ ps) = go (is_nonempty (p, G.stars p)) (covers extent p) refl (list_nonempty G extent ps)
  where
    go : (t c : Bool) → is_nonempty (p, G.stars p) ≡ t → errors_kept (filter is_nonempty (table G.stars ps)) extent ≡ flat_map (errors_at G) (filter (covers extent) ps)
        → errors_kept (cond t ((p, G.stars p) ∷ filter is_nonempty (table G.stars ps)) (filter is_nonempty (table G.stars ps))) extent ≡ flat_map (errors_at G) (cond (covers extent p) (p ∷ filter (covers extent) ps) (filter (covers extent) ps))
    go true c e rest = by (covers extent p)
      where
        by : (c : Bool) → flat_map errors_of_pair (cond c ((p, G.stars p) ∷ filter (λ pair. covers extent pair.0) (filter is_nonempty (table G.stars ps))) (filter (λ pair. covers extent pair.0) (filter is_nonempty (table G.stars ps))))
            ≡ flat_map (errors_at G) (cond c (p ∷ filter (covers extent) ps) (filter (covers extent) ps))
        by true = ap (λ l. errors_at G p ++ l) rest
        by false = rest
    go false c e rest = by (covers extent p)
      where
        none : errors_at G p ≡ []
        none = ap (λ star. map (λ e. (p, e)) star.errors) (empty_otherwise (G.stars p) e)

        by : (c : Bool) → errors_kept (filter is_nonempty (table G.stars ps)) extent ≡ flat_map (errors_at G) (cond c (p ∷ filter (covers extent) ps) (filter (covers extent) ps))
        by true = rest ∙ ap (λ l. l ++ flat_map (errors_at G) (filter (covers extent) ps)) (sym none)
        by false = rest

module _ (v : Survey) (kept : Pairs) (is : IsKept kept) (same : (p : Point) → v.topology.stars p ≡ stars_of kept p) (has : HasPoints v) where
  abbrev G : Ground
  G = v.topology

  abbrev points : List Point
  points = v.points

  abbrev sorted : List Point
  sorted = rising point_cmp points

  looked_up : (p : Point) → stars_of (filter is_nonempty (table G.stars sorted)) p ≡ stars_of kept p
  looked_up p = stars_nonempty (table G.stars sorted) (table_map G.stars sorted) p ∙ go (list_any (λ q. same_point q p) sorted) refl
    where
      go : (b : Bool) → list_any (λ q. same_point q p) sorted ≡ b → stars_of (table G.stars sorted) p ≡ stars_of kept p
      go true e = stars_table G.stars sorted p e ∙ same p
      go false e = elim (has p) [
        | inl i ↦ absurd (true≢false (sym (list_any_from_among (λ q. same_point q p) sorted p (among-rising point_cmp points (λ a b _ _ t. point_ties a b t) p i) (point_itself p)) ∙ e))
        | inr none ↦ missing (table G.stars sorted) p (missing_table G.stars sorted p e) ∙ sym none ∙ same p
      ]

  -- the errors of what is kept, by the ground that it is
  pub errors_listed : (extent : Rectangle) → errors_kept kept extent ≡ errors_in v extent
  errors_listed extent =
      ap (λ l. errors_kept l extent) (canonical kept (filter is_nonempty (table G.stars sorted)) is.sorted
      (IsStrictlySortedBy-filter by_point is_nonempty (table G.stars sorted) (table_sorted G.stars sorted (sorted-rising point_total points)))
      (λ pair h. from_all (λ pair. pair.1 ≢ empty_star) kept is.nonempty pair h)
      (λ pair i. nonempty_star pair (among_from-filter is_nonempty (table G.stars sorted) pair i).1)
      (λ p. sym (looked_up p)))
      ∙ list_nonempty G extent sorted
