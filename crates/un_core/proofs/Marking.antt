-- Which stored subnetworks a validation makes dirty.
use Rattle.std.proofs.Common.{◌≡◌, ℕ, Bool, true, false, List, [], ◌∷◌, map, refl, sym, ap, ◌∙◌, Contains, inl, inr, if◌then◌else◌}
use Rattle.un_geom.specs.declared.point.Point.{Point}
use Rattle.un_geom.specs.Rectangle.{Rectangle}
use Rattle.un_defs.specs.declared.star.Star.{Star}
use Rattle.un_defs.specs.Star.{standing_points}
use Rattle.un_defs.proofs.Members.{among_left, among_right, contains_from_among}
use Rattle.un_index.specs.Kept.{stars_of}
use Rattle.un_ask.specs.declared.stored.StoredSubnet.{StoredSubnet}
use Rattle.un_ask.specs.declared.stored.Status.TheVariants.{Dirty}
use Rattle.un_subnet.specs.Changes.{IsMadeDirty, changes_at, is_made_dirty}
use Rattle.un_subnet.specs.Laws.{HasChanges}
use Rattle.un_subnet.specs.Stored.{marked}
use Rattle.un_subnet.proofs.MadeDirty.{made_dirty, same_dirty}
use Rattle.un_core.specs.State.{State}
use Rattle.un_core.specs.Validation.{met, is_under, rebuilt, changeable, changes_under, validated, ArePoints}
use Rattle.un_core.specs.Cover.{IsState}
use Rattle.un_core.specs.Clearing.{IsMarked, AreMarked}
use Rattle.un_core.proofs.LookUps.{sorted_map}
use Rattle.un_core.proofs.Rebuilding.{rebuilt_under, rebuilt_elsewhere}
use Rattle.un_core.proofs.Grounds.{fresh_points}
use Rattle.un_core.proofs.Asked.{kept_points}

module _ (s : State) (is : IsState s) (areas : List (ℕ × Rectangle)) where
  abbrev before : Point → Star
  before = stars_of s.kept

  abbrev after : Point → Star
  after = stars_of (rebuilt s areas)

  abbrev here : List Point
  here = map (λ pair. pair.0) s.kept

  abbrev standing : List Point
  standing = standing_points s.features

  same_elsewhere : (p : Point) → is_under areas p ≡ false → before p ≡ after p
  same_elsewhere p e = sym (rebuilt_elsewhere s areas (sorted_map s.kept is.sorted) p e)

  changes_there : HasChanges before after (changeable s)
  changes_there p differs = go (is_under areas p) refl
    where
      go : (b : Bool) → is_under areas p ≡ b → Contains (changeable s) p
      go false e = absurd (differs (same_elsewhere p e))
      go true e = elim (kept_points s.kept p) [
        | inl i ↦ contains_from_among (changeable s) p (among_left here standing p i)
        | inr none ↦ elim (fresh_points s.setup.schema s.features is.sound p) [
          | inl i ↦ contains_from_among (changeable s) p (among_right here standing p i)
          | inr bare ↦ absurd (differs (none ∙ sym (rebuilt_under s areas is.sound (sorted_map s.kept is.sorted) p e ∙ bare)))
        ]
      ]

  -- the points under the areas are enough
  changes_here : (points : List Point) → ArePoints s areas points → HasChanges before after points
  changes_here points are p differs = go (is_under areas p) refl
    where
      go : (b : Bool) → is_under areas p ≡ b → Contains points p
      go false e = absurd (differs (same_elsewhere p e))
      go true e = elim (are.whole p e) [
        | inl i ↦ i
        | inr both ↦ absurd (differs (both.0 ∙ sym (rebuilt_under s areas is.sound (sorted_map s.kept is.sorted) p e ∙ both.1)))
      ]

  -- so the same rows are dirty by them
  pub same_marks : (points : List Point) → ArePoints s areas points → (rows : List StoredSubnet)
      → map (marked (changes_at before after points)) rows ≡ map (marked (changes_under s areas)) rows
  same_marks points are [] = refl
  same_marks points are (row ∷ rows) =
      let same = same_dirty row.tier row.subnet row.points points (changeable s) before after (changes_here points are) changes_there in
      λ i. (if same i then record row { status = Dirty } else row) ∷ same_marks points are rows i

  -- ---- what that says

  one_marked : (row : StoredSubnet) → IsMarked before after row (marked (changes_under s areas) row)
  one_marked row = record {
    dirty = λ made. ap (λ b. if b then record row { status = Dirty } else row) (tells.1 made);
    same = λ none. go (is_made_dirty row.tier row.subnet row.points (changes_under s areas)) (λ e. none (tells.0 e));
  }
    where
      tells : (is_made_dirty row.tier row.subnet row.points (changes_under s areas) ≡ true → IsMadeDirty row.tier row.subnet row.points before after)
          × (IsMadeDirty row.tier row.subnet row.points before after → is_made_dirty row.tier row.subnet row.points (changes_under s areas) ≡ true)
      tells = made_dirty row.tier row.subnet row.points (changeable s) before after changes_there

      go : (b : Bool) → (b ≡ true → ⊥) → (if b then record row { status = Dirty } else row) ≡ row
      go true none = absurd (none refl)
      go false none = refl

  pub are_marked : (rows : List StoredSubnet) → AreMarked before after rows (map (marked (changes_under s areas)) rows)
  are_marked [] = tt
  are_marked (row ∷ rows) = (one_marked row, are_marked rows)

-- the stored rows after a validation, by the points that it rebuilds
pub marks_are : (s : State) → IsState s → (extent : Rectangle) (points : List Point) → ArePoints s (met extent s.areas) points
    → (kept : List (Point × Star)) → kept ≡ rebuilt s (met extent s.areas)
    → (rows : List StoredSubnet) → rows ≡ map (marked (changes_at (stars_of s.kept) (stars_of kept) points)) s.stored → rows ≡ (validated s extent).stored
marks_are s is extent points are kept kept_is rows rows_are =
    rows_are
    ∙ ap (λ k. map (marked (changes_at (stars_of s.kept) (stars_of k) points)) s.stored) kept_is
    ∙ same_marks s is (met extent s.areas) points are s.stored
