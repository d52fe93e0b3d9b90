-- Rectangles that are found by place.
use Rattle.std.proofs.Common.{◌≡◌, ℕ, ◌+◌, ◌||◌, Bool, true, false, List, [], ◌∷◌, Option, None, Some, refl, sym, ap, ◌∙◌}
use Rattle.std.specs.Prelude.{find, is_none, if◌then◌else◌}
use Rattle.std.specs.List.{list_any, enumerate_from}
use Rattle.std.specs.Option.{IfSome}
use Rattle.un_geom.specs.declared.point.Point.{Point}
use Rattle.un_geom.specs.Rectangle.{Rectangle}
use Rattle.un_geom.specs.Places.{covers}
use Rattle.un_dirty.specs.Areas.{DirtyList, added, no_areas}
use Rattle.un_rebuild.specs.Preparing.{AreMarksOf}

module _ (p : Point) where
  abbrev over : ℕ × Rectangle → Bool
  over a = covers a.1 p

  abbrev any : List Rectangle → Bool
  any rects = list_any (λ r. covers r p) rects

  -- where no area is found, no rectangle covers the point
  none_covers : (rects : List Rectangle) (n : ℕ) → is_none (find over (enumerate_from n rects)) ≡ true → any rects ≡ false
  none_covers [] n e = refl
  none_covers (r ∷ rects) n e = go (covers r p) (any rects) (none_covers rects (n + 1)) e
    where
      go : (here rest : Bool) → (is_none (find over (enumerate_from (n + 1) rects)) ≡ true → rest ≡ false)
          → is_none (if here then Some (n, r) else find over (enumerate_from (n + 1) rects)) ≡ true → (here || rest) ≡ false
      go true rest none e = cc
      go false rest none e = none e

  missed_areas : (rects : List Rectangle) (d : DirtyList) → d ≡ added no_areas rects → is_none (find over d.areas) ≡ true → any rects ≡ false
  missed_areas rects d is missed = none_covers rects 1 (ap (λ (d : DirtyList). is_none (find over d.areas)) (sym is) ∙ missed)

pub marks_are : (rects : List Rectangle) (areas : Option DirtyList) → IfSome areas (λ d. d ≡ added no_areas rects) → AreMarksOf rects (record { areas = areas })
marks_are rects None is p missed = cc
marks_are rects (Some d) is p missed = missed_areas p rects d is missed
