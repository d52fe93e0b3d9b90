-- Stars that were built before a validation.
use Rattle.std.specs.Prelude.{◌≡◌, Bool, true, false, List, find, is_none}
use Rattle.std.specs.List.{list_any}
use Rattle.std.specs.Option.{IfSome, option_map_or}
use Rattle.std.proofs.Common.{Global}
use Rattle.std.specs.declared.collections.BTreeMap.{BTreeMap}
use Rattle.std.specs.declared.sync.Arc.{Arc}
use Rattle.std.specs.BTreeMap.{get}
use Rattle.std.specs.Arc.{arc_value}
use Rattle.un_geom.specs.declared.point.Point.{Point}
use Rattle.un_geom.specs.Rectangle.{Rectangle}
use Rattle.un_geom.specs.Places.{point_cmp, covers}
use Rattle.un_defs.specs.declared.star.Star.{Star}
use Rattle.un_facts.specs.Known.{Known}
use Rattle.un_rebuild.specs.declared.marks.Marks.{Marks}
use Rattle.un_rebuild.specs.declared.usable.Usable.{Usable}
use Rattle.un_rebuild.specs.Rebuilding.{fresh_at}

-- each star is that of all features
abbrev pub AreFresh : Known → BTreeMap Point (Arc Star Global) Global → Type 0
AreFresh K stars = (p : Point) → IfSome (get point_cmp stars p) (λ star. arc_value star ≡ fresh_at K p)

-- it is certain that no rectangle of the marks covers the point
abbrev pub misses : Marks → Point → Bool
misses marks p = option_map_or (λ d. is_none (find (λ a. covers a.1 p) d.areas)) marks.areas false

-- where the marks miss a point, none of the rectangles covers it
abbrev pub AreMarksOf : List Rectangle → Marks → Type 0
AreMarksOf rects marks = (p : Point) → misses marks p ≡ true → list_any (λ r. covers r p) rects ≡ false

-- at a point that the marks miss, the star is that of the features
abbrev pub AreUsable : Known → Usable → Type 0
AreUsable K usable = (p : Point) → misses usable.marks p ≡ true
    → IfSome (get point_cmp usable.stars.now p) (λ star. arc_value star ≡ fresh_at K p)
