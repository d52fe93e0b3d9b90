-- What holds of the topology of sound features in range, as statements.
use Rattle.std.specs.Prelude.{◌≢◌, List}
use Rattle.un_geom.specs.declared.point.Point.{Point}
use Rattle.un_geom.specs.Places.{IsPlace}
use Rattle.un_schema.specs.Catalog.{Catalog}
use Rattle.un_tiers.specs.declared.tier.Tier.{Tier}
use Rattle.un_defs.specs.Features.{Features}
use Rattle.un_defs.specs.Star.{star, empty_star}
use Rattle.un_defs.specs.Sound.{IsSound}
use Rattle.un_feed_json.specs.Sound.{IsStar}
use Rattle.un_feed_laws.specs.Ranges.{AreInRange}

-- the star at any point is one that a page can show
abbrev pub FreshStarLaw : Type 0
FreshStarLaw = (S : Catalog) (T : List Tier) (F : Features) → IsSound S F → AreInRange S T F → (p : Point) → IsStar S T (star S F p)

-- a point at which something stands has coordinates in range
abbrev pub FreshPlaceLaw : Type 0
FreshPlaceLaw = (S : Catalog) (T : List Tier) (F : Features) → IsSound S F → AreInRange S T F → (p : Point) → star S F p ≢ empty_star → IsPlace p
