-- What a ground has at a point.
use Rattle.std.specs.Prelude.{◌≡◌, ℕ, not, unwrap_or}
use Rattle.std.specs.List.{count_by}
use Rattle.std.specs.Option.{option_copied}
use Rattle.un_geom.specs.declared.point.Point.{Point}
use Rattle.un_geom.specs.Places.{same_point}
use Rattle.un_defs.specs.declared.star.Spot.{Spot}
use Rattle.un_defs.specs.declared.star.Star.{Star}
use Rattle.un_defs.specs.Star.{empty_star}
use Rattle.un_defs.specs.Ground.{Ground, least_area_at}
use Rattle.un_walk.specs.declared.site.Site.{Site}

-- the star, which is empty where the ground has none
abbrev pub star_of : Site → Star
star_of s = unwrap_or (option_copied s.star) empty_star

-- how many links lead from the entry to other points than this one
abbrev pub ties_away : Point → Spot → ℕ
ties_away at spot = count_by (λ t. not (same_point t.to.at at)) spot.ties

-- the site has the star at its point, and the least dirty area that covers it
pub record IsSite (G : Ground) (s : Site) : Type 0 where
  pub area : s.area ≡ least_area_at G s.at
  pub star : star_of s ≡ G.stars s.at
