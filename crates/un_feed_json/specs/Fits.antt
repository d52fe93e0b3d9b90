-- What stars name by number, which the schema and the tiers have.
use Rattle.std.specs.Prelude.{◌<◌, List, length, All, IfSome}
use Rattle.un_schema.specs.Catalog.{Catalog}
use Rattle.un_tiers.specs.declared.tier.Tier.{Tier}
use Rattle.un_defs.specs.declared.star.Spot.{Spot}
use Rattle.un_defs.specs.declared.star.Star.{Star}
use Rattle.un_feed.specs.declared.changes.Change.{Change}
use Rattle.un_feed.specs.Differences.{Difference, change_shown}

-- the kind, the attributes and the tier of the entry exist
pub record HasNames (S : Catalog) (T : List Tier) (s : Spot) : Type 0 where
  pub kind : s.kind < length S.kinds
  pub attributes : All (λ pair. pair.0 < length S.attributes) s.attrs
  pub tier : IfSome s.controller (λ c. c.tier < length T)

-- those of each entry of the star exist
abbrev pub StarHasNames : Catalog → List Tier → Star → Type 0
StarHasNames S T star = All (HasNames S T) star.spots

-- those of the star exist, if the point has one
abbrev pub ChangeHasNames : Catalog → List Tier → Difference → Type 0
ChangeHasNames S T d = IfSome d.1 (StarHasNames S T)

-- those of each star of a page exist
abbrev pub HaveNames : Catalog → List Tier → List Change → Type 0
HaveNames S T changes = All (λ c. ChangeHasNames S T (change_shown c)) changes
