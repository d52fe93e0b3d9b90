-- Pages that a follower reads back as they were printed.
use Rattle.std.specs.Prelude.{◌≡◌, ℕ, ◌≤◌, true, false, List, All, IfSome, IsUtf8}
use Rattle.un_geom.specs.Places.{IsPlace}
use Rattle.un_attrs.specs.Attributes.{IsAttributes}
use Rattle.un_schema.specs.Catalog.{Catalog, cats_of}
use Rattle.un_schema.specs.Names.{IsName}
use Rattle.un_schema.specs.Sound.{IsCatalog}
use Rattle.un_tiers.specs.declared.tier.Tier.{Tier}
use Rattle.un_tiers.specs.Lists.{IsTierList}
use Rattle.un_defs.specs.declared.link.LinkName.{LinkName}
use Rattle.un_defs.specs.declared.link.LinkName.TheVariants.{Seg, Path, Coin, Assoc}
use Rattle.un_defs.specs.declared.link.Tie.{Tie}
use Rattle.un_defs.specs.declared.star.TopoError.{TopoError}
use Rattle.un_defs.specs.declared.star.Spot.{Spot}
use Rattle.un_defs.specs.declared.star.Star.{Star}
use Rattle.un_feed.specs.Differences.{Difference, ChangesShown}
use Rattle.un_feed_json.specs.Fits.{HasNames}
use Rattle.un_feed_json.specs.Forms.{class_of}
use Rattle.un_feed_json.specs.Lines.{rises_after, is_empty}

-- ---- numbers

-- the id of a feature or of an association
pub record IsId (n : ℕ) : Type 0 where
  pub some : 1 ≤ n
  pub few : n ≤ 9007199254740991

-- a version, or an id or 0
abbrev pub IsBase : ℕ → Type 0
IsBase n = n ≤ 9007199254740991

pub record IsPort (id number : ℕ) : Type 0 where
  pub feature : IsId id
  pub within : number ≤ 63

-- ---- parts of a star

abbrev pub IsLinkName : LinkName → Type 0
IsLinkName (Seg line index) = IsPort line index
IsLinkName (Path device low high) = IsPort device low × (high ≤ 63)
IsLinkName (Coin junction terminal line vertex) = IsPort junction terminal × IsPort line vertex
IsLinkName (Assoc id) = IsId id

pub record IsLink (t : Tie) : Type 0 where
  pub name : IsLinkName t.name
  pub port : IsPort t.to.port.feature t.to.port.number
  pub at : IsPlace t.to.at

pub record IsError (e : TopoError) : Type 0 where
  pub port : IsPort e.feature e.number
  pub assoc : IsBase e.assoc

-- an entry whose class and categories are those of its kind, and whose controller has its port
pub record IsEntry (S : Catalog) (T : List Tier) (s : Spot) : Type 0 where
  pub names : HasNames S T s
  pub port : IsPort s.port.feature s.port.number
  pub class : s.class ≡ class_of S s.kind
  pub cats : s.cats ≡ cats_of S s.kind
  pub attrs : IsAttributes s.attrs
  pub links : All IsLink s.ties
  pub controller : IfSome s.controller (λ c. (c.port ≡ s.port) × IsName c.subnet)
  pub container : IsBase s.container
  pub contents : All IsId s.contents
  pub structures : All IsId s.structures

pub record IsStar (S : Catalog) (T : List Tier) (star : Star) : Type 0 where
  pub entries : All (IsEntry S T) star.spots
  pub errors : All IsError star.errors

pub record IsChange (S : Catalog) (T : List Tier) (d : Difference) : Type 0 where
  pub at : IsPlace d.0
  pub star : IfSome d.1 (IsStar S T)

-- ---- pages

-- a page that goes forward, whose points rise after the place where it begins, and that has changes if there are more
pub record IsPage (S : Catalog) (T : List Tier) (t : ChangesShown) : Type 0 where
  pub changes : All (IsChange S T) t.page.pairs
  pub after : IfSome t.after IsPlace
  pub rising : rises_after t.after t.page.pairs ≡ true
  pub some : t.page.more ≡ true → is_empty t.page.pairs ≡ false
  pub forward : t.since ≤ t.upto
  pub upto : IsBase t.upto
  pub version : IsBase t.version

-- the names are UTF-8, as a `Name` of Rust is
pub record HasTexts (S : Catalog) (T : List Tier) : Type 0 where
  pub attributes : All IsUtf8 S.attributes
  pub kinds : All (λ k. IsUtf8 k.name) S.kinds
  pub tiers : All (λ t. IsUtf8 t.name) T

-- a schema with its tiers, so that no two kinds, attributes or tiers share a name
pub record IsSetup (S : Catalog) (T : List Tier) : Type 0 where
  pub catalog : IsCatalog S
  pub tiers : IsTierList T
  pub texts : HasTexts S T
