-- Sites with a mark for each entry of their stars.
use Rattle.std.specs.Prelude.{◌≡◌, ℕ, ◌+◌, ◌<◌, ◌≤◌, List, [], ◌∷◌, ◌++◌, map, length, get_or, set, take, drop, slice_get, Option, Some, All}
use Rattle.std.specs.List.{position}
use Rattle.un_defs.specs.declared.port.Port.{Port}
use Rattle.un_defs.specs.declared.star.Spot.{Spot}
use Rattle.un_defs.specs.Orders.{same_port}
use Rattle.un_walk.specs.declared.site.Site.{Site}
use Rattle.un_walk.specs.declared.visits.Mark.{Mark}
use Rattle.un_walk.specs.declared.visits.Visit.{Visit}
use Rattle.un_walk.specs.Site.{star_of}

-- a site, and the marks of the entries of its star
pub record Visited : Type 0 where
  pub site : Site
  pub marks : List ℕ

-- how many entries the star has
abbrev pub count_of : Site → ℕ
count_of s = length (star_of s).spots

-- ---- how they are kept: the marks of a site begin at a place of one list, each with the port of its entry

abbrev pub place_of : Mark → ℕ
place_of m = m.place

abbrev pub port_of : Mark → Port
port_of m = record { feature = m.feature; number = m.number }

-- the entry of the port, whose node was not found
abbrev pub unfound : Port → Mark
unfound q = record { feature = q.feature; place = 0; number = q.number }

abbrev pub unfound_in : List Spot → List Mark
unfound_in spots = map (λ s. unfound s.port) spots

abbrev pub ports_in : List Spot → List Port
ports_in spots = map (λ s. s.port) spots

abbrev pub visited_of : List ℕ → Visit → Visited
visited_of ms v = record { site = v.site; marks = take (count_of v.site) (drop v.begin ms) }

-- the marks of one site end before those of the next begin, and there are n in all
abbrev pub ArePlaced : ℕ → List Visit → ℕ → Type 0
ArePlaced k [] n = k ≤ n
ArePlaced k (v ∷ vs) n = (k ≤ v.begin) × ArePlaced (v.begin + count_of v.site) vs n

-- the marks of the site have the ports of its entries, and end where it says
pub record HasPorts (qs : List Port) (v : Visit) : Type 0 where
  pub end : v.end ≡ v.begin + count_of v.site
  pub ports : take (count_of v.site) (drop v.begin qs) ≡ ports_in (star_of v.site).spots

pub record AreKept (vs : List Visit) (ms : List Mark) : Type 0 where
  pub placed : ArePlaced 0 vs (length ms)
  pub ports : All (HasPorts (map port_of ms)) vs

-- ---- what is done with them

-- there is a mark for each entry, and none is put
pub record IsUnmarked (v : Visited) : Type 0 where
  pub count : length v.marks ≡ count_of v.site
  pub none : All (λ mark. mark ≡ 0) v.marks

-- the sites with one more at their end, at which no mark is put
pub record IsOneMore (old new : List Visited) (s : Site) : Type 0 where
  pub last : Visited
  pub is : new ≡ old ++ last ∷ []
  pub site : last.site ≡ s
  pub unmarked : IsUnmarked last

-- the site has the number
abbrev pub IsSiteAt : List Visited → ℕ → Site → Type 0
IsSiteAt vs number s = (v : Visited) × (slice_get vs number ≡ Some v) × (v.site ≡ s)

-- the place of the port's entry in the star of the site with the number, if it has one
abbrev pub IsPlaceAt : List Visited → ℕ → Port → Option ℕ → Type 0
IsPlaceAt vs number port place = (v : Visited) × (slice_get vs number ≡ Some v) × (place ≡ position (λ s. same_port s.port port) (star_of v.site).spots)

-- there is a mark at the place of the star with the number
abbrev pub IsInside : List Visited → ℕ → ℕ → Type 0
IsInside vs number place = (v : Visited) × (slice_get vs number ≡ Some v) × (place < length v.marks)

-- the mark there was 0, and is this one
pub record IsMarkedAt (old new : List Visited) (number place mark : ℕ) : Type 0 where
  pub before : Visited
  pub after : Visited
  pub at : slice_get old number ≡ Some before
  pub is : new ≡ set old number after
  pub site : after.site ≡ before.site
  pub marks : after.marks ≡ set before.marks place mark
  pub off : get_or before.marks place 0 ≡ 0

-- the mark there is this one
abbrev pub WasMarkedAt : List Visited → ℕ → ℕ → ℕ → Type 0
WasMarkedAt vs number place mark = (v : Visited) × (slice_get vs number ≡ Some v) × (get_or v.marks place 0 ≡ mark)
