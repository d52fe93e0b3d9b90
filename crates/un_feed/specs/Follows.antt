-- A copy of a kept topology that pages of differences bring up to date.
use Rattle.std.specs.Prelude.{◌≡◌, ℕ, ◌==◌, Bool, true, false, ◌&&◌, is_none, List, [], ◌∷◌, ◌++◌, Option, None, Some, if◌then◌else◌}
use Rattle.un_geom.specs.declared.point.Point.{Point}
use Rattle.un_geom.specs.Places.{point_cmp, same_point}
use Rattle.un_pages.specs.Pairs.{IsOrdered}
use Rattle.un_feed.specs.Differences.{ChangesShown, Kept, Difference, differences, page_of, applied}

-- the pages of one span that have come so far, applied: the version up to which they go, and the point of the last pair
pub record Staged : Type 0 where
  pub kept : Kept
  pub upto : ℕ
  pub last : Option Point

-- the copy with its version, and what is staged if the last page said that there are more
pub record Copied : Type 0 where
  pub kept : Kept
  pub version : ℕ
  pub staged : Option Staged

-- before the first page
abbrev pub nothing_copied : Copied
nothing_copied = record { kept = []; version = 0; staged = None }

abbrev pub same_places : Option Point → Option Point → Bool
same_places None None = true
same_places (Some p) (Some q) = same_point p q
same_places _ _ = false

-- the point of the last pair that is staged
abbrev pub last_staged : Option Staged → Option Point
last_staged None = None
last_staged (Some staged) = staged.last

-- the point after which the next page has to begin
abbrev pub place_of : Copied → Option Point
place_of copy = last_staged copy.staged

-- whether a page goes on from what is staged, or begins a span where nothing is
abbrev pub goes_on : Option Staged → ChangesShown → Bool
goes_on None page = is_none page.after
goes_on (Some staged) page = (page.upto == staged.upto) && same_places page.after staged.last

-- A page fits where it goes on from the copy's version, and from what is staged, if anything is.
abbrev pub fits : Copied → ChangesShown → Bool
fits copy page = (page.since == copy.version) && goes_on copy.staged page

-- what is staged, or this topology where nothing is
abbrev pub staged_or : Kept → Option Staged → Kept
staged_or kept None = kept
staged_or kept (Some staged) = staged.kept

-- the topology to which the page is applied
abbrev pub base_of : Copied → Kept
base_of copy = staged_or copy.kept copy.staged

-- the point of the last pair, or the one after which the page begins
abbrev pub last_place : Option Point → List Difference → Option Point
last_place after [] = after
last_place after (d ∷ ds) = last_place (Some d.0) ds

-- the topology once the page has been applied
abbrev pub with_page : Copied → ChangesShown → Kept
with_page copy page = applied (base_of copy) page.page.pairs

-- the copy once the page has been applied: a page that says that there are more is staged, and the last page of a span changes the copy
abbrev pub taken : Copied → ChangesShown → Copied
taken copy page =
    if page.page.more
    then record {
      kept = copy.kept;
      version = copy.version;
      staged = Some (record { kept = with_page copy page; upto = page.upto; last = last_place page.after page.page.pairs });
    }
    else record { kept = with_page copy page; version = page.upto; staged = None }

-- the copy after a page: as it was where the page doesn't fit
abbrev pub after_page : Copied → ChangesShown → Copied
after_page copy page = if fits copy page then taken copy page else copy

-- the copy after pages, one after another
abbrev pub after_pages : Copied → List ChangesShown → Copied
after_pages copy [] = copy
after_pages copy (page ∷ pages) = after_pages (after_page copy page) pages

-- ---- pages in order

-- a page of these differences from one version to another: the first so many of those after a point
pub record IsPageOf (since upto : ℕ) (all : List Difference) (after : Option Point) (most : ℕ) (page : ChangesShown) : Type 0 where
  pub begins : page.after ≡ after
  pub from_version : page.since ≡ since
  pub to_version : page.upto ≡ upto
  pub shows : page.page ≡ page_of all after most

-- the pages of these differences from a point on, in order: each begins after the last point of the one before, and only the last says that there are no more
abbrev pub ArePages : ℕ → ℕ → List Difference → Option Point → List ChangesShown → Type 0
ArePages since upto all after [] = ⊥
ArePages since upto all after (page ∷ pages) =
    ((most : ℕ) × IsPageOf since upto all after most page)
    × (page.page.more ≡ true → ArePages since upto all (last_place after page.page.pairs) pages)
    × (page.page.more ≡ false → pages ≡ [])

-- the pages that lead from one kept topology to another
pub record Span : Type 0 where
  pub kept : Kept
  pub version : ℕ
  pub pages : List ChangesShown

-- spans one after another: the pages of each lead from the topology of the one before to its own
abbrev pub AreSpans : Kept → ℕ → List Span → Type 0
AreSpans kept version [] = Unit {0}
AreSpans kept version (span ∷ spans) =
    IsOrdered point_cmp span.kept
    × ArePages version span.version (differences kept span.kept) None span.pages
    × AreSpans span.kept span.version spans

-- the pages of all spans
abbrev pub all_pages : List Span → List ChangesShown
all_pages [] = []
all_pages (span ∷ spans) = span.pages ++ all_pages spans

-- the copy at the end of the spans
abbrev pub at_last : Kept → ℕ → List Span → Copied
at_last kept version [] = record { kept = kept; version = version; staged = None }
at_last kept version (span ∷ spans) = at_last span.kept span.version spans
