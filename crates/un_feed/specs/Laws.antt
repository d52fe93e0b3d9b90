-- What a copy is after pages.
use Rattle.std.specs.Prelude.{◌≡◌, ℕ, List, [], None}
use Rattle.un_geom.specs.Places.{point_cmp}
use Rattle.un_pages.specs.Pairs.{IsOrdered}
use Rattle.un_feed.specs.Differences.{ChangesShown, Kept, applied, differences}
use Rattle.un_feed.specs.Follows.{Span, ArePages, AreSpans, all_pages, after_pages, at_last, nothing_copied}

-- the differences of two kept topologies lead from the one to the other
abbrev pub AppliedDifference : Type 0
AppliedDifference = (a b : Kept) → IsOrdered point_cmp a → IsOrdered point_cmp b → applied a (differences a b) ≡ b

-- the pages that lead from a kept topology to another, taken in order by a copy of the first, make it a copy of the second
abbrev pub PagesAreFollowed : Type 0
PagesAreFollowed = (a b : Kept) (since upto : ℕ) (pages : List ChangesShown) → IsOrdered point_cmp a → IsOrdered point_cmp b
    → ArePages since upto (differences a b) None pages
    → after_pages (record { kept = a; version = since; staged = None }) pages ≡ record { kept = b; version = upto; staged = None }

-- a copy that begins with nothing and takes the pages of all spans in order is that of the last topology
abbrev pub SpansAreFollowed : Type 0
SpansAreFollowed = (spans : List Span) → AreSpans [] 0 spans → after_pages nothing_copied (all_pages spans) ≡ at_last [] 0 spans
