-- The segments of lines that lie on a loop.
use Rattle.std.specs.Prelude.{◌==◌, ◌↔◌, Bool, false, not, ◌&&◌, List, [], ◌∷◌, Contains, IsTrue}
use Rattle.std.specs.declared.cmp.Ordering.{Ordering}
use Rattle.std.specs.List.{list_any}
use Rattle.std.specs.List.Sorted.{IsStrictlySortedBy}
use Rattle.un_defs.specs.declared.port.Node.{Node}
use Rattle.un_defs.specs.declared.link.LinkName.{LinkName}
use Rattle.un_defs.specs.declared.link.LinkName.TheVariants.{Seg, Path, Coin, Assoc}
use Rattle.un_defs.specs.declared.link.Tie.{Tie}
use Rattle.un_defs.specs.declared.walk.Mode.TheVariants.{Any}
use Rattle.un_defs.specs.declared.walk.Barriers.{Barriers}
use Rattle.un_defs.specs.Orders.{by_numbers}
use Rattle.un_defs.specs.Ground.{Ground, ties}
use Rattle.un_defs.specs.Reach.{Walk, is_open, goes_by}
use Rattle.un_ask.specs.declared.results.Segment.{Segment}

-- segments compare by line, then index
abbrev pub segment_cmp : Segment → Segment → Ordering
segment_cmp = by_numbers (λ s. s.line ∷ s.index ∷ [])

-- the link is this segment
abbrev pub is_named : Segment → LinkName → Bool
is_named s (Seg line index) = (line == s.line) && (index == s.index)
is_named s (Path device low high) = false
is_named s (Coin junction terminal line vertex) = false
is_named s (Assoc id) = false

-- a walk goes from one node to the other by this link, which is not the segment
abbrev pub goes_beside : Ground → Barriers → Segment → Node → Node → Tie → Bool
goes_beside G B s n m tie = goes_by G B Any n m tie && not (is_named s tie.name)

-- from one open node a walk goes to the next, which is open too, without the segment
abbrev pub leads_beside : Ground → Barriers → Segment → Node → Node → Bool
leads_beside G B s n m = is_open G B n && is_open G B m && list_any (goes_beside G B s n m) (ties G n)

-- some walk over open nodes goes from one node to the other without the segment
abbrev pub IsLedBeside : Ground → Barriers → Segment → Node → Node → Type 0
IsLedBeside G B s n = Walk (leads_beside G B s) (n ∷ [])

-- a node that is reached and open
pub record IsOpenAmong (G : Ground) (B : Barriers) (reached : List Node) (n : Node) : Type 0 where
  pub among : Contains reached n
  pub opened : IsTrue (is_open G B n)

-- a loop segment: both its ends are reached and open, and a walk goes from one to the other without it
pub record IsLoop (G : Ground) (B : Barriers) (reached : List Node) (s : Segment) : Type 0 where
  pub first : Node
  pub tie : Tie
  pub stands : Contains (ties G first) tie
  pub named : IsTrue (is_named s tie.name)
  pub at_first : IsOpenAmong G B reached first
  pub at_second : IsOpenAmong G B reached tie.to
  pub walk : IsLedBeside G B s first tie.to

-- the list has exactly the loop segments, rising
pub record AreLoops (G : Ground) (B : Barriers) (reached : List Node) (segments : List Segment) : Type 0 where
  pub rising : IsStrictlySortedBy segment_cmp segments
  pub exact : (s : Segment) → Contains segments s ↔ IsLoop G B reached s
