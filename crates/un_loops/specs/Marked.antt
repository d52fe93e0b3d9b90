-- The segments among names of which some are marked.
use Rattle.std.specs.Prelude.{Bool, true, false, List, Option, None, Some}
use Rattle.std.specs.List.{filter_map, zip}
use Rattle.un_defs.specs.declared.link.LinkName.{LinkName}
use Rattle.un_defs.specs.declared.link.LinkName.TheVariants.{Seg, Path, Coin, Assoc}
use Rattle.un_ask.specs.declared.results.Segment.{Segment}

-- the segment of this name, if it is one of a segment and marked
abbrev pub segment_if : LinkName → Bool → Option Segment
segment_if name false = None
segment_if (Seg line index) true = Some (record { line = line; index = index })
segment_if (Path device low high) true = None
segment_if (Coin junction terminal line vertex) true = None
segment_if (Assoc id) true = None

-- the segments among the names whose marks are on
abbrev pub marked_segments : List LinkName → List Bool → List Segment
marked_segments names marks = filter_map (λ p. segment_if p.0 p.1) (zip names marks)
