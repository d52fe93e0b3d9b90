use Rattle.std.proofs.Common.{◌≡◌, ◌-◌, ◌<◌, ◌≤◌, map, length, take, drop}
use Rattle.std.specs.Map.Iter.{deref}
use Rattle.un_defs.proofs.Rising.{Among}
use Rattle.un_walk.specs.declared.seen.Seen.{Seen}
use Rattle.un_trace.proofs.Rise.{feature_of}
use Rattle.un_trace.proofs.SeenParts.{seen_parts, seen_firsts}
use Rattle.un_trace.proofs.features.features_of.Given as goal

-- the nodes so far are told, and those to come are of later features
abbrev pub invariant-loop-begin : goal.invariant-loop-begin
invariant-loop-begin l = record {
  within : l.begin ≤ length l.seen;
  apart : (s t : Seen) → Among (take l.begin l.seen) s → Among (drop l.begin l.seen) t → feature_of s < feature_of t;
  parts : l.features.parts.items ≡ seen_parts (take l.begin l.seen);
  firsts : map deref l.features.firsts.items ≡ seen_firsts (take l.begin l.seen);
}

abbrev pub decreases-loop-begin : goal.decreases-loop-begin
decreases-loop-begin l = length l.seen - l.begin
