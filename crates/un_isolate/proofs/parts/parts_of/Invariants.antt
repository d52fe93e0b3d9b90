use Rattle.std.proofs.Common.{◌≡◌, ◌-◌, ◌<◌, ◌≤◌, length, take, drop}
use Rattle.un_defs.specs.declared.port.Node.{Node}
use Rattle.un_defs.proofs.Rising.{Among}
use Rattle.un_isolate.proofs.Rise.{feature_of}
use Rattle.un_isolate.proofs.FeatureParts.{read_parts}
use Rattle.un_isolate.proofs.parts.parts_of.Given as goal

-- the nodes so far are told, and those to come are of later features
abbrev pub invariant-loop-begin : goal.invariant-loop-begin
invariant-loop-begin l = record {
  within : l.begin ≤ length l.nodes;
  apart : (s t : Node) → Among (take l.begin l.nodes) s → Among (drop l.begin l.nodes) t → feature_of s < feature_of t;
  parts : l.found.items ≡ read_parts (take l.begin l.nodes);
}

abbrev pub decreases-loop-begin : goal.decreases-loop-begin
decreases-loop-begin l = length l.nodes - l.begin
