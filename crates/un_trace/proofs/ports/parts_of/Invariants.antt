use Rattle.std.proofs.Common.{◌≡◌, ◌-◌, ◌≤◌, length, take, drop}
use Rattle.un_trace.specs.Ports.{key_feature, key_number, parts_by}
use Rattle.un_trace.proofs.Turn.{AreApart}
use Rattle.un_trace.proofs.ports.parts_of.Given as goal

-- the ports so far are told, and those to come are of later features
abbrev pub invariant-loop-begin : goal.invariant-loop-begin
invariant-loop-begin l = record {
  within : l.begin ≤ length l.keys;
  apart : AreApart key_feature key_number (take l.begin l.keys) (drop l.begin l.keys);
  parts : l.features.items ≡ parts_by key_feature key_number (take l.begin l.keys);
}

abbrev pub decreases-loop-begin : goal.decreases-loop-begin
decreases-loop-begin l = length l.keys - l.begin
