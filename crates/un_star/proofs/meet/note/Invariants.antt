use Rattle.std.proofs.Common.{◌≡◌, ◌++◌, take, drop}
use Rattle.un_star.specs.Meet.{noted}
use Rattle.un_star.proofs.meet.note.Given as goal

-- the groups so far are others
abbrev pub invariant-loop-place : goal.invariant-loop-place
invariant-loop-place l = record {
  same : l.groups.items ≡ l.fn.groups.items;
  others : noted l.groups.items l.kind l.terminal l.port ≡ take l.place l.groups.items ++ noted (drop l.place l.groups.items) l.kind l.terminal l.port;
}
