use Rattle.std.proofs.Common.{◌≡◌, ◌+◌, ◌≤◌, length}
use Rattle.un_core.proofs.Batching.{IsUnderWay}
use Rattle.un_core.proofs.net.Net.make_all.Given as goal

abbrev pub invariant-loop-place : goal.invariant-loop-place
invariant-loop-place l = record {
  under_way : IsUnderWay l.fn.self l.edits l.place l.batched.net l.batched.ids.items l.batched.touched.items l.batched.dirtied.items;
  features : l.batched.net.next_feature ≤ l.fn.self.next_feature + l.place;
  associations : l.batched.net.next_association ≤ l.fn.self.next_association + l.place;
  areas : l.batched.net.next_area + length l.fn.self.areas ≡ l.fn.self.next_area + length l.batched.net.areas;
  few : length l.batched.net.areas ≤ 65536;
}
