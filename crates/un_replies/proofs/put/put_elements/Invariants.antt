use Rattle.std.proofs.Common.{◌+◌, ◌-◌, ◌*◌, ◌≤◌, nat_lt, drop, length, vec_len, vec_capacity}
use Rattle.un_values.specs.Values.{count}
use Rattle.un_replies.proofs.Steps.{IsPrintedBut}
use Rattle.un_replies.proofs.put.put_elements.Given as goal

abbrev pub invariant-loop-place : goal.invariant-loop-place
invariant-loop-place l = record {
  room : vec_len l.out + 21 * (length l.numbers - l.place) ≤ vec_capacity l.out;
  len : vec_len l.out ≤ vec_len l.fn.out + 21 * l.place;
  capacity : vec_capacity l.fn.out ≤ vec_capacity l.out;
  text : IsPrintedBut count l.fn.out.items (nat_lt 0 l.place) (drop l.place l.numbers) l.numbers l.out.items;
}
