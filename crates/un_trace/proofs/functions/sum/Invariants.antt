use Rattle.std.proofs.Common.{◌≡◌, ◌*◌, ◌^◌, pos, neg_ℤ, ◌≤ℤ◌, ◌+ℤ◌, fold, take}
use Rattle.un_trace.proofs.functions.sum.Given as goal

-- the sum so far, which stays within the bounds of so many values
abbrev pub invariant-loop-value : goal.invariant-loop-value
invariant-loop-value l = record {
  sum : l.sum ≡ fold ◌+ℤ◌ (pos 0) (take l.value-index l.values);
  low : neg_ℤ (pos (2 ^ 63 * l.value-index)) ≤ℤ l.sum;
  high : l.sum ≤ℤ pos (2 ^ 63 * l.value-index);
}
