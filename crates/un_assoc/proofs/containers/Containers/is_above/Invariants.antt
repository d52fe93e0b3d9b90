use Rattle.std.proofs.Common.{◌≡◌}
use Rattle.std.specs.Ordering.{nat_cmp}
use Rattle.std.specs.Map.{lookup}
use Rattle.std.specs.BTreeMap.{is_at}
use Rattle.un_assoc.proofs.Chains.{is_among}
use Rattle.un_assoc.proofs.containers.Containers.is_above.Given as goal

abbrev pub invariant-loop-left : goal.invariant-loop-left
invariant-loop-left l =
    is_among l.fn.most (λ c. lookup (is_at (nat_cmp c)) l.self.containers) l.fn.id l.sought ≡ is_among l.left (λ c. lookup (is_at (nat_cmp c)) l.self.containers) l.at l.sought

abbrev pub decreases-loop-left : goal.decreases-loop-left
decreases-loop-left l = l.left
