-- The list of reached nodes is the only one.
use Rattle.std.proofs.Common.{◌≡◌, Bool, List, OnOk, Result, Ok, Err}
use Rattle.un_defs.specs.declared.port.Node.{Node}
use Rattle.un_defs.specs.Reach.{IsReach}
use Rattle.un_defs.proofs.OrderLaws.{node_total}
use Rattle.un_defs.proofs.Rising.{sorted_unique}
use Rattle.un_defs.proofs.Members.{contains_from_among, among_from_contains}

pub reach_unique : (step : Node → Node → Bool) (starts xs ys : List Node) → IsReach step starts xs → IsReach step starts ys → xs ≡ ys
reach_unique step starts xs ys a b =
    sorted_unique node_total xs ys a.rising b.rising
    (λ n h. among_from_contains ys n ((b.exact n).1 ((a.exact n).0 (contains_from_among xs n h))))
    (λ n h. among_from_contains xs n ((a.exact n).1 ((b.exact n).0 (contains_from_among ys n h))))

pub on_ok_any : {T E : Type 0} (r : Result T E) {P : Type 0} → P → OnOk r P
on_ok_any (Ok x) h = h
on_ok_any (Err e) h = tt
