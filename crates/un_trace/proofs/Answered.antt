-- The list of reached nodes is the only one, and the result nodes rise as it does.
use Rattle.std.proofs.Common.{◌≡◌, ℕ, Bool, true, List, Option, IsSome, sym, true≢false}
use Rattle.std.specs.List.Sorted.{IsStrictlySortedBy}
use Rattle.std.proofs.lemmas.List.Kept.{IsStrictlySortedBy-filter}
use Rattle.un_defs.specs.declared.port.Node.{Node}
use Rattle.un_defs.specs.Orders.{node_cmp}
use Rattle.un_defs.specs.Ground.{Ground}
use Rattle.un_defs.specs.Reach.{IsReach}
use Rattle.un_defs.proofs.OrderLaws.{node_total}
use Rattle.un_defs.proofs.Rising.{sorted_unique}
use Rattle.un_defs.proofs.Members.{contains_from_among, among_from_contains}
use Rattle.un_ask.specs.declared.trace.TraceKind.{TraceKind}
use Rattle.un_ask.specs.declared.trace.TraceKind.TheVariants.{Connected, Subnetwork, Controllers as ControllersKind, Upstream, Downstream, Loops as LoopsKind, Isolation as IsolationKind}
use Rattle.un_ask.specs.declared.typed.TypedAsk.{TypedAsk}
use Rattle.un_trace.specs.TraceReply.{IsAnswerable, lists_controllers, nodes_in_result}

pub reach_unique : (step : Node → Node → Bool) (starts xs ys : List Node) → IsReach step starts xs → IsReach step starts ys → xs ≡ ys
reach_unique step starts xs ys a b =
    sorted_unique node_total xs ys a.rising b.rising
    (λ n h. among_from_contains ys n ((b.exact n).1 ((a.exact n).0 (contains_from_among xs n h))))
    (λ n h. among_from_contains xs n ((a.exact n).1 ((b.exact n).0 (contains_from_among ys n h))))

-- a trace that tells controllers has a tier
pub has_tier : (k : TraceKind) (tier : Option ℕ) → IsAnswerable k tier → lists_controllers k ≡ true → IsSome tier
has_tier Connected tier h e = absurd (true≢false (sym e))
has_tier Subnetwork tier h e = absurd (true≢false (sym e))
has_tier ControllersKind tier h e = h
has_tier Upstream tier h e = absurd (true≢false (sym e))
has_tier Downstream tier h e = absurd (true≢false (sym e))
has_tier LoopsKind tier h e = absurd h
has_tier IsolationKind tier h e = absurd h

pub result_sorted : (G : Ground) (ask : TypedAsk) (reached : List Node) → IsStrictlySortedBy node_cmp reached → IsStrictlySortedBy node_cmp (nodes_in_result G ask reached)
result_sorted G ask reached sorted = IsStrictlySortedBy-filter node_cmp _ reached sorted
