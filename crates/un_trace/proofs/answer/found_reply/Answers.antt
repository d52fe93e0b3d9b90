use Rattle.std.proofs.Common.{subst}
use Rattle.std.specs.List.Sorted.{IsStrictlySortedBy}
use Rattle.un_defs.specs.Orders.{node_cmp}
use Rattle.un_defs.proofs.OrderLaws.{node_total}
use Rattle.un_defs.proofs.Rising.{sorted-rising}
use Rattle.un_walk.specs.Found.{nodes}
use Rattle.un_trace.proofs.answer.found_reply.Goals as goal

pub clean_reply-requires-clause-sorted : goal.clean_reply-requires-clause-sorted
clean_reply-requires-clause-sorted g c =
    subst (IsStrictlySortedBy node_cmp) c.in_ok-reached.ensures.nodes (sorted-rising node_total (nodes c.args.found.now))
