use Rattle.std.proofs.Common.{rules}
use Rattle.std.proofs.lemmas.Fn.{filter_same}
use Rattle.un_trace.specs.Seen.{is_in_result}
use Rattle.un_trace.proofs.nodes.seen_in_result.Goals as goal

pub returns : goal.returns
returns c = filter_same _ (is_in_result c.args.barriers.now c.args.with_barriers) _ (λ x b f' k. search rules) _ _ c.retain.ensures.filtered
