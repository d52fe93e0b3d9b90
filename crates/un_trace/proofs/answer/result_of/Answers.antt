use Rattle.std.proofs.Common.{◌≡◌, List, length, map, filter, refl, sym, ap, subst, ◌∙◌, arith}
use Rattle.std.specs.List.Sorted.{IsStrictlySortedBy}
use Rattle.std.specs.Map.Iter.{deref}
use Rattle.un_defs.specs.Orders.{node_cmp}
use Rattle.un_walk.specs.declared.seen.Seen.{Seen}
use Rattle.un_trace.specs.Seen.{nodes_of, HaveEntries, is_in_result}
use Rattle.un_trace.specs.Functions.{total_of}
use Rattle.un_trace.proofs.Answered.{result_sorted}
use Rattle.un_trace.proofs.InResult.{in_result_nodes, kept_entries}
use Rattle.un_trace.proofs.Whole.{reply_with, result_is}
use Rattle.un_trace.proofs.answer.result_of.Goals as goal

pub features_of-requires : goal.features_of-requires
features_of-requires g c =
    let G = g.G.Ground.stars_and_areas c.args._over.now in
    let ask = c.args.ask.now in
    subst (IsStrictlySortedBy node_cmp)
    (sym (ap nodes_of (c.as_slice-seen.ensures.value ∙ c.seen_in_result-nodes.ensures) ∙ in_result_nodes G ask.barriers ask.include.barriers c.args.reached.items c.requires.entries))
    (result_sorted G ask (nodes_of c.args.reached.items) c.requires.sorted)

pub returns : goal.returns
returns g c =
    let G = g.G.Ground.stars_and_areas c.args._over.now in
    let ask = c.args.ask.now in
    let reached = c.args.reached.items in
    let seen : List Seen = c.as_slice-seen.result.now in
    let is : seen ≡ filter (is_in_result ask.barriers ask.include.barriers) reached = c.as_slice-seen.ensures.value ∙ c.seen_in_result-nodes.ensures in
    result_is G ask (nodes_of reached) seen
    (reply_with c.in_ok-containers.containers c.in_ok-content.content c.new.result c.in_ok-functions.functions ask.kind c.in_ok-structures.structures)
    (record {
      firsts = map deref c.as_slice.result.now;
      count = c.len.result;
      nodes = ap nodes_of is ∙ in_result_nodes G ask.barriers ask.include.barriers reached c.requires.entries;
      entries = subst (HaveEntries G) (sym is) (kept_entries G (is_in_result ask.barriers ask.include.barriers) reached c.requires.entries);
      firsts_are = ap (map deref) c.as_slice.ensures.value ∙ c.in_ok-features.ensures.firsts;
      features = c.new.ensures ∙ c.in_ok-features.ensures.parts;
      counted = omega (arith, c.len.ensures, c.in_ok-features.features.parts.ok, ap length c.in_ok-features.ensures.parts);
      functions = c.in_ok-functions.ensures ∙ ap (map (total_of (map deref c.as_slice.result.now) c.len.result)) c.as_slice-2.ensures;
      containers = c.in_ok-containers.ensures;
      content = c.in_ok-content.ensures;
      structures = c.in_ok-structures.ensures;
      kind = refl;
    })
