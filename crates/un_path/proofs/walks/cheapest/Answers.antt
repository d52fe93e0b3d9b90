use Rattle.std.proofs.Common.{◌≡◌, List, get_or, take, sym, subst, subst₂, ◌∙◌, Some, arith}
use Rattle.std.proofs.lemmas.List.{take_more}
use Rattle.un_path.specs.declared.hops.Hop.{Hop}
use Rattle.un_path.specs.Checking.{IsCheapest, is_to}
use Rattle.un_path.proofs.Following.{cheapest_skips, cheapest_stays, cheapest_first, cheapest_falls}
use Rattle.un_path.proofs.walks.cheapest.Goals as goal
use Rattle.un_path.proofs.walks.cheapest.Goals.{then-is_to+in-Some, then-is_to+in_default, in_default-via-in-Some+else-other-hop, in_default-via-in_default, else-is_to}

abbrev no_hop : Hop
no_hop = record { to = 0; cost = 0 }

pub loop-hop-preserved : goal.loop-hop-preserved
loop-hop-preserved c =
    let nodes = c.args.nodes.now in
    let q = c.args.port in
    let all : List Hop = c.args.hops.now in
    let k = c.loop-hop.hop-index in
    let hop : Hop = get_or all k no_hop in
    let more = sym (take_more all k no_hop c.loop-hop-test.true) in
    let is : c.is_to.result ≡ is_to nodes q hop = c.is_to.ensures in
    let so_far : IsCheapest nodes q (take k all) c.loop-hop.best = c.loop-hop.invariant in
    elim c.if-is_to.branch [
      | then-is_to+in-Some v ↦
          let best : IsCheapest nodes q (take k all) (Some v.in-Some.other) = subst (IsCheapest nodes q (take k all)) v.in-Some.is so_far in
          subst₂ (IsCheapest nodes q) more (sym v.best-is) (cheapest_stays nodes q (take k all) hop v.in-Some.other best v.if-other-hop.true)
      | then-is_to+in_default v ↦
          subst₂ (IsCheapest nodes q) more (sym v.best-is) (elim v.in_default.branch [
            | in_default-via-in-Some+else-other-hop u ↦
                cheapest_falls nodes q (take k all) hop u.in-Some.other (subst (IsCheapest nodes q (take k all)) u.in-Some.is so_far) (omega (arith, u.if-other-hop.false)) (sym is ∙ v.if-is_to.true)
            | in_default-via-in_default u ↦ cheapest_first nodes q (take k all) hop (subst (IsCheapest nodes q (take k all)) u.in_default.is so_far) (sym is ∙ v.if-is_to.true)
          ])
      | else-is_to v ↦ subst₂ (IsCheapest nodes q) more (sym v.best-is) (cheapest_skips nodes q (take k all) hop c.loop-hop.best so_far (sym is ∙ v.if-is_to.false))
    ]
