use Rattle.std.proofs.Common.{◌≡◌, ◌↔◌, ℕ, ◌+◌, List, [], ◌∷◌, ◌++◌, take, sym, ap, refl, subst, subst₂, ◌∙◌, Vec, Global}
use Rattle.std.specs.Prelude.{Some, None}
use Rattle.std.proofs.lemmas.List.{take_more}
use Rattle.un_defs.specs.declared.link.Tie.{Tie}
use Rattle.un_defs.specs.declared.port.Node.{Node}
use Rattle.un_defs.proofs.LinkCases.{some_same}
use Rattle.un_path.specs.declared.hops.Hop.{Hop}
use Rattle.un_path.specs.Hops.{AreHopsBy, IsAt}
use Rattle.un_path.proofs.Hopping.{hops_with, hops_without}
use Rattle.un_path.proofs.hops.hops_by.Goals as goal
use Rattle.un_path.proofs.hops.hops_by.Goals.{in-Some+in_ok-push, in_default}

pub loop-tie-preserved : goal.loop-tie-preserved
loop-tie-preserved c =
    let nodes = c.args.nodes.now in
    let s = c.args.spot.now in
    let w = c.args.weight in
    let ties : List Tie = c.ties-tie-items.result.now in
    let k = c.loop-tie.tie-index in
    let tie : Tie = c.tie-item.result in
    let more : take k ties ++ tie ∷ [] ≡ take (k + 1) ties = ap (λ t. take k ties ++ t ∷ []) c.tie-item.is ∙ sym (take_more ties k tie c.loop-tie-test.true) in
    let hops : List Hop = c.loop-tie.hops.items in
    let so_far : AreHopsBy w nodes s (take k ties) hops = c.loop-tie.invariant in
    elim c.match-place_of.branch [
      | in-Some+in_ok-push v ↦
          let at = subst (λ (n : Node). (i : ℕ) → (Some v.in-Some.to ≡ Some i) ↔ IsAt nodes i n) c.to.ensures v.in-Some.ensures in
          let hop : Hop = record { to = v.in-Some.to; cost = v.link_cost.result } in
          subst₂ (AreHopsBy w nodes s) more (sym (ap (λ (e : Vec Hop Global). e.items) v.hops-is ∙ v.in_ok-push.ensures.items))
          (hops_with w nodes s (take k ties) hops so_far tie hop ((at hop.to).0 refl)
          (λ i there. some_same i hop.to (sym ((at i).1 there))) v.link_cost.ensures)
      | in_default v ↦
          subst₂ (AreHopsBy w nodes s) more (sym (ap (λ (e : Vec Hop Global). e.items) v.hops-is))
          (hops_without w nodes s (take k ties) hops so_far tie (λ i there. (let clash : None ≡ Some i = (subst (λ (n : Node). (i : ℕ) → (None ≡ Some i) ↔ IsAt nodes i n) c.to.ensures v.in_default.ensures i).1 there in cc)))
    ]
