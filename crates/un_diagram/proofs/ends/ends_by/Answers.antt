use Rattle.std.proofs.Common.{◌≡◌, ◌↔◌, ℕ, ◌+◌, List, [], ◌∷◌, ◌++◌, take, take_all, sym, subst, ap, refl, subst₂, ◌∙◌, Vec, Global}
use Rattle.std.specs.Prelude.{Some, None, Contains}
use Rattle.std.proofs.lemmas.List.{take_more}
use Rattle.un_defs.specs.declared.link.Tie.{Tie}
use Rattle.un_defs.specs.declared.port.Node.{Node}
use Rattle.un_defs.proofs.LinkCases.{some_same}
use Rattle.un_diagram.specs.Places.{IsAt, IsEndBy}
use Rattle.un_diagram.proofs.Linking.{ends_with, ends_without}
use Rattle.un_diagram.proofs.ends.ends_by.Goals as goal
use Rattle.un_diagram.proofs.ends.ends_by.Goals.{in-Some+in_ok-push, in_default}

pub loop-tie-preserved : goal.loop-tie-preserved
loop-tie-preserved c =
    let nodes = c.args.nodes.now in
    let ties : List Tie = c.ties-tie-items.result.now in
    let k = c.loop-tie.tie-index in
    let tie : Tie = c.tie-item.result in
    let more : take k ties ++ tie ∷ [] ≡ take (k + 1) ties = ap (λ t. take k ties ++ t ∷ []) c.tie-item.is ∙ sym (take_more ties k tie c.loop-tie-test.true) in
    let ends : List ℕ = c.loop-tie.ends.items in
    elim c.match-place_of.branch [
      | in-Some+in_ok-push v ↦
          let at = subst (λ (n : Node). (i : ℕ) → (Some v.in-Some.end ≡ Some i) ↔ IsAt nodes i n) c.to.ensures v.in-Some.ensures in
          subst₂ (λ (l : List Tie) (es : List ℕ). (j : ℕ) → Contains es j ↔ IsEndBy nodes l j) more (sym (ap (λ (e : Vec ℕ Global). e.items) v.ends-is ∙ v.in_ok-push.ensures.items))
          (ends_with nodes (take k ties) ends c.loop-tie.invariant tie v.in-Some.end ((at v.in-Some.end).0 refl)
          (λ i there. some_same i v.in-Some.end (sym ((at i).1 there))))
      | in_default v ↦
          subst₂ (λ (l : List Tie) (es : List ℕ). (j : ℕ) → Contains es j ↔ IsEndBy nodes l j) more (sym (ap (λ (e : Vec ℕ Global). e.items) v.ends-is))
          (ends_without nodes (take k ties) ends c.loop-tie.invariant tie (λ i there. (let clash : None ≡ Some i = (subst (λ (n : Node). (i : ℕ) → (None ≡ Some i) ↔ IsAt nodes i n) c.to.ensures v.in_default.ensures i).1 there in cc)))
    ]

pub returns : goal.returns
returns c =
    let ties : List Tie = c.ties-tie-items.result.now in
    let all : take c.loop-tie.tie-index ties ≡ ties = take_all c.loop-tie.tie-index ties c.loop-tie-test.false in
    subst (λ (l : List Tie). (j : ℕ) → Contains c.loop-tie.ends.items j ↔ IsEndBy c.args.nodes.now l j) (all ∙ c.ties-tie-items.ensures) c.loop-tie.invariant
