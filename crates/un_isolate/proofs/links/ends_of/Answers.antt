use Rattle.std.proofs.Common.{◌≡◌, ℕ, ◌+◌, List, [], ◌∷◌, ◌++◌, take, take_all, sym, ap, subst, subst₂, ◌∙◌}
use Rattle.std.specs.Option.{option_copied, option_map_or}
use Rattle.std.proofs.lemmas.List.{take_more}
use Rattle.smallvec.specs.SmallVec.{SmallVec}
use Rattle.un_defs.specs.declared.link.Tie.{Tie}
use Rattle.un_isolate.specs.Entries.{ties_by}
use Rattle.un_isolate.proofs.Searching.{AreEndsOf, ends_with, ends_without, ends_done}
use Rattle.un_isolate.proofs.links.ends_of.Goals as goal
use Rattle.un_isolate.proofs.links.ends_of.Goals.{in-Some-end_of+in_ok-push, in_default-end_of}

pub loop-tie-preserved : goal.loop-tie-preserved
loop-tie-preserved c =
    let nodes = c.args.nodes.now in
    let tier = c.args.barriers.now.tier in
    let v = c.args.one.now in
    let ties : List Tie = c.ties-tie-items.result.now in
    let k = c.loop-tie.tie-index in
    let tie : Tie = c.tie-item.result in
    let more : take k ties ++ tie ∷ [] ≡ take (k + 1) ties = ap (λ t. take k ties ++ t ∷ []) c.tie-item.is ∙ sym (take_more ties k tie c.loop-tie-test.true) in
    elim c.match-end_of.branch [
      | in-Some-end_of+in_ok-push w ↦
          subst₂ (AreEndsOf nodes c.requires tier v) more (sym (ap (λ (e : SmallVec ℕ). e.items) w.ends-is ∙ w.in_ok-push.ensures.ok))
          (ends_with nodes c.requires tier v (take k ties) c.loop-tie.ends.items tie w.in-Some-end_of.end c.loop-tie.invariant w.in-Some-end_of.ensures)
      | in_default-end_of w ↦
          subst₂ (AreEndsOf nodes c.requires tier v) more (sym (ap (λ (e : SmallVec ℕ). e.items) w.ends-is))
          (ends_without nodes c.requires tier v (take k ties) c.loop-tie.ends.items tie c.loop-tie.invariant w.in_default-end_of.ensures)
    ]

pub returns : goal.returns
returns c =
    let ties : List Tie = c.ties-tie-items.result.now in
    let all : take c.loop-tie.tie-index ties ≡ ties = take_all c.loop-tie.tie-index ties c.loop-tie-test.false in
    let is : ties ≡ ties_by c.args.one.now = c.ties-tie-items.ensures ∙ sym (ap (λ o. option_map_or (λ s. s.ties) (option_copied o) []) c.in-Some.is) in
    ends_done c.args.nodes.now c.requires c.args.barriers.now c.args.one.now c.loop-tie.ends.items (sym c.is_barrier.ensures ∙ c.if-is_barrier.false)
    (subst (λ l. AreEndsOf c.args.nodes.now c.requires c.args.barriers.now.tier c.args.one.now l c.loop-tie.ends.items) (all ∙ is) c.loop-tie.invariant)
