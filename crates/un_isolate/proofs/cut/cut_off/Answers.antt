use Rattle.std.proofs.Common.{Bool, List, length, sym, ap, subst, subst₂, ◌∙◌, ℕ}
use Rattle.std.specs.List.Sorted.{IsStrictlySortedBy}
use Rattle.smallvec.specs.SmallVec.{SmallVec}
use Rattle.un_defs.specs.declared.port.Node.{Node}
use Rattle.un_defs.specs.Orders.{node_cmp}
use Rattle.un_ask.specs.declared.reply.Reply.TheVariants.{Isolation as IsolationReply}
use Rattle.un_isolate.specs.IsolationList.{ports_of}
use Rattle.un_isolate.specs.Links.{LeadInside}
use Rattle.un_isolate.specs.Marks.{marked_nodes}
use Rattle.un_isolate.specs.Parts.{parts}
use Rattle.un_isolate.specs.Spread.{AreReached}
use Rattle.un_isolate.proofs.Cutting.{borders_are, part_is}
use Rattle.un_isolate.proofs.Places.{marked_sorted}
use Rattle.un_isolate.proofs.cut.cut_off.Goals as goal

pub spread-requires-clause-starts : goal.spread-requires-clause-starts
spread-requires-clause-starts c = ap length c.deref-2.ensures.value ∙ c.requires.whole.starts ∙ sym (ap length c.deref.ensures.value)

pub spread-requires-clause-closed : goal.spread-requires-clause-closed
spread-requires-clause-closed c = ap length c.deref-3.ensures.value ∙ c.in_ok-needed.ensures.count ∙ sym (ap length c.deref.ensures.value)

pub spread-requires-clause-inside : goal.spread-requires-clause-inside
spread-requires-clause-inside c = subst (λ (l : List (SmallVec ℕ)). LeadInside l) (sym c.deref.ensures.value) c.requires.whole.inside

pub parts_of-requires : goal.parts_of-requires
parts_of-requires c =
    subst (λ (ns : List Node). IsStrictlySortedBy node_cmp ns) (sym (c.deref-7.ensures.value ∙ c.in_ok-marked_nodes-2.ensures))
    (marked_sorted c.args.reached.now c.deref-6.result.now c.requires.sorted)

pub returns : goal.returns
returns c = λ I u.
    let network = c.args.network.now in
    let reached : List Node = c.args.reached.now in
    let needed : List Bool = c.in_ok-needed.needed.items in
    let part : List Bool = c.in_ok-part.part.items in
    let needed_is = c.in_ok-needed.ensures.needed I reached u in
    let spread : AreReached network.onward.items network.starts.items needed part =
    subst (λ (l : List (SmallVec ℕ)). AreReached l network.starts.items needed part) c.deref.ensures.value
    (subst₂ (λ (starts : List Bool) (closed : List Bool). AreReached c.deref.result.now starts closed part) c.deref-2.ensures.value c.deref-3.ensures.value c.in_ok-part.ensures) in
    let borders = c.new.ensures ∙ c.in_ok-borders.ensures
    ∙ ap ports_of (c.deref-5.ensures.value ∙ c.in_ok-marked_nodes.ensures ∙ ap (marked_nodes reached) c.deref-4.ensures.value)
    ∙ borders_are I reached network u.graph u.basis u.free needed needed_is in
    let features = c.new-2.ensures ∙ c.in_ok-features.ensures
    ∙ ap parts (c.deref-7.ensures.value ∙ c.in_ok-marked_nodes-2.ensures ∙ ap (marked_nodes reached) c.deref-6.ensures.value ∙ part_is I reached network u.graph u.basis u.free needed needed_is part spread) in
    λ i. IsolationReply (borders i) (features i) 0
