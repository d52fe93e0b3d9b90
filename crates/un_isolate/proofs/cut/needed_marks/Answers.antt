use Rattle.std.proofs.Common.{◌≡◌, Bool, List, length, sym, ap, subst, subst₂, ◌∙◌, ℕ}
use Rattle.std.proofs.lemmas.Result.{IfOk-weaker}
use Rattle.smallvec.specs.SmallVec.{SmallVec}
use Rattle.un_isolate.specs.Links.{LeadInside, AreTurned}
use Rattle.un_isolate.specs.Marks.{both_marks}
use Rattle.un_isolate.specs.Spread.{AreReached}
use Rattle.un_isolate.proofs.Cutting.{needed_marked}
use Rattle.un_isolate.proofs.Linking.{turned_inside}
use Rattle.un_isolate.proofs.Places.{both_count}
use Rattle.un_isolate.proofs.cut.needed_marks.Goals as goal

pub links_back-requires : goal.links_back-requires
links_back-requires c = subst (λ (l : List (SmallVec ℕ)). LeadInside l) (sym c.deref-2.ensures.value) c.requires.whole.inside

pub spread-requires-clause-closed : goal.spread-requires-clause-closed
spread-requires-clause-closed c =
    let zone : List Bool = c.args.zone.now in
    let isolating : List Bool = c.deref.result.now in
    let links : List (SmallVec ℕ) = c.deref-2.result.now in
    let as_isolating : length isolating ≡ length c.args.network.now.onward.items = ap length c.deref.ensures.value ∙ c.requires.whole.isolating in
    let as_links : length links ≡ length c.args.network.now.onward.items = ap length c.deref-2.ensures.value in
    let border : length c.in_ok-border.border.items ≡ length isolating = ap length c.in_ok-border.ensures ∙ both_count zone isolating (c.requires.count ∙ sym as_isolating) in
    ap length c.deref-5.ensures.value ∙ border ∙ as_isolating ∙ sym as_links ∙ sym c.in_ok-back.ensures.count ∙ sym (ap length c.deref-3.ensures.value)

pub spread-requires-clause-inside : goal.spread-requires-clause-inside
spread-requires-clause-inside c =
    subst (λ (l : List (SmallVec ℕ)). LeadInside l) (sym c.deref-3.ensures.value) (turned_inside c.deref-2.result.now c.in_ok-back.back.items c.in_ok-back.ensures)

pub returns-clause-count : goal.returns-clause-count
returns-clause-count c =
    let zone : List Bool = c.args.zone.now in
    let isolating : List Bool = c.deref.result.now in
    let border : List Bool = c.deref-6.result.now in
    let before : List Bool = c.deref-7.result.now in
    let links : List (SmallVec ℕ) = c.deref-2.result.now in
    let back : List (SmallVec ℕ) = c.deref-3.result.now in
    let onward = c.args.network.now.onward.items in
    let as_isolating : length isolating ≡ length onward = ap length c.deref.ensures.value ∙ c.requires.whole.isolating in
    let as_links : length links ≡ length onward = ap length c.deref-2.ensures.value in
    let as_border : length border ≡ length onward = ap length c.deref-6.ensures.value ∙ ap length c.in_ok-border.ensures ∙ both_count zone isolating (c.requires.count ∙ sym as_isolating) ∙ as_isolating in
    let as_back : length back ≡ length onward = ap length c.deref-3.ensures.value ∙ c.in_ok-back.ensures.count ∙ as_links in
    let as_before : length before ≡ length onward = ap length c.deref-7.ensures.value ∙ c.in_ok-before.ensures.count ∙ as_back in
    IfOk-weaker c.both_marks-2.result _ _ (λ needed is. ap length is ∙ both_count border before (as_border ∙ sym as_before) ∙ as_before) c.both_marks-2.ensures

pub returns-clause-needed : goal.returns-clause-needed
returns-clause-needed c = λ I reached u.
    let network = c.args.network.now in
    let zone : List Bool = c.args.zone.now in
    let back : List (SmallVec ℕ) = c.in_ok-back.back.items in
    let before : List Bool = c.in_ok-before.before.items in
    let border : c.in_ok-border.border.items ≡ both_marks zone network.isolating.items = c.in_ok-border.ensures ∙ ap (both_marks zone) c.deref.ensures.value in
    let turned : AreTurned network.onward.items back (length network.onward.items) =
    subst (λ (l : List (SmallVec ℕ)). AreTurned l back (length l)) c.deref-2.ensures.value c.in_ok-back.ensures in
    let reached_marks : AreReached back network.controlled.items (both_marks zone network.isolating.items) before =
    subst (λ (l : List (SmallVec ℕ)). AreReached l network.controlled.items (both_marks zone network.isolating.items) before) c.deref-3.ensures.value
    (subst₂ (λ (starts : List Bool) (closed : List Bool). AreReached c.deref-3.result.now starts closed before) c.deref-4.ensures.value (c.deref-5.ensures.value ∙ border) c.in_ok-before.ensures) in
    let found = needed_marked I reached network u.graph u.basis zone u.marks u.free back turned before reached_marks in
    IfOk-weaker c.both_marks-2.result _ _
    (λ needed items. items ∙ (λ i. both_marks (c.deref-6.ensures.value i) (c.deref-7.ensures.value i)) ∙ ap (λ l. both_marks l before) border ∙ found) c.both_marks-2.ensures
