use Rattle.std.proofs.Common.{◌≡◌, ◌↔◌, ◌<◌, ℕ, length, Some, None, rules, refl, sym, ap, subst, ◌∙◌}
use Rattle.un_defs.specs.declared.port.Node.{Node}
use Rattle.un_defs.specs.declared.link.LinkName.{LinkName}
use Rattle.std.specs.Prelude.{slice_get}
use Rattle.std.proofs.lemmas.Option.{slice_get_within, slice_get_read}
use Rattle.un_walk.specs.declared.seen.Seen.{Seen}
use Rattle.un_isolate.specs.Entries.{IsPlaceOf, IsEndOf, is_shut_by}
use Rattle.un_isolate.proofs.Searching.{end_missing, end_shut, end_open}
use Rattle.un_isolate.proofs.links.end_of.Goals as goal

pub returns-in_err-end : goal.returns-in_err-end
returns-in_err-end c =
    subst (λ o. (p : ℕ) → (o ≡ Some p) ↔ IsEndOf c.args.tier c.args.nodes.now c.args.one.now c.args.tie.now p) (sym c.from_residual.ensures)
    (end_missing c.args.nodes.now c.requires c.args.tier c.args.one.now c.args.tie.now
    (subst (λ (n : Node). (p : ℕ) → (None ≡ Some p) ↔ IsPlaceOf c.args.nodes.now n p) c.to.ensures c.in_err-end.ensures))

pub bounds-nodes-end : goal.bounds-nodes-end
bounds-nodes-end c = let here = (c.in_ok-end.ensures c.in_ok-end.end).0 refl in slice_get_within c.args.nodes.now c.in_ok-end.end here.0 here.1

pub offset_bounds-nodes-end : goal.offset_bounds-nodes-end
offset_bounds-nodes-end c =
    let below : c.in_ok-end.end < length c.args.nodes.now = bounds-nodes-end c in
    search rules

pub returns-then-is_shut : goal.returns-then-is_shut
returns-then-is_shut c =
    let nodes = c.args.nodes.now in
    let end = c.in_ok-end.end in
    let here : IsPlaceOf nodes c.args.tie.now.to end = subst (λ (n : Node). IsPlaceOf nodes n end) c.to.ensures ((c.in_ok-end.ensures end).0 refl) in
    let w : Seen = c.index-nodes-end.result in
    let at : slice_get nodes end ≡ Some w = slice_get_read nodes (length nodes) end w refl (slice_get_within nodes end here.0 here.1) c.index-nodes-end.is in
    end_shut nodes c.requires c.args.tier c.args.one.now c.args.tie.now end w at here (ap (λ (name : LinkName). is_shut_by c.args.tier name c.args.one.now w) (sym c.name.ensures) ∙ sym c.is_shut.ensures ∙ c.if-is_shut.true)

pub returns-else-is_shut : goal.returns-else-is_shut
returns-else-is_shut c =
    let nodes = c.args.nodes.now in
    let end = c.in_ok-end.end in
    let here : IsPlaceOf nodes c.args.tie.now.to end = subst (λ (n : Node). IsPlaceOf nodes n end) c.to.ensures ((c.in_ok-end.ensures end).0 refl) in
    let w : Seen = c.index-nodes-end.result in
    let at : slice_get nodes end ≡ Some w = slice_get_read nodes (length nodes) end w refl (slice_get_within nodes end here.0 here.1) c.index-nodes-end.is in
    end_open nodes c.requires c.args.tier c.args.one.now c.args.tie.now end w at here (ap (λ (name : LinkName). is_shut_by c.args.tier name c.args.one.now w) (sym c.name.ensures) ∙ sym c.is_shut.ensures ∙ c.if-is_shut.false)
