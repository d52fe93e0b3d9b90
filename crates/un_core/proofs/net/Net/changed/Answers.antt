use Rattle.std.proofs.Common.{◌<◌, ◌+◌, ◌≤◌, length, refl, sym, ap, ◌∙◌, subst}
use Rattle.un_defs.specs.Laws.{MayBeMade}
use Rattle.un_dirty.specs.Areas.{added}
use Rattle.un_core.specs.State.{State}
use Rattle.un_core.specs.Step.{setting, next_with, made_at}
use Rattle.un_core.specs.Held.{held}
use Rattle.un_core.specs.Making.{IsChange, AreasGrow, FeaturesGrow, AssociationsGrow}
use Rattle.un_core.proofs.Making.{new, state_is, is_state, features_grow, associations_grow, areas_grow}
use Rattle.un_core.proofs.net.Net.changed.Goals as goal

pub changed-requires : goal.changed-requires
changed-requires c = record {
  new = new c.self.inside.facts c.self.inside.kept c.self.inside.dirty c.self.inside.stored c.self.inside.version c.self.inside.ids c.args.moment c.args.edit.now c.self.invariant;
  follows = (subst (λ (s : State). IsChange s c.args.moment c.args.edit.now c.args.change) (sym c.self.view_is) c.requires.follows).follows;
  may = subst (λ (s : State). MayBeMade (setting s) (next_with s c.args.moment) s.features c.args.edit.now) (sym c.self.view_is) c.requires.may;
}

pub with-requires : goal.with-requires
with-requires c =
    let change = subst (λ (s : State). IsChange s c.args.moment c.args.edit.now c.args.change) (sym c.self.view_is) c.requires.follows in
    record {
      next = subst (λ (s : State). s.next_area < 9_000_000_000_100_000) (sym c.self.view_is) c.requires.area;
      room = subst (λ rects. length c.self.inside.dirty.areas + length rects ≤ 65536) (sym c.deref.ensures.value) change.room;
    }

pub after-requires : goal.after-requires
after-requires c = record {
  feature = subst (λ (s : State). s.next_feature < 9_000_000_000_100_000) (sym c.self.view_is) c.requires.feature;
  association = subst (λ (s : State). s.next_association < 9_000_000_000_100_000) (sym c.self.view_is) c.requires.association;
}

pub invariant_of-net : goal.invariant_of-net
invariant_of-net c =
    let change = subst (λ (s : State). IsChange s c.args.moment c.args.edit.now c.args.change) (sym c.self.view_is) c.requires.follows in
    is_state c.self.inside.facts c.self.inside.kept c.self.inside.dirty c.self.inside.stored c.self.inside.version c.self.inside.ids c.args.moment c.args.edit.now
    c.in_ok-facts.facts c.in_ok-dirty.dirty c.after.result c.in_ok-facts.ensures
    (c.in_ok-dirty.ensures ∙ ap (added c.self.inside.dirty) (c.deref.ensures.value ∙ change.dirtied)) c.after.ensures
    (held c.self.inside.facts c.self.inside.kept c.self.inside.dirty c.self.inside.stored c.self.inside.version c.self.inside.ids) refl
    c.self.invariant (subst (λ (s : State). MayBeMade (setting s) (next_with s c.args.moment) s.features c.args.edit.now) (sym c.self.view_is) c.requires.may)

pub returns-clause-state : goal.returns-clause-state
returns-clause-state c =
    let change = subst (λ (s : State). IsChange s c.args.moment c.args.edit.now c.args.change) (sym c.self.view_is) c.requires.follows in
    state_is c.self.inside.facts c.self.inside.kept c.self.inside.dirty c.self.inside.stored c.self.inside.version c.self.inside.ids c.args.moment c.args.edit.now
    c.in_ok-facts.facts c.in_ok-dirty.dirty c.after.result c.in_ok-facts.ensures
    (c.in_ok-dirty.ensures ∙ ap (added c.self.inside.dirty) (c.deref.ensures.value ∙ change.dirtied)) c.after.ensures
    (held c.self.inside.facts c.self.inside.kept c.self.inside.dirty c.self.inside.stored c.self.inside.version c.self.inside.ids) refl
    ∙ ap (λ (s : State). made_at c.args.moment s c.args.edit.now) c.self.view_is

pub returns-clause-features : goal.returns-clause-features
returns-clause-features c =
    let change = subst (λ (s : State). IsChange s c.args.moment c.args.edit.now c.args.change) (sym c.self.view_is) c.requires.follows in
    subst (λ (s : State). FeaturesGrow s (held c.in_ok-facts.facts c.self.inside.kept c.in_ok-dirty.dirty c.self.inside.stored c.self.inside.version c.after.result)) c.self.view_is
    (features_grow c.self.inside.facts c.self.inside.kept c.self.inside.dirty c.self.inside.stored c.self.inside.version c.self.inside.ids c.args.moment c.args.edit.now
    c.in_ok-facts.facts c.in_ok-dirty.dirty c.after.result c.in_ok-facts.ensures
    (c.in_ok-dirty.ensures ∙ ap (added c.self.inside.dirty) (c.deref.ensures.value ∙ change.dirtied)) c.after.ensures
    (held c.self.inside.facts c.self.inside.kept c.self.inside.dirty c.self.inside.stored c.self.inside.version c.self.inside.ids) refl)

pub returns-clause-associations : goal.returns-clause-associations
returns-clause-associations c =
    let change = subst (λ (s : State). IsChange s c.args.moment c.args.edit.now c.args.change) (sym c.self.view_is) c.requires.follows in
    subst (λ (s : State). AssociationsGrow s (held c.in_ok-facts.facts c.self.inside.kept c.in_ok-dirty.dirty c.self.inside.stored c.self.inside.version c.after.result)) c.self.view_is
    (associations_grow c.self.inside.facts c.self.inside.kept c.self.inside.dirty c.self.inside.stored c.self.inside.version c.self.inside.ids c.args.moment c.args.edit.now
    c.in_ok-facts.facts c.in_ok-dirty.dirty c.after.result c.in_ok-facts.ensures
    (c.in_ok-dirty.ensures ∙ ap (added c.self.inside.dirty) (c.deref.ensures.value ∙ change.dirtied)) c.after.ensures
    (held c.self.inside.facts c.self.inside.kept c.self.inside.dirty c.self.inside.stored c.self.inside.version c.self.inside.ids) refl)

pub returns-clause-areas : goal.returns-clause-areas
returns-clause-areas c =
    let change = subst (λ (s : State). IsChange s c.args.moment c.args.edit.now c.args.change) (sym c.self.view_is) c.requires.follows in
    subst (λ (s : State). AreasGrow s (held c.in_ok-facts.facts c.self.inside.kept c.in_ok-dirty.dirty c.self.inside.stored c.self.inside.version c.after.result)) c.self.view_is
    (areas_grow c.self.inside.facts c.self.inside.kept c.self.inside.dirty c.self.inside.stored c.self.inside.version c.self.inside.ids c.args.moment c.args.edit.now
    c.in_ok-facts.facts c.in_ok-dirty.dirty c.after.result c.in_ok-facts.ensures
    (c.in_ok-dirty.ensures ∙ ap (added c.self.inside.dirty) (c.deref.ensures.value ∙ change.dirtied)) c.after.ensures
    (held c.self.inside.facts c.self.inside.kept c.self.inside.dirty c.self.inside.stored c.self.inside.version c.self.inside.ids) refl
    c.len-len.ensures.few)
