use Rattle.std.proofs.Common.{◌≡◌, ◌+◌, ◌≤◌, length, None, Some, sym, ap, ◌∙◌, subst}
use Rattle.std.proofs.lemmas.Result.{err_from_is_err_and}
use Rattle.un_defs.specs.Refusing.{first_refusal}
use Rattle.un_defs.specs.Dirtied.{dirtied}
use Rattle.un_defs.specs.Laws.{MayBeMade}
use Rattle.un_facts.specs.Refusals.{refusal_of}
use Rattle.un_core.specs.State.{State}
use Rattle.un_core.specs.Step.{setting, next_with}
use Rattle.un_core.specs.Refusals.{too_many, beside_numbers}
use Rattle.un_core.specs.Making.{IsChange}
use Rattle.un_core.proofs.Making.{new, two_none, two_first, two_second}
use Rattle.un_core.proofs.net.Net.change.Goals as goal

pub change-requires : goal.change-requires
change-requires c = record {
  word = c.requires.word;
  new = new c.self.inside.facts c.self.inside.kept c.self.inside.dirty c.self.inside.stored c.self.inside.version c.self.inside.ids c.args.moment c.args.edit.now c.self.invariant;
}

pub returns-in_err-change-clause-bad : goal.returns-in_err-change-clause-bad
returns-in_err-change-clause-bad c =
    let K = c.self.inside.facts in
    let e = c.args.edit.now in
    let r = c.in_err-change.field-0.0 in
    let p = err_from_is_err_and c.from_residual.result c.from_residual.ensures.1 in
    rw (p.1, p.2)
    (λ memory. subst (λ (s : State). first_refusal (beside_numbers s e) ≡ Some r) c.self.view_is
    (two_first (refusal_of K e) (too_many c.self.inside.dirty.areas (dirtied K.features e)) r (c.in_err-change.ensures.bad memory)))

pub returns-clause-follows : goal.returns-clause-follows
returns-clause-follows c =
    subst (λ (s : State). IsChange s c.args.moment c.args.edit.now c.in_ok-change.change) c.self.view_is (record {
      follows = c.in_ok-change.ensures.follows;
      dirtied = c.in_ok-change.ensures.dirtied;
      room = subst (λ rects. length c.self.inside.dirty.areas + length rects ≤ 65536) c.deref.ensures.value c.in_ok-check_room.ensures.room;
    })

pub returns-clause-good : goal.returns-clause-good
returns-clause-good c =
    let K = c.self.inside.facts in
    let e = c.args.edit.now in
    subst (λ (s : State). first_refusal (beside_numbers s e) ≡ None) c.self.view_is
    (two_none (refusal_of K e) (too_many c.self.inside.dirty.areas (dirtied K.features e)) c.in_ok-change.ensures.good
    (ap (too_many c.self.inside.dirty.areas) (sym (c.deref.ensures.value ∙ c.in_ok-change.ensures.dirtied)) ∙ c.in_ok-check_room.ensures.good))

pub returns-clause-may : goal.returns-clause-may
returns-clause-may c = subst (λ (s : State). MayBeMade (setting s) (next_with s c.args.moment) s.features c.args.edit.now) c.self.view_is c.in_ok-change.ensures.may

pub returns-in_err-check_room-clause-bad : goal.returns-in_err-check_room-clause-bad
returns-in_err-check_room-clause-bad c =
    let K = c.self.inside.facts in
    let e = c.args.edit.now in
    let r = c.in_err-check_room.field-0.0 in
    let p = err_from_is_err_and c.from_residual-in_err-check_room.result c.from_residual-in_err-check_room.ensures.1 in
    rw (p.1, p.2)
    (λ memory. subst (λ (s : State). first_refusal (beside_numbers s e) ≡ Some r) c.self.view_is
    (two_second (refusal_of K e) (too_many c.self.inside.dirty.areas (dirtied K.features e)) r c.in_ok-change.ensures.good
    (sym (ap (too_many c.self.inside.dirty.areas) (c.deref.ensures.value ∙ c.in_ok-change.ensures.dirtied)) ∙ c.in_err-check_room.ensures.bad)))
