-- What speaks for an edit for which no refusal is due.
use Rattle.std.proofs.Common.{◌≡◌, ◌≢◌, ℕ, Bool, true, false, not, ◌==◌, ◌&&◌, ◌||◌, List, [], ◌∷◌, find, All, Option, Some, None, IsSome, IsTrue, cond, refl, sym, ◌∙◌, ap, subst, arith, true≢false}
use Rattle.std.proofs.lemmas.Bool.Decides.{nat_tests}
use Rattle.std.specs.Prelude.{nat_le, is_some, IsSomeAnd, option_and_then}
use Rattle.std.specs.List.{list_any}
use Rattle.std.specs.Option.{option_map_or}
use Rattle.un_schema.specs.Classes.{is_structure}
use Rattle.un_defs.specs.declared.port.Port.{Port}
use Rattle.un_defs.specs.declared.row.Row.{Row}
use Rattle.un_defs.specs.declared.assoc.Controller.{Controller}
use Rattle.un_defs.specs.declared.assoc.AssocKind.TheVariants.{Connectivity, Containment, Attachment}
use Rattle.un_defs.specs.declared.edit.Edit.TheVariants as edit
use Rattle.un_defs.specs.declared.refusal.Refusal.{Refusal}
use Rattle.un_defs.specs.declared.refusal.Refusal.TheVariants as refusal
use Rattle.un_defs.specs.Orders.{same_port}
use Rattle.un_defs.specs.Features.{Features, row, is_joint, has_terminal}
use Rattle.std.proofs.lemmas.List.Elements.{All-nil, All-cons}
use Rattle.un_defs.proofs.Unique.{port_itself}
use Rattle.un_defs.specs.Sound.{IsLive, IsLiveJoint, HasEnds}
use Rattle.un_assoc.specs.Containing.{containers_above}
use Rattle.un_assoc.specs.Refusals.{first_refusal, refused_if, no_feature, of_feature, of_both, not_joints, no_terminal, not_containing, not_attaching, not_controlling, no_tier, in_itself, is_controlled, port_at}
use Rattle.un_assoc.specs.Lawful.{MayBeMadeLaw}

-- where the first due refusal of several is none, none of them is due
pub none_refused : (d : Option Refusal) (ds : List (Option Refusal)) → first_refusal (d ∷ ds) ≡ None → (d ≡ None) × (first_refusal ds ≡ None)
none_refused None ds e = (refl, e)
none_refused (Some r) ds e = cc

no_test : (b : Bool) (r : Refusal) → refused_if b r ≡ None → b ≡ false
no_test true r e = cc
no_test false r e = refl

neither : (a b : Bool) → (a || b) ≡ false → (a ≡ false) × (b ≡ false)
neither true b e = absurd (true≢false e)
neither false b e = (refl, e)

both : (a b : Bool) → not (a && b) ≡ false → (a ≡ true) × (b ≡ true)
both true true e = (refl, refl)
both true false e = absurd (true≢false e)
both false b e = absurd (true≢false e)

is_not : (b : Bool) → not b ≡ false → b ≡ true
is_not true e = refl
is_not false e = absurd (true≢false e)

module _ (F : Features) where
  -- a row that is there, with what is due of it
  pub record IsThere (id : ℕ) : Type 0 where
    pub found : Row
    pub is : row F id ≡ Some found

  there : (id : ℕ) → no_feature F id ≡ None → IsThere id
  there id e = by (row F id) refl e
    where
      by : (o : Option Row) → row F id ≡ o → option_map_or (λ r. None) o (Some (refusal.NoSuchFeature id)) ≡ None → IsThere id
      by None is e = cc
      by (Some r) is e = record { found = r; is = is }

  no_refusal_of : (id : ℕ) (r : Row) (cause : Row → Option Refusal) → row F id ≡ Some r → of_feature F id cause ≡ None → cause r ≡ None
  no_refusal_of id r cause is e = sym (ap (option_and_then cause) is) ∙ e

  no_refusal_of_both : (first second : ℕ) (r s : Row) (cause : Row → Row → Option Refusal) → row F first ≡ Some r → row F second ≡ Some s → of_both F first second cause ≡ None → cause r s ≡ None
  no_refusal_of_both first second r s cause is_r is_s e = no_refusal_of second s (cause r) is_s (no_refusal_of first r (λ r. of_feature F second (cause r)) is_r e)

  live : (id : ℕ) (r : Row) → row F id ≡ Some r → IsLive F id
  live id r e = subst IsSome (sym e) refl

  joint : (id : ℕ) (r : Row) → row F id ≡ Some r → is_joint r.class ≡ true → IsLiveJoint F id
  joint id r e t = subst (λ o. IsSomeAnd o (λ r. IsTrue (is_joint r.class))) (sym e) t

  connect_ends : (id : ℕ) (from to : Port) → no_feature F from.feature ≡ None → no_feature F to.feature ≡ None → of_both F from.feature to.feature (not_joints from to) ≡ None
      → HasEnds F (record { id = id; sort = Connectivity; from = from; to = to })
  connect_ends id from to first second joints =
      let r = there from.feature first in
      let s = there to.feature second in
      let tests = neither (not (is_joint r.found.class && is_joint s.found.class)) (from.feature == to.feature) (no_test _ refusal.WrongKind (no_refusal_of_both from.feature to.feature r.found s.found (not_joints from to) r.is s.is joints)) in
      let joined = both (is_joint r.found.class) (is_joint s.found.class) tests.0 in
      let distinct : (from.feature == to.feature) ≡ false = tests.1 in
      record {
        from = live from.feature r.found r.is;
        to = live to.feature s.found s.is;
        apart = λ e. absurd (grind (arith, nat_tests));
        joints = λ _. (joint from.feature r.found r.is joined.0, joint to.feature s.found s.is joined.1);
      }

  contain_ends : (id container content : ℕ) → no_feature F container ≡ None → no_feature F content ≡ None → in_itself F.associations container content ≡ None
      → HasEnds F (record { id = id; sort = Containment; from = record { feature = container; number = 0 }; to = record { feature = content; number = 0 } })
  contain_ends id container content first second distinct =
      let r = there container first in
      let s = there content second in
      let tests = neither (container == content) (list_any (λ c. c == content) (containers_above F.associations container)) (no_test _ refusal.ContainsItself distinct) in
      let other : (container == content) ≡ false = tests.0 in
      record {
        from = live container r.found r.is;
        to = live content s.found s.is;
        apart = λ e. absurd (grind (arith, nat_tests));
        joints = λ t. absurd (true≢false (sym t));
      }

  attach_ends : (id structure content : ℕ) → no_feature F structure ≡ None → no_feature F content ≡ None → of_both F structure content not_attaching ≡ None
      → HasEnds F (record { id = id; sort = Attachment; from = record { feature = structure; number = 0 }; to = record { feature = content; number = 0 } })
  attach_ends id structure content first second classes =
      let r = there structure first in
      let s = there content second in
      let tests = neither (not (is_structure r.found.class)) (is_structure s.found.class) (no_test _ refusal.WrongKind (no_refusal_of_both structure content r.found s.found not_attaching r.is s.is classes)) in
      record {
        from = live structure r.found r.is;
        to = live content s.found s.is;
        apart = attach_apart structure content r.found s.found r.is s.is (is_not (is_structure r.found.class) tests.0) tests.1;
        joints = λ t. absurd (true≢false (sym t));
      }
    where
      attach_apart : (structure content : ℕ) (r s : Row) → row F structure ≡ Some r → row F content ≡ Some s → is_structure r.class ≡ true → is_structure s.class ≡ false → structure ≢ content
      attach_apart structure content r s is_r is_s a b = λ e.
          let one : Some r ≡ Some s = sym is_r ∙ ap (row F) e ∙ is_s in
          let same : r ≡ s = cc in
          absurd (true≢false (sym a ∙ ap (λ x. is_structure x.class) same ∙ b))

  live_joint : (id terminal : ℕ) → no_feature F id ≡ None → of_feature F id (no_terminal (port_at id terminal)) ≡ None → IsLiveJoint F id
  live_joint id terminal first terminals =
      let r = there id first in
      let has : has_terminal r.found terminal ≡ true = is_not (has_terminal r.found terminal) (no_test _ (refusal.BadTerminal id) (no_refusal_of id r.found (no_terminal (port_at id terminal)) r.is terminals)) in
      joint id r.found r.is (front (is_joint r.found.class) (nat_le 1 terminal) (nat_le terminal r.found.terminals) has)
    where
      front : (a b c : Bool) → ((a && b) && c) ≡ true → a ≡ true
      front true b c e = refl
      front false b c e = absurd (true≢false (sym e))

pub not_there : (q : Port) (controllers : List Controller) → find (λ c. same_port c.port q) controllers ≡ None → All (λ c. c.port ≢ q) controllers
not_there q [] e = All-nil (λ (c : Controller). c.port ≢ q)
not_there q (c ∷ more) e = by (same_port c.port q) refl e (not_there q more)
  where
    by : (t : Bool) → same_port c.port q ≡ t → cond t (Some c) (find (λ c. same_port c.port q) more) ≡ None → (find (λ c. same_port c.port q) more ≡ None → All (λ c. c.port ≢ q) more) → All (λ c. c.port ≢ q) (c ∷ more)
    by true t e ih = cc
    by false t e ih = All-cons (λ (c : Controller). c.port ≢ q) c more (λ s. absurd (true≢false (sym (ap (λ x. same_port x q) s ∙ port_itself q) ∙ t))) (ih e)

free_port : (F : Features) (q : Port) → is_controlled F q ≡ None → All (λ c. c.port ≢ q) F.controllers
free_port F q e = not_there q F.controllers (by (find (λ c. same_port c.port q) F.controllers) e)
  where
    by : (o : Option Controller) → refused_if (is_some o) refusal.ControllerExists ≡ None → o ≡ None
    by None e = refl
    by (Some c) e = cc

pub may_be_made : MayBeMadeLaw
may_be_made T next F (edit.Connect from to) word cause =
    let first = none_refused (no_feature F from.feature) _ cause in
    let second = none_refused (no_feature F to.feature) _ first.1 in
    let joints = none_refused (of_both F from.feature to.feature (not_joints from to)) _ second.1 in
    connect_ends F next.association from to first.0 second.0 joints.0
may_be_made T next F (edit.Contain container content) word cause =
    let first = none_refused (no_feature F container) _ cause in
    let second = none_refused (no_feature F content) _ first.1 in
    let class = none_refused (of_feature F container not_containing) _ second.1 in
    let distinct = none_refused (in_itself F.associations container content) _ class.1 in
    contain_ends F next.association container content first.0 second.0 distinct.0
may_be_made T next F (edit.Attach structure content) word cause =
    let first = none_refused (no_feature F structure) _ cause in
    let second = none_refused (no_feature F content) _ first.1 in
    let classes = none_refused (of_both F structure content not_attaching) _ second.1 in
    attach_ends F next.association structure content first.0 second.0 classes.0
may_be_made T next F (edit.Detach assoc) word cause = tt
may_be_made T next F (edit.Controller id terminal tier subnet) word cause =
    let first = none_refused (no_feature F id) _ cause in
    let kind = none_refused (of_feature F id (not_controlling T.catalog)) _ first.1 in
    let terminals = none_refused (of_feature F id (no_terminal (port_at id terminal))) _ kind.1 in
    let named = none_refused (no_tier T.tiers tier) _ terminals.1 in
    let free = none_refused (is_controlled F (port_at id terminal)) _ named.1 in
    (live_joint F id terminal first.0 terminals.0, free_port F (port_at id terminal) free.0)
may_be_made T next F (edit.Uncontroller id terminal) word cause = tt
may_be_made T next F _ word cause = absurd word
