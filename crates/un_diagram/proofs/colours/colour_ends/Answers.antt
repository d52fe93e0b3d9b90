use Rattle.std.proofs.Common.{◌<◌, ℕ, List, set, length, get_or, take, take_all, Option, sym, ap, subst, ◌∙◌, arith, Vec, Global}
use Rattle.std.specs.Prelude.{Some, [], ◌∷◌, ◌++◌}
use Rattle.std.proofs.lemmas.List.{take_more}
use Rattle.un_walk.proofs.Growing.{contains_at}
use Rattle.un_diagram.specs.declared.roles.Role.{Role}
use Rattle.un_diagram.specs.Colours.{Colours}
use Rattle.un_diagram.proofs.Colouring.{colours_none, colours_with, colours_without}
use Rattle.un_diagram.proofs.colours.colour_ends.Goals as goal
use Rattle.un_diagram.proofs.colours.colour_ends.Goals.{then-is_blank+in_ok-push, else-is_blank}

pub loop-end-init : goal.loop-end-init
loop-end-init c = colours_none c.args.roles.now c.args.colour c.args.colours.now c.args.members.now.items

pub is_blank-requires-clause-role : goal.is_blank-requires-clause-role
is_blank-requires-clause-role c =
    let ends : List ℕ = c.args.ends.now in
    let k = c.loop-end.end-index in
    c.requires.inside (get_or ends k 0) (contains_at ends k 0 c.loop-end-test.true)

pub is_blank-requires-clause-colour : goal.is_blank-requires-clause-colour
is_blank-requires-clause-colour c =
    let ends : List ℕ = c.args.ends.now in
    let k = c.loop-end.end-index in
    omega (arith, c.requires.inside (get_or ends k 0) (contains_at ends k 0 c.loop-end-test.true), c.requires.count, c.loop-end.invariant.count)

pub loop-end-preserved : goal.loop-end-preserved
loop-end-preserved c =
    let roles : List Role = c.args.roles.now in
    let ends : List ℕ = c.args.ends.now in
    let k = c.loop-end.end-index in
    let j : ℕ = get_or ends k 0 in
    let f = c.args.colour in
    let first : List (Option ℕ) = c.args.colours.now in
    let old : List (Option ℕ) = c.loop-end.colours in
    let before : List ℕ = c.args.members.now.items in
    let all : List ℕ = c.loop-end.members.items in
    let more = sym (take_more ends k 0 c.loop-end-test.true) in
    let below : j < length old = omega (arith, c.requires.inside j (contains_at ends k 0 c.loop-end-test.true), c.requires.count, c.loop-end.invariant.count) in
    elim c.if-is_blank.branch [
      | then-is_blank+in_ok-push v ↦
          subst (λ (l : List ℕ). Colours roles l f first c.if-is_blank.colours before c.if-is_blank.members.items) more
          (subst (λ (cs : List (Option ℕ)). Colours roles (take k ends ++ j ∷ []) f first cs before c.if-is_blank.members.items) (sym v.colours-is)
          (subst (λ (ms : List ℕ). Colours roles (take k ends ++ j ∷ []) f first (set old j (Some f)) before ms) (sym (ap (λ (e : Vec ℕ Global). e.items) v.members-is ∙ v.in_ok-push.ensures.items))
          (colours_with roles f first old before all (take k ends) c.loop-end.invariant j v.if-is_blank.ensures)))
      | else-is_blank v ↦
          subst (λ (l : List ℕ). Colours roles l f first c.if-is_blank.colours before c.if-is_blank.members.items) more
          (subst (λ (cs : List (Option ℕ)). Colours roles (take k ends ++ j ∷ []) f first cs before c.if-is_blank.members.items) (sym v.colours-is)
          (subst (λ (ms : List ℕ). Colours roles (take k ends ++ j ∷ []) f first old before ms) (sym (ap (λ (e : Vec ℕ Global). e.items) v.members-is))
          (colours_without roles f first old before all (take k ends) c.loop-end.invariant j below v.if-is_blank.ensures)))
    ]

pub returns : goal.returns
returns c =
    subst (λ (l : List ℕ). Colours c.args.roles.now l c.args.colour c.args.colours.now c.loop-end.colours c.args.members.now.items c.loop-end.members.items)
    (take_all c.loop-end.end-index c.args.ends.now c.loop-end-test.false) c.loop-end.invariant
