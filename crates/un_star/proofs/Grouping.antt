-- Groups of ends answer for each of their ends.
use Rattle.std.proofs.Common.{◌≡◌, ℕ, ◌+◌, ◌<◌, Bool, true, false, not, ◌==◌, ◌&&◌, ◌||◌, if◌then◌else◌, List, [], ◌∷◌, ◌++◌, length, take, drop, set, get_or, refl, sym, ap, ◌∙◌, eqb-true, eq-eqb, add-one}
use Rattle.std.proofs.lemmas.List.{take_more, set_split, drop_more}
use Rattle.std.specs.List.{list_any}
use Rattle.un_schema.specs.declared.rule.Rule.{Rule}
use Rattle.un_schema.specs.Rules.{edge, through}
use Rattle.un_defs.specs.declared.port.Port.{Port}
use Rattle.un_defs.specs.Orders.{same_port}
use Rattle.un_defs.proofs.LinkCases.{both_true, true_both}
use Rattle.un_defs.proofs.Unique.{port_same}
use Rattle.un_star.specs.declared.meet.Joint.{Joint}
use Rattle.un_star.specs.declared.meet.End.{End}
use Rattle.un_star.specs.declared.meet.Group.{Group}
use Rattle.un_star.specs.Meet.{noted, with_port, passes_group, passes_by, has_chosen_by, joins_by, chosen_by, TakesIn, AreGroups}

-- ---- tests

or_false : (b : Bool) → (b || false) ≡ b
or_false true = refl
or_false false = refl

pub or_assoc : (a b c : Bool) → (a || (b || c)) ≡ ((a || b) || c)
or_assoc true b c = refl
or_assoc false b c = refl

or_swap : (a b : Bool) → (a || b) ≡ (b || a)
or_swap true true = refl
or_swap true false = refl
or_swap false true = refl
or_swap false false = refl

and_false : (b : Bool) → (b && false) ≡ false
and_false true = refl
and_false false = refl

and_true : (b : Bool) → (b && true) ≡ b
and_true true = refl
and_true false = refl

-- x: the end is the first of the group; y: the new end is; z: the end is the new one
joined : (x y z several passes rest : Bool) → (x ≡ true → z ≡ y)
    → (((not x || (several || not y)) && passes) || rest) ≡ ((((not x || several) && passes) || rest) || (not z && passes))
joined false y z several true rest h = refl
joined false y z several false rest h = sym (ap (λ b. rest || b) (and_false (not z)) ∙ or_false rest)
joined true y z true true rest h = refl
joined true y z true false rest h = sym (ap (λ b. rest || b) (and_false (not z)) ∙ or_false rest)
joined true y z false passes rest h = or_swap (not y && passes) rest ∙ ap (λ w. rest || (not w && passes)) (sym (h refl))

module _ (rules : List Rule) (j : Joint) (e : End) where
  -- a rule lets the end pass through with another one of a kind at a terminal
  passes_with : Port → ℕ → ℕ → Bool
  passes_with q kind terminal = not (same_port e.port q) && through rules j.kind (e.kind, chosen_by e j) (kind, terminal)

  any_noted : (gs : List Group) (kind terminal : ℕ) (q : Port)
      → list_any (passes_group rules j e) (noted gs kind terminal q) ≡ (list_any (passes_group rules j e) gs || passes_with q kind terminal)
  unfolding passes_with
  any_noted [] kind terminal q = or_false ((not (same_port e.port q) || false) && through rules j.kind (e.kind, chosen_by e j) (kind, terminal)) ∙ ap (λ b. b && through rules j.kind (e.kind, chosen_by e j) (kind, terminal)) (or_false (not (same_port e.port q)))
  any_noted (g ∷ gs) kind terminal q =
      elim ((g.kind == kind) && (g.terminal == terminal)) as (λ b. ((g.kind == kind) && (g.terminal == terminal)) ≡ b
      → list_any (passes_group rules j e) (if b then with_port g q ∷ gs else g ∷ noted gs kind terminal q)
      ≡ (list_any (passes_group rules j e) (g ∷ gs) || (not (same_port e.port q) && through rules j.kind (e.kind, chosen_by e j) (kind, terminal)))) [
        | true ↦ λ t.
            let parts = both_true (g.kind == kind) (g.terminal == terminal) t in
            let kinds : g.kind ≡ kind = eqb-true g.kind kind parts.0 in
            let terminals : g.terminal ≡ terminal = eqb-true g.terminal terminal parts.1 in
            joined (same_port e.port g.first) (same_port g.first q) (same_port e.port q) g.several
            (through rules j.kind (e.kind, chosen_by e j) (g.kind, g.terminal)) (list_any (passes_group rules j e) gs)
            (λ s. ap (λ r. same_port r q) (port_same e.port g.first s))
            ∙ (λ i. list_any (passes_group rules j e) (g ∷ gs) || (not (same_port e.port q) && through rules j.kind (e.kind, chosen_by e j) (kinds i, terminals i)))
        | false ↦ λ _. ap (λ b. passes_group rules j e g || b) (any_noted gs kind terminal q) ∙ or_assoc (passes_group rules j e g) (list_any (passes_group rules j e) gs) (passes_with q kind terminal)
      ] refl

-- what taking an end in does, where its terminal is there, and where it is not
pub takes_in : (rules : List Rule) (j : Joint) (f : End) (gs : List Group) → has_chosen_by j f ≡ true → TakesIn rules j f gs (noted gs f.kind (chosen_by f j) f.port)
unfolding passes_with
takes_in rules j f gs t e = any_noted rules j e gs f.kind (chosen_by f j) f.port
    ∙ ap (λ b. list_any (passes_group rules j e) gs || (b && through rules j.kind (e.kind, chosen_by e j) (f.kind, chosen_by f j)))
    (sym (and_true (not (same_port e.port f.port))) ∙ ap (λ b. not (same_port e.port f.port) && b) (sym t))

pub takes_none_in : (rules : List Rule) (j : Joint) (f : End) (gs : List Group) → has_chosen_by j f ≡ false → TakesIn rules j f gs gs
takes_none_in rules j f gs t e = sym (ap (λ b. list_any (passes_group rules j e) gs || (b && through rules j.kind (e.kind, chosen_by e j) (f.kind, chosen_by f j)))
    (ap (λ b. not (same_port e.port f.port) && b) t ∙ and_false (not (same_port e.port f.port))) ∙ or_false (list_any (passes_group rules j e) gs))

any_push : {A : Type 0} (p : A → Bool) (xs : List A) (x : A) → list_any p (xs ++ x ∷ []) ≡ (list_any p xs || p x)
any_push p [] x = or_false (p x)
any_push p (y ∷ xs) x = ap (λ b. p y || b) (any_push p xs x) ∙ or_assoc (p y) (list_any p xs) (p x)

-- one more end
pub groups_step : (rules : List Rule) (j : Joint) (ends : List End) (i : ℕ) (f : End) (old new : List Group) → i < length ends → f ≡ get_or ends i f
    → AreGroups rules j (take i ends) old → TakesIn rules j f old new → AreGroups rules j (take (i + 1) ends) new
groups_step rules j ends i f old new below is groups takes e =
    takes e ∙ ap (λ b. b || passes_by rules j e f) (groups e)
    ∙ sym (any_push (passes_by rules j e) (take i ends) f)
    ∙ ap (list_any (passes_by rules j e)) (ap (λ y. take i ends ++ y ∷ []) is ∙ sym (take_more ends i f below))

-- the group at a place, of the end's kind and terminal, takes the end
pub noted_there : (gs : List Group) (i : ℕ) (g h : Group) (kind terminal : ℕ) (q : Port) → i < length gs → g ≡ get_or gs i g
    → noted gs kind terminal q ≡ take i gs ++ noted (drop i gs) kind terminal q → g.kind ≡ kind → g.terminal ≡ terminal → h ≡ with_port g q
    → set gs i h ≡ noted gs kind terminal q
noted_there gs i g h kind terminal q below is others kinds terminals more =
    set_split gs i h below
    ∙ (λ k. take i gs ++ more k ∷ drop (sym (add-one i) k) gs)
    ∙ ap (λ l. take i gs ++ l) (sym (taken (drop (i + 1) gs)))
    ∙ ap (λ l. take i gs ++ noted l kind terminal q) (ap (λ y. y ∷ drop (i + 1) gs) is ∙ sym (drop_more gs i g below))
    ∙ sym others
  where
    same : ((g.kind == kind) && (g.terminal == terminal)) ≡ true
    same = true_both (g.kind == kind) (g.terminal == terminal) (eq-eqb g.kind kind kinds) (eq-eqb g.terminal terminal terminals)

    taken : (rest : List Group) → noted (g ∷ rest) kind terminal q ≡ with_port g q ∷ rest
    taken rest = λ k. if same k then with_port g q ∷ rest else g ∷ noted rest kind terminal q

-- where no junction-edge rule allows the end, the groups tell
pub joins_by_groups : (rules : List Rule) (j : Joint) (ends : List End) (e : End) (groups : List Group) → has_chosen_by j e ≡ true → edge rules j.kind (chosen_by e j) e.kind ≡ false
    → AreGroups rules j ends groups → list_any (passes_group rules j e) groups ≡ joins_by rules j ends e
joins_by_groups rules j ends e groups has no_edge are =
    are e ∙ (λ i. sym has i && (sym no_edge i || list_any (passes_by rules j e) ends))
