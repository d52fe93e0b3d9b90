-- What a rule allows is a choice of a few rules.
use Rattle.std.proofs.Common.{◌≡◌, ℕ, Bool, true, false, ◌==◌, ◌&&◌, ◌||◌, ◌∙◌, sym, List, [], ◌∷◌, ◌++◌, refl, arith, rules}
use Rattle.std.specs.List.{list_any}
use Rattle.std.proofs.lemmas.Cmp.{nat_eq_equiv}
use Rattle.std.proofs.lemmas.List.Folds.{list_any-append}
use Rattle.un_schema.specs.contracts.rule.RulePartialEq.TheImpl as equal
use Rattle.un_schema.specs.declared.rule.Rule.{Rule}
use Rattle.un_schema.specs.declared.rule.Rule.TheVariants.{JunctionEdge, JunctionJunction, Containment, Attachment, EdgeJunctionEdge}
use Rattle.un_schema.specs.Rules.{names, is_edge, is_pair, is_through, is_content, is_attach, edge, pair, through, content, attach}
use Rattle.un_schema.specs.RuleTests.{same_rule}

eq_swap : (x y : ℕ) → (x == y) ≡ (y == x)
eq_swap x y = nat_eq_equiv.symm x y

or_swap : (a b c d : Bool) → ((a || b) || (c || d)) ≡ ((a || c) || (b || d))
or_swap true b c d = refl
or_swap false true true d = refl
or_swap false true false d = refl
or_swap false false c d = refl

any_none : {B : Type 0} (ys : List B) → list_any (λ y. false) ys ≡ false
any_none [] = refl
any_none (y ∷ ys) = any_none ys

any_of_or : {B : Type 0} (p q : B → Bool) (ys : List B) → list_any (λ y. p y || q y) ys ≡ (list_any p ys || list_any q ys)
any_of_or p q [] = refl
any_of_or p q (y ∷ ys) = rw (any_of_or p q ys) (or_swap (p y) (q y) (list_any p ys) (list_any q ys))

-- some x and some y are together, from either side
any_swap : {A B : Type 0} (together : B → A → Bool) (xs : List A) (ys : List B)
    → list_any (λ x. list_any (λ y. together y x) ys) xs ≡ list_any (λ y. list_any (together y) xs) ys
any_swap together [] ys = sym (any_none ys)
any_swap together (x ∷ xs) ys =
    rw (any_swap together xs ys) (sym (any_of_or (λ y. together y x) (λ y. list_any (together y) xs) ys))

any_same : {A : Type 0} (r p : A → Bool) → ((x : A) → r x ≡ p x) → (xs : List A) → list_any r xs ≡ list_any p xs
any_same r p each [] = refl
any_same r p each (x ∷ xs) = rw (each x, any_same r p each xs) refl

-- the code's equality of rules
alike : (r q : Rule) → equal.ghosts.eq r q ≡ same_rule r q
alike r q = search rules

-- a set of rules that the code's equality finds like a list, as the definitions see it
pub set_alike : (keys list : List Rule) → ((q : Rule) → list_any (equal.ghosts.eq q) keys ≡ list_any (equal.ghosts.eq q) list) → (q : Rule) → list_any (same_rule q) keys ≡ list_any (same_rule q) list
set_alike keys list found q =
    sym (any_same (equal.ghosts.eq q) (same_rule q) (alike q) keys) ∙ found q ∙ any_same (equal.ghosts.eq q) (same_rule q) (alike q) list

-- a test that is a choice of rules holds of a rule of the list where the list has one of them
any_of_rules : (test : Rule → Bool) (choice : List Rule) → ((r : Rule) → test r ≡ list_any (λ q. same_rule q r) choice) → (rules : List Rule)
    → list_any test rules ≡ list_any (λ q. list_any (same_rule q) rules) choice
any_of_rules test choice each rules =
    any_same test (λ r. list_any (λ q. same_rule q r) choice) each rules ∙ any_swap same_rule rules choice

edge_bools : (j z t l : Bool) → ((j && (z || t)) && l) ≡ ((j && z && l) || ((j && t && l) || false))
edge_bools false z t l = refl
edge_bools true z t l = grind arith

is_edge_by_rules : (j t line : ℕ) (r : Rule) → is_edge j t line r ≡ list_any (λ q. same_rule q r) (JunctionEdge j 0 line ∷ JunctionEdge j t line ∷ [])
is_edge_by_rules j t line (JunctionEdge junction terminal edge) =
    rw (eq_swap junction j, eq_swap terminal 0, eq_swap terminal t, eq_swap edge line) (edge_bools (j == junction) (0 == terminal) (t == terminal) (line == edge))
is_edge_by_rules j t line (JunctionJunction first first_terminal second second_terminal) = refl
is_edge_by_rules j t line (Containment container content) = refl
is_edge_by_rules j t line (Attachment structure content) = refl
is_edge_by_rules j t line (EdgeJunctionEdge edge terminal junction other other_terminal) = refl

pub edge_by_rules : (rules : List Rule) (j t line : ℕ)
    → edge rules j t line ≡ list_any (λ q. list_any (same_rule q) rules) (JunctionEdge j 0 line ∷ JunctionEdge j t line ∷ [])
edge_by_rules rules j t line = any_of_rules (is_edge j t line) (JunctionEdge j 0 line ∷ JunctionEdge j t line ∷ []) (is_edge_by_rules j t line) rules

-- the tests of two kinds, and of two terminals each: 0 or the one that is met
order_bools : (a z t b y u : Bool)
    → ((a && (z || t)) && (b && (y || u)))
    ≡ ((a && t && b && u) || ((a && z && b && u) || ((a && t && b && y) || ((a && z && b && y) || false))))
order_bools false z t b y u = refl
order_bools true z t false y u = grind arith
order_bools true z t true y u = grind arith

-- the four rules that join two kinds at two terminals in one order
abbrev joinings : ℕ × ℕ → ℕ × ℕ → List Rule
joinings x y = JunctionJunction x.0 x.1 y.0 y.1 ∷ JunctionJunction x.0 0 y.0 y.1 ∷ JunctionJunction x.0 x.1 y.0 0 ∷ JunctionJunction x.0 0 y.0 0 ∷ []

joined_in_order : (x y : ℕ × ℕ) (first first_terminal second second_terminal : ℕ) → (names (first, first_terminal) x && names (second, second_terminal) y)
    ≡ list_any (λ q. same_rule q (JunctionJunction first first_terminal second second_terminal)) (joinings x y)
joined_in_order x y first first_terminal second second_terminal =
    rw (eq_swap first x.0, eq_swap first_terminal 0, eq_swap first_terminal x.1, eq_swap second y.0, eq_swap second_terminal 0, eq_swap second_terminal y.1)
    (order_bools (x.0 == first) (0 == first_terminal) (x.1 == first_terminal) (y.0 == second) (0 == second_terminal) (y.1 == second_terminal))

is_pair_by_rules : (x y : ℕ × ℕ) (r : Rule) → is_pair x y r ≡ list_any (λ q. same_rule q r) (joinings x y ++ joinings y x)
is_pair_by_rules x y (JunctionEdge junction terminal edge) = refl
is_pair_by_rules x y (JunctionJunction first first_terminal second second_terminal) =
    let test = λ (q : Rule). same_rule q (JunctionJunction first first_terminal second second_terminal) in
    cc (joined_in_order x y first first_terminal second second_terminal, joined_in_order y x first first_terminal second second_terminal, list_any-append test (joinings x y) (joinings y x))
is_pair_by_rules x y (Containment container content) = refl
is_pair_by_rules x y (Attachment structure content) = refl
is_pair_by_rules x y (EdgeJunctionEdge edge terminal junction other other_terminal) = refl

pub pair_by_rules : (rules : List Rule) (x y : ℕ × ℕ) → pair rules x y ≡ list_any (λ q. list_any (same_rule q) rules) (joinings x y ++ joinings y x)
pair_by_rules rules x y = any_of_rules (is_pair x y) (joinings x y ++ joinings y x) (is_pair_by_rules x y) rules

is_content_by_rule : (outer inner : ℕ) (r : Rule) → is_content outer inner r ≡ same_rule (Containment outer inner) r
is_content_by_rule outer inner (JunctionEdge junction terminal edge) = refl
is_content_by_rule outer inner (JunctionJunction first first_terminal second second_terminal) = refl
is_content_by_rule outer inner (Containment container content) = rw (eq_swap container outer, eq_swap content inner) refl
is_content_by_rule outer inner (Attachment structure content) = refl
is_content_by_rule outer inner (EdgeJunctionEdge edge terminal junction other other_terminal) = refl

pub content_by_rule : (rules : List Rule) (outer inner : ℕ) → content rules outer inner ≡ list_any (same_rule (Containment outer inner)) rules
content_by_rule rules outer inner = any_same _ _ (is_content_by_rule outer inner) rules

is_attach_by_rule : (base attached : ℕ) (r : Rule) → is_attach base attached r ≡ same_rule (Attachment base attached) r
is_attach_by_rule base attached (JunctionEdge junction terminal edge) = refl
is_attach_by_rule base attached (JunctionJunction first first_terminal second second_terminal) = refl
is_attach_by_rule base attached (Containment container content) = refl
is_attach_by_rule base attached (Attachment structure content) = rw (eq_swap structure base, eq_swap content attached) refl
is_attach_by_rule base attached (EdgeJunctionEdge edge terminal junction other other_terminal) = refl

pub attach_by_rule : (rules : List Rule) (base attached : ℕ) → attach rules base attached ≡ list_any (same_rule (Attachment base attached)) rules
attach_by_rule rules base attached = any_same _ _ (is_attach_by_rule base attached) rules

and_bools : (j a z t b y u : Bool)
    → (j && ((a && (z || t)) && (b && (y || u))))
    ≡ ((a && t && j && b && u) || ((a && z && j && b && u) || ((a && t && j && b && y) || ((a && z && j && b && y) || false))))
and_bools false false z t b y u = refl
and_bools false true z t b y u = grind arith
and_bools true false z t b y u = refl
and_bools true true z t false y u = grind arith
and_bools true true z t true y u = grind arith

and_or : (j a b : Bool) → (j && (a || b)) ≡ ((j && a) || (j && b))
and_or true a b = refl
and_or false a b = refl

-- the four rules that join lines of two kinds at two terminals of a kind in one order
abbrev passings : ℕ → ℕ × ℕ → ℕ × ℕ → List Rule
passings j x y = EdgeJunctionEdge x.0 x.1 j y.0 y.1 ∷ EdgeJunctionEdge x.0 0 j y.0 y.1 ∷ EdgeJunctionEdge x.0 x.1 j y.0 0 ∷ EdgeJunctionEdge x.0 0 j y.0 0 ∷ []

passed_in_order : (j : ℕ) (x y : ℕ × ℕ) (line terminal junction other other_terminal : ℕ)
    → ((junction == j) && (names (line, terminal) x && names (other, other_terminal) y))
    ≡ list_any (λ q. same_rule q (EdgeJunctionEdge line terminal junction other other_terminal)) (passings j x y)
passed_in_order j x y line terminal junction other other_terminal =
    rw (eq_swap junction j, eq_swap line x.0, eq_swap terminal 0, eq_swap terminal x.1, eq_swap other y.0, eq_swap other_terminal 0, eq_swap other_terminal y.1)
    (and_bools (j == junction) (x.0 == line) (0 == terminal) (x.1 == terminal) (y.0 == other) (0 == other_terminal) (y.1 == other_terminal))

is_through_by_rules : (j : ℕ) (x y : ℕ × ℕ) (r : Rule) → is_through j x y r ≡ list_any (λ q. same_rule q r) (passings j x y ++ passings j y x)
is_through_by_rules j x y (JunctionEdge junction terminal edge) = refl
is_through_by_rules j x y (JunctionJunction first first_terminal second second_terminal) = refl
is_through_by_rules j x y (Containment container content) = refl
is_through_by_rules j x y (Attachment structure content) = refl
is_through_by_rules j x y (EdgeJunctionEdge line terminal junction other other_terminal) =
    let test = λ (q : Rule). same_rule q (EdgeJunctionEdge line terminal junction other other_terminal) in
    and_or (junction == j) (names (line, terminal) x && names (other, other_terminal) y) (names (line, terminal) y && names (other, other_terminal) x)
    ∙ cc (passed_in_order j x y line terminal junction other other_terminal, passed_in_order j y x line terminal junction other other_terminal, list_any-append test (passings j x y) (passings j y x))

pub through_by_rules : (rules : List Rule) (j : ℕ) (x y : ℕ × ℕ)
    → through rules j x y ≡ list_any (λ q. list_any (same_rule q) rules) (passings j x y ++ passings j y x)
through_by_rules rules j x y = any_of_rules (is_through j x y) (passings j x y ++ passings j y x) (is_through_by_rules j x y) rules
