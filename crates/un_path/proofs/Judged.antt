-- The test of a certificate is whether it is valid.
use Rattle.std.proofs.Common.{◌≡◌, ◌==◌, ℕ, ◌+◌, ◌⊎◌, Bool, true, false, not, ◌&&◌, ◌||◌, List, [], ◌∷◌, length, Option, Some, None, inl, inr, refl, sym, ap, subst, ◌∙◌, arith, true≢false}
use Rattle.std.specs.Prelude.{Contains, nat_le}
use Rattle.std.specs.List.{list_any, list_all}
use Rattle.std.specs.Option.{option_map_or}
use Rattle.std.specs.Bool.{MatchBool}
use Rattle.std.proofs.lemmas.Bool.{le-leb, leb-true}
use Rattle.std.proofs.lemmas.List.{length-map}
use Rattle.un_defs.specs.declared.port.Port.{Port}
use Rattle.un_defs.specs.declared.port.Node.{Node}
use Rattle.un_defs.specs.Orders.{same_port, same_node}
use Rattle.un_defs.specs.Reach.{last_node, IsReach}
use Rattle.un_defs.proofs.LinkCases.{both_true, true_both}
use Rattle.un_defs.proofs.Members.{contains_from_among, among_from_contains, among_from_list_any, list_any_from_among}
use Rattle.un_defs.proofs.Rising.{Among}
use Rattle.un_defs.proofs.Unique.{port_same, port_itself, node_same, node_itself}
use Rattle.un_walk.proofs.Spreading.{from_has, has_from}
use Rattle.un_ask.specs.declared.results.Label.{Label}
use Rattle.un_ask.specs.declared.typed.CheckAsk.{CheckAsk}
use Rattle.un_path.specs.Costs.{walk_cost}
use Rattle.un_path.specs.Paths.{IsWalk, ports_of, label_ports}
use Rattle.un_path.specs.Valid.{label_at, KeepsSteps, IsLabelledWalk, IsValid}
use Rattle.un_path.specs.Verdict.{same_ports, is_label, keeps_step, keeps_steps, is_shown, shows_none, shows_walk, is_valid}
use Rattle.un_path.specs.WalkList.{walks_from, ends_in}
use Rattle.un_path.proofs.Listed.{from_listed, listed, closed, starts}

-- ---- parts of the test

or_cases : (a b : Bool) → (a || b) ≡ true → (a ≡ true) ⊎ (b ≡ true)
or_cases true b e = inl refl
or_cases false b e = inr e

or_first : (a b : Bool) → a ≡ true → (a || b) ≡ true
or_first a b e = ap (λ c. c || b) e

or_second : (a b : Bool) → b ≡ true → (a || b) ≡ true
or_second true b e = refl
or_second false b e = e

ports_from : (ps qs : List Port) → same_ports ps qs ≡ true → ps ≡ qs
ports_from [] [] e = refl
ports_from [] (q ∷ qs) e = absurd (true≢false (sym e))
ports_from (p ∷ ps) [] e = absurd (true≢false (sym e))
ports_from (p ∷ ps) (q ∷ qs) e =
    let both = both_true (same_port p q) (same_ports ps qs) e in
    λ i. port_same p q both.0 i ∷ ports_from ps qs both.1 i

ports_themselves : (ps : List Port) → same_ports ps ps ≡ true
ports_themselves [] = refl
ports_themselves (p ∷ ps) = true_both (same_port p p) (same_ports ps ps) (port_itself p) (ports_themselves ps)

ports_by : (ps qs : List Port) → ps ≡ qs → same_ports ps qs ≡ true
ports_by ps qs e = ap (same_ports ps) (sym e) ∙ ports_themselves ps

all_from : {A : Type 0} (p : A → Bool) (xs : List A) → list_all p xs ≡ true → (x : A) → Among xs x → p x ≡ true
all_from p [] e x h = absurd h
all_from p (y ∷ ys) e x (inl i) = ap p (sym i) ∙ (both_true (p y) (list_all p ys) e).0
all_from p (y ∷ ys) e x (inr i) = all_from p ys (both_true (p y) (list_all p ys) e).1 x i

all_by : {A : Type 0} (p : A → Bool) (xs : List A) → ((x : A) → Among xs x → p x ≡ true) → list_all p xs ≡ true
all_by p [] h = refl
all_by p (y ∷ ys) h = true_both (p y) (list_all p ys) (h y (inl refl)) (all_by p ys (λ x i. h x (inr i)))

same_number : (a b : ℕ) → (a == b) ≡ true → a ≡ b
same_number a b e = search arith

number_itself : (a : ℕ) → (a == a) ≡ true
number_itself a = search arith

label_by : (labels : List Label) (n : Node) (c : ℕ) → is_label labels n c ≡ true → label_at labels n.port ≡ Some c
label_by labels n c = go (label_at labels n.port)
  where
    go : (o : Option ℕ) → option_map_or (λ a. a == c) o false ≡ true → o ≡ Some c
    go None e = absurd (true≢false (sym e))
    go (Some a) e = ap Some (same_number a c e)

is_label_by : (labels : List Label) (n : Node) (c : ℕ) → label_at labels n.port ≡ Some c → is_label labels n c ≡ true
is_label_by labels n c e = ap (λ o. option_map_or (λ a. a == c) o false) e ∙ number_itself c

-- ---- the whole

module _ (step : Node → Node → Bool) (cost : Node → Node → ℕ) (reached : List Node) (ask : CheckAsk) where
  keeps_from : keeps_steps step cost reached ask.labels ≡ true → KeepsSteps step cost reached ask.labels
  keeps_from e n m a b h k at_n at_m s =
      let pair : keeps_step step cost ask.labels n m ≡ true =
      all_from (keeps_step step cost ask.labels n) reached
      (all_from (λ n. list_all (keeps_step step cost ask.labels n) reached) reached e n (among_from_contains reached n h)) m (among_from_contains reached m k) in
      leb-true b (a + cost n m)
      (sym (λ i. not (s i) || option_map_or (λ a. option_map_or (λ b. nat_le b (a + cost n m)) (at_m i) true) (at_n i) true) ∙ pair)

  keeps_by : KeepsSteps step cost reached ask.labels → keeps_steps step cost reached ask.labels ≡ true
  keeps_by keeps =
      all_by (λ n. list_all (keeps_step step cost ask.labels n) reached) reached (λ n h.
      all_by (keeps_step step cost ask.labels n) reached (λ m k. by_step n m h k (step n m) refl))
    where
      by_labels : (n m : Node) → Among reached n → Among reached m → step n m ≡ true → (o p : Option ℕ) → label_at ask.labels n.port ≡ o → label_at ask.labels m.port ≡ p
          → option_map_or (λ a. option_map_or (λ b. nat_le b (a + cost n m)) p true) o true ≡ true
      by_labels n m h k s None p e f = refl
      by_labels n m h k s (Some a) None e f = refl
      by_labels n m h k s (Some a) (Some b) e f = le-leb b (a + cost n m) (keeps n m a b (contains_from_among reached n h) (contains_from_among reached m k) e f s)

      by_step : (n m : Node) → Among reached n → Among reached m → (s : Bool) → step n m ≡ s
          → (not s || option_map_or (λ a. option_map_or (λ b. nat_le b (a + cost n m)) (label_at ask.labels m.port) true) (label_at ask.labels n.port) true) ≡ true
      by_step n m h k false e = refl
      by_step n m h k true e = by_labels n m h k e (label_at ask.labels n.port) (label_at ask.labels m.port) refl refl

  abbrev Right : Type 0
  Right = ((Contains reached ask.to → ⊥) × (ask.nodes ≡ [])) ⊎ IsLabelledWalk step cost ask.from ask.to ask.nodes ask.labels

  none_from : shows_none reached ask ≡ true → (Contains reached ask.to → ⊥) × (ask.nodes ≡ [])
  none_from e =
      let both = both_true (same_ports ask.nodes []) (not (list_any (same_node ask.to) reached)) e in (
        λ h. true≢false (sym both.1 ∙ ap not (has_from reached ask.to (among_from_contains reached ask.to h))),
        ports_from ask.nodes [] both.0,
      )

  none_by : (Contains reached ask.to → ⊥) → ask.nodes ≡ [] → shows_none reached ask ≡ true
  none_by none bare = true_both (same_ports ask.nodes []) (not (list_any (same_node ask.to) reached)) (ports_by ask.nodes [] bare) (go (list_any (same_node ask.to) reached) refl)
    where
      go : (b : Bool) → list_any (same_node ask.to) reached ≡ b → not b ≡ true
      go true e = absurd (none (contains_from_among reached ask.to (from_has reached ask.to e)))
      go false e = refl

  walk_right : shows_walk step cost reached ask ≡ true → Right
  walk_right e = elim (or_cases (shows_none reached ask) (list_any (is_shown cost ask) (walks_from step reached (length ask.nodes) ask.from)) e) [
    | inl none ↦ inl (none_from none)
    | inr some ↦
        let (w, among, shown) = among_from_list_any (is_shown cost ask) (walks_from step reached (length ask.nodes) ask.from) some in
        let (ms, begins, follows) = from_listed step reached (length ask.nodes) ask.from w among in
        let first = both_true (ends_in ask.to w) (same_ports ask.nodes (ports_of w) && is_label ask.labels ask.to (walk_cost cost w)) shown in
        let second = both_true (same_ports ask.nodes (ports_of w)) (is_label ask.labels ask.to (walk_cost cost w)) first.1 in
        inr (record {
          nodes = w;
          walk = record { rest = ms; begins = begins; follows = follows; ends = node_same (last_node ask.from ms) ask.to (ap (ends_in ask.to) (sym begins) ∙ first.0) };
          ports = ports_from ask.nodes (ports_of w) second.0;
          costs = label_by ask.labels ask.to (walk_cost cost w) second.1;
        })
  ]

  pub valid_from : is_valid step cost reached ask ≡ true → IsValid step cost reached ask
  valid_from e =
      let ports = both_true (same_ports (label_ports ask.labels) (ports_of reached)) _ e in
      let start = both_true (is_label ask.labels ask.from 0) _ ports.1 in
      let steps = both_true (keeps_steps step cost reached ask.labels) _ start.1 in
      record {
        ports = ports_from (label_ports ask.labels) (ports_of reached) ports.0;
        start = label_by ask.labels ask.from 0 start.0;
        steps = keeps_from steps.0;
        walk = walk_right steps.1;
      }

  module _ (reach : IsReach step (ask.from ∷ []) reached) where
    walk_shown : (nodes : List Node) (w : IsWalk step ask.from ask.to nodes) → ask.nodes ≡ ports_of nodes → label_at ask.labels ask.to.port ≡ Some (walk_cost cost nodes)
        → list_any (is_shown cost ask) (walks_from step reached (length ask.nodes) ask.from) ≡ true
    walk_shown nodes w ports costs =
        let count : length ask.nodes ≡ length (ask.from ∷ w.rest) = ap length ports ∙ length-map nodes (λ n. n.port) ∙ ap length w.begins in
        let here : Among (walks_from step reached (length ask.nodes) ask.from) (ask.from ∷ w.rest) =
        listed step reached (closed step cost ask.from reached reach) (length ask.nodes) ask.from w.rest (starts step cost ask.from reached reach) w.follows (omega (arith, count)) in
        list_any_from_among (is_shown cost ask) (walks_from step reached (length ask.nodes) ask.from) nodes
        (subst (Among (walks_from step reached (length ask.nodes) ask.from)) (sym w.begins) here)
        (true_both (ends_in ask.to nodes) (same_ports ask.nodes (ports_of nodes) && is_label ask.labels ask.to (walk_cost cost nodes))
        (ap (ends_in ask.to) w.begins ∙ ap (λ n. same_node n ask.to) w.ends ∙ node_itself ask.to)
        (true_both (same_ports ask.nodes (ports_of nodes)) (is_label ask.labels ask.to (walk_cost cost nodes))
        (ports_by ask.nodes (ports_of nodes) ports) (is_label_by ask.labels ask.to (walk_cost cost nodes) costs)))

    shows : Right → shows_walk step cost reached ask ≡ true
    shows (inl none) = or_first (shows_none reached ask) _ (none_by none.0 none.1)
    shows (inr l) = or_second (shows_none reached ask) _ (walk_shown l.nodes l.walk l.ports l.costs)

    pub valid_by_test : IsValid step cost reached ask → is_valid step cost reached ask ≡ true
    valid_by_test valid =
        true_both (same_ports (label_ports ask.labels) (ports_of reached)) _ (ports_by (label_ports ask.labels) (ports_of reached) valid.ports)
        (true_both (is_label ask.labels ask.from 0) _ (is_label_by ask.labels ask.from 0 valid.start)
        (true_both (keeps_steps step cost reached ask.labels) _ (keeps_by valid.steps) (shows valid.walk)))

    -- what says whether the certificate is valid is the test
    pub judged : (b : Bool) → MatchBool b (IsValid step cost reached ask) (IsValid step cost reached ask → ⊥) → b ≡ is_valid step cost reached ask
    judged true h = sym (valid_by_test h)
    judged false h = go (is_valid step cost reached ask) refl
      where
        go : (b : Bool) → is_valid step cost reached ask ≡ b → false ≡ b
        go true e = absurd (h (valid_from e))
        go false e = refl
