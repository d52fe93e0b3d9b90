-- One turn over the nodes: those of the next feature.
use Rattle.std.proofs.Common.{◌≡◌, ℕ, ◌+◌, ◌-◌, ◌<◌, ◌≤◌, ◌==◌, true, false, cond, zero, suc, List, [], ◌∷◌, ◌++◌, map, length, take, drop, get_or, take_while, refl, sym, ap, subst, ◌∙◌, inl, inr, arith, eq-eqb, IsSorted, length-drop, drop-cons}
use Rattle.std.specs.Ordering.{nat_cmp}
use Rattle.std.proofs.lemmas.List.{drop-drop, take_rest}
use Rattle.std.proofs.Math.Seq.{take-add}
use Rattle.un_defs.proofs.Rising.{Among}
use Rattle.un_defs.proofs.Members.{among_cases}
use Rattle.un_defs.specs.declared.port.Node.{Node}
use Rattle.un_isolate.proofs.Runs.{IsRunAfter}
use Rattle.un_isolate.proofs.Rise.{feature_of, number_of, Rise, run_of, run_is, among_run, take_run, past_run, run_sorted, rise_drop, first_low}

-- the nodes before a place are of features below those of the nodes from there on
abbrev pub AreApart : List Node → List Node → Type 0
AreApart done rest = (s t : Node) → Among done s → Among rest t → feature_of s < feature_of t

-- the nodes from a place on begin with some of one feature, and the others are of later features
pub record Turn (nodes : List Node) (k n : ℕ) (s : Node) : Type 0 where
  pub run : List Node
  pub is_run : take (k + n - k) (drop k nodes) ≡ run
  pub sorted : IsSorted nat_cmp (map number_of run)
  pub within : k + n ≤ length nodes
  pub some : 0 < n
  pub so_far : take (k + n) nodes ≡ take k nodes ++ run
  pub after : AreApart (take k nodes) (drop k nodes) → IsRunAfter feature_of (take k nodes) run (feature_of s)
  pub later : AreApart (take k nodes) (drop k nodes) → AreApart (take (k + n) nodes) (drop (k + n) nodes)

among_some : (ss : List Node) (s : Node) → Among ss s → 0 < length ss
among_some [] s h = absurd h
among_some (t ∷ ss) s h = omega arith

run_short : (k : ℕ) (ss : List Node) → length (run_of k ss) ≤ length ss
run_short k [] = omega arith
run_short k (s ∷ ss) =
    let rest = run_short k ss in
    elim (feature_of s == k) as (λ b. length (cond b (s ∷ run_of k ss) []) ≤ length (s ∷ ss)) [
      | true ↦ omega (arith, rest)
      | false ↦ omega arith
    ]

begins : (s : Node) (ss : List Node) → Among (run_of (feature_of s) (s ∷ ss)) s
begins s ss =
    subst (λ b. Among (cond b (s ∷ run_of (feature_of s) ss) []) s) (sym (eq-eqb (feature_of s) (feature_of s) refl)) (inl refl)

among_taken : (n : ℕ) (ss : List Node) (s : Node) → Among (take n ss) s → Among ss s
among_taken zero [] s h = absurd h
among_taken zero (t ∷ ss) s h = absurd h
among_taken (suc n) [] s h = absurd h
among_taken (suc n) (t ∷ ss) s h = elim h [ inl e ↦ inl e | inr g ↦ inr (among_taken n ss s g) ]

among_dropped : (n : ℕ) (ss : List Node) (s : Node) → Among (drop n ss) s → Among ss s
among_dropped zero [] s h = h
among_dropped zero (t ∷ ss) s h = h
among_dropped (suc n) [] s h = h
among_dropped (suc n) (t ∷ ss) s h = inr (among_dropped n ss s h)

-- how many of the nodes from a place on are of the feature of the first, as the count was made
pub counted : (nodes : List Node) (k n : ℕ) (s : Node) → n ≡ length (take_while (λ (t : Node). t.port.feature == feature_of s) (take (length nodes - k) (drop k nodes)))
    → n ≡ length (run_of (feature_of s) (drop k nodes))
counted nodes k n s e =
    e ∙ ap (λ l. length (take_while (λ (t : Node). t.port.feature == feature_of s) l)) (take_rest nodes k) ∙ ap length (run_is (feature_of s) (drop k nodes))

-- what is read at a place, whatever is read past the end
pub read_again : {A : Type 0} (xs : List A) (k : ℕ) (d : A) → k < length xs → get_or xs k d ≡ get_or xs k (get_or xs k d)
read_again [] k d h = absurd (omega arith)
read_again (x ∷ xs) zero d h = refl
read_again (x ∷ xs) (suc k) d h = read_again xs k d (omega arith)

module _ (nodes : List Node) (k n : ℕ) (s : Node) where
  abbrev rest : List Node
  rest = drop k nodes

  abbrev run : List Node
  run = run_of (feature_of s) rest

  module _ (rise : Rise nodes) (within : k < length nodes) (at : s ≡ get_or nodes k s) (len : n ≡ length run) where
    cons : rest ≡ s ∷ drop (suc k) nodes
    cons = drop-cons nodes k s within ∙ ap (λ x. x ∷ drop (suc k) nodes) (sym at)

    first : Among run s
    first = subst (λ l. Among (run_of (feature_of s) l) s) (sym cons) (begins s (drop (suc k) nodes))

    low : (t : Node) → Among rest t → feature_of s ≤ feature_of t
    low t h = first_low s (drop (suc k) nodes) (subst Rise cons (rise_drop k nodes rise)) t (subst (λ l. Among l t) cons h)

    taken : take n rest ≡ run
    taken = ap (λ j. take j rest) len ∙ take_run (feature_of s) rest

    far : (t : Node) → Among (drop (k + n) nodes) t → Among (drop n rest) t
    far t h = subst (λ l. Among l t) (sym (drop-drop n k nodes)) h

    split : take (k + n) nodes ≡ take k nodes ++ run
    split = take-add k n nodes ∙ ap (λ l. take k nodes ++ l) taken

    pub turn : Turn nodes k n s
    turn = record {
      run = run;
      is_run = ap (λ j. take j rest) (let e : k + n - k ≡ n = omega arith in e) ∙ taken;
      sorted = run_sorted (feature_of s) rest (rise_drop k nodes rise);
      within = let short = run_short (feature_of s) rest in omega (arith, short, len, within, length-drop k nodes);
      some = let some = among_some run s first in omega (arith, some, len);
      so_far = split;
      after = λ apart. record {
        below = λ t h. apart t s h (subst (λ l. Among l s) (sym cons) (inl refl));
        here = λ t h. (among_run (feature_of s) rest t h).1;
        first = s;
        some = first;
      };
      later = λ apart a b h g.
          let past : Among (drop n rest) b = far b g in
          elim (among_cases (take k nodes) run a (subst (λ l. Among l a) split h)) [
            | inl i ↦ apart a b i (among_dropped n rest b past)
            | inr i ↦ let here = (among_run (feature_of s) rest a i).1 in
                let above = past_run (feature_of s) rest (rise_drop k nodes rise) low b (subst (λ j. Among (drop j rest) b) len past) in
                omega (arith, here, above)
          ];
    }
