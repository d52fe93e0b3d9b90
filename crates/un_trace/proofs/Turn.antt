-- One turn over elements that rise by port: those of the next feature.
use Rattle.std.proofs.Common.{◌≡◌, ℕ, ◌+◌, ◌-◌, ◌<◌, ◌≤◌, ◌==◌, true, false, cond, zero, suc, List, [], ◌∷◌, ◌++◌, map, length, take, drop, get_or, take_while, refl, sym, ap, subst, ◌∙◌, inl, inr, arith, eq-eqb, IsSorted, length-drop, drop-cons}
use Rattle.std.specs.Ordering.{nat_cmp}
use Rattle.std.proofs.lemmas.List.{drop-drop, take_rest}
use Rattle.std.proofs.Math.Seq.{take-add}
use Rattle.un_defs.proofs.Rising.{Among}
use Rattle.un_defs.proofs.Members.{among_cases}
use Rattle.un_trace.proofs.Runs.{IsRunAfter}
use Rattle.un_trace.proofs.Rise.{Rise, run_of, run_is, among_run, take_run, past_run, run_sorted, rise_drop, first_low}

module _ {A : Type 0} (feature number : A → ℕ) where
  -- the nodes before a place are of features below those of the nodes from there on
  abbrev pub AreApart : List A → List A → Type 0
  AreApart done rest = (s t : A) → Among done s → Among rest t → feature s < feature t

  -- the nodes from a place on begin with some of one feature, and the others are of later features
  pub record Turn (seen : List A) (k n : ℕ) (s : A) : Type 0 where
    pub run : List A
    pub is_run : take (k + n - k) (drop k seen) ≡ run
    pub sorted : IsSorted nat_cmp (map number run)
    pub within : k + n ≤ length seen
    pub some : 0 < n
    pub so_far : take (k + n) seen ≡ take k seen ++ run
    pub after : AreApart (take k seen) (drop k seen) → IsRunAfter feature (take k seen) run (feature s)
    pub later : AreApart (take k seen) (drop k seen) → AreApart (take (k + n) seen) (drop (k + n) seen)

  among_some : (ss : List A) (s : A) → Among ss s → 0 < length ss
  among_some [] s h = absurd h
  among_some (t ∷ ss) s h = omega arith

  run_short : (k : ℕ) (ss : List A) → length (run_of feature number k ss) ≤ length ss
  run_short k [] = omega arith
  run_short k (s ∷ ss) =
      let rest = run_short k ss in
      elim (feature s == k) as (λ b. length (cond b (s ∷ run_of feature number k ss) []) ≤ length (s ∷ ss)) [
        | true ↦ omega (arith, rest)
        | false ↦ omega arith
      ]

  begins : (s : A) (ss : List A) → Among (run_of feature number (feature s) (s ∷ ss)) s
  begins s ss =
      subst (λ b. Among (cond b (s ∷ run_of feature number (feature s) ss) []) s) (sym (eq-eqb (feature s) (feature s) refl)) (inl refl)

  among_taken : (n : ℕ) (ss : List A) (s : A) → Among (take n ss) s → Among ss s
  among_taken zero [] s h = absurd h
  among_taken zero (t ∷ ss) s h = absurd h
  among_taken (suc n) [] s h = absurd h
  among_taken (suc n) (t ∷ ss) s h = elim h [ inl e ↦ inl e | inr g ↦ inr (among_taken n ss s g) ]

  among_dropped : (n : ℕ) (ss : List A) (s : A) → Among (drop n ss) s → Among ss s
  among_dropped zero [] s h = h
  among_dropped zero (t ∷ ss) s h = h
  among_dropped (suc n) [] s h = h
  among_dropped (suc n) (t ∷ ss) s h = inr (among_dropped n ss s h)

  -- how many of the nodes from a place on are of the feature of the first, as the count was made
  pub counted : (seen : List A) (k n : ℕ) (s : A) → s ≡ get_or seen k s
      → n ≡ length (take_while (λ (t : A). feature t == feature (get_or seen k s)) (take (length seen - k) (drop k seen)))
      → n ≡ length (run_of feature number (feature s) (drop k seen))
  counted seen k n s at e =
      e ∙ ap (λ l. length (take_while (λ (t : A). feature t == feature (get_or seen k s)) l)) (take_rest seen k)
      ∙ ap length (run_is feature number (feature (get_or seen k s)) (drop k seen))
      ∙ ap (λ x. length (run_of feature number (feature x) (drop k seen))) (sym at)

  module _ (seen : List A) (k n : ℕ) (s : A) where
    abbrev rest : List A
    rest = drop k seen

    abbrev run : List A
    run = run_of feature number (feature s) rest

    module _ (rise : Rise feature number seen) (within : k < length seen) (at : s ≡ get_or seen k s) (len : n ≡ length run) where
      cons : rest ≡ s ∷ drop (suc k) seen
      cons = drop-cons seen k s within ∙ ap (λ x. x ∷ drop (suc k) seen) (sym at)

      first : Among run s
      first = subst (λ l. Among (run_of feature number (feature s) l) s) (sym cons) (begins s (drop (suc k) seen))

      low : (t : A) → Among rest t → feature s ≤ feature t
      low t h = first_low feature number s (drop (suc k) seen) (subst (Rise feature number) cons (rise_drop feature number k seen rise)) t (subst (λ l. Among l t) cons h)

      taken : take n rest ≡ run
      taken = ap (λ j. take j rest) len ∙ take_run feature number (feature s) rest

      far : (t : A) → Among (drop (k + n) seen) t → Among (drop n rest) t
      far t h = subst (λ l. Among l t) (sym (drop-drop n k seen)) h

      split : take (k + n) seen ≡ take k seen ++ run
      split = take-add k n seen ∙ ap (λ l. take k seen ++ l) taken

      pub turn : Turn seen k n s
      turn = record {
        run = run;
        is_run = ap (λ j. take j rest) (let e : k + n - k ≡ n = omega arith in e) ∙ taken;
        sorted = run_sorted feature number (feature s) rest (rise_drop feature number k seen rise);
        within = let short = run_short (feature s) rest in omega (arith, short, len, within, length-drop k seen);
        some = let some = among_some run s first in omega (arith, some, len);
        so_far = split;
        after = λ apart. record {
          below = λ t h. apart t s h (subst (λ l. Among l s) (sym cons) (inl refl));
          here = λ t h. (among_run feature number (feature s) rest t h).1;
          first = s;
          some = first;
        };
        later = λ apart a b h g.
            let past : Among (drop n rest) b = far b g in
            elim (among_cases (take k seen) run a (subst (λ l. Among l a) split h)) [
              | inl i ↦ apart a b i (among_dropped n rest b past)
              | inr i ↦ let here = (among_run feature number (feature s) rest a i).1 in
                  let above = past_run feature number (feature s) rest (rise_drop feature number k seen rise) low b (subst (λ j. Among (drop j rest) b) len past) in
                  omega (arith, here, above)
            ];
      }
