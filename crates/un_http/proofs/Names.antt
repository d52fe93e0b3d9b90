-- Two names with a slash between them.
use Rattle.std.proofs.Common.{◌≡◌, ℕ, suc, ◌+◌, ◌<◌, Bool, true, false, List, ◌∷◌, [], ◌++◌, refl, sym, ◌∙◌, ap, length, take, drop, get_or, arith, Option, Some, None}
use Rattle.std.specs.Prelude.{◌==◌, not, MatchOption}
use Rattle.std.specs.List.{list_all, position_or_len}
use Rattle.std.proofs.lemmas.List.{take-append-drop}
use Rattle.std.proofs.lemmas.List.Sums.{prefix_len_stops}
use Rattle.std.proofs.lemmas.Bool.Decides.{nat_tests}
use Rattle.std.proofs.lemmas.Grind.{common_steps}
use Rattle.un_http.specs.Routes.{is_name_byte, is_name}
use Rattle.un_http.proofs.Reached.{name_other}

slash_place : (a b : List ℕ) → list_all is_name_byte a ≡ true → position_or_len (λ x. x == 47) (a ++ 47 ∷ b) ≡ length a
slash_place [] b all = refl
slash_place (x ∷ a) b all =
    let other : x == 47 ≡ false = name_other x (grind (arith, nat_tests)) in
    let rest = slash_place a b (grind (arith, nat_tests)) in
    rw other (omega (arith, rest))

pub found_slash : (names : List ℕ) (at : ℕ) → at ≡ position_or_len (λ x. x == 47) names → at < length names → names ≡ take at names ++ 47 ∷ drop (at + 1) names
found_slash names at e within =
    let stops = prefix_len_stops (λ x. not (x == 47)) names 0 (rw (← e) within) in
    let stops_at : not (get_or names at 0 == 47) ≡ false = rw e stops in
    let here : get_or names at 0 ≡ 47 = grind (arith, nat_tests) in
    let behind : drop at names ≡ 47 ∷ drop (at + 1) names = grind (arith, common_steps) in
    sym (take-append-drop at names) ∙ ap (λ x. take at names ++ x) behind

drop_behind : (a b : List ℕ) → drop (length a + 1) (a ++ 47 ∷ b) ≡ b
drop_behind [] b = refl
drop_behind (x ∷ a) b =
    let size : length (x ∷ a) + 1 ≡ suc (length a + 1) = omega arith in
    rw size (drop_behind a b)

pub record CutAt (names a b : List ℕ) (at : ℕ) : Type 0 where
  pub within : at < length names
  pub prefix : take at names ≡ a
  pub back : drop (at + 1) names ≡ b

pub cut_names : (names a b : List ℕ) (at : ℕ) → at ≡ position_or_len (λ x. x == 47) names → names ≡ a ++ 47 ∷ b → is_name a ≡ true → CutAt names a b at
cut_names names a b at e cut is =
    let size : at ≡ length a = e ∙ ap (position_or_len (λ x. x == 47)) cut ∙ slash_place a b (grind (arith, nat_tests)) in
    record {
      within = grind (arith, common_steps);
      prefix = rw cut (grind (arith, common_steps));
      back = rw (cut, size) (drop_behind a b);
    }

pub match_weaker : {A : Type 0} (o : Option A) (P Q : Type 0) (F : A → Type 0) → (P → Q) → MatchOption o P F → MatchOption o Q F
match_weaker None P Q F f m = f m
match_weaker (Some x) P Q F f m = m

pub none_fits : (is : Bool) (text a : List ℕ) → is ≡ is_name text → is ≡ false → text ≡ a → is_name a ≡ true → ⊥
none_fits is text a e isnt same named = true_false (sym named ∙ ap is_name (sym same) ∙ sym e ∙ isnt)
  where
    true_false : true ≡ false → ⊥
    true_false h = cc
