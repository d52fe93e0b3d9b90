-- A whole number's digits are read back as the number, or as the nearest float.
use Rattle.std.proofs.Common.{◌≡◌, ℕ, zero, suc, ◌+◌, ◌-◌, ◌*◌, ◌/◌, ◌%◌, ◌^◌, ltb, ◌<◌, pos, negsuc, nat_le, nat_lt, if◌then◌else◌, cond, T, List, [], ◌∷◌, ◌++◌, length, get_or, Bool, true, false, ◌&&◌, Float, Option, Some, decimal, refl, sym, ap, ◌∙◌, subst, arith, append-nil, ne_eqb, mul-one, lit<, leb-true, ltb-true}
use Rattle.std.proofs.lemmas.Fmt.{decimal_is_IsNumeral_wide}
use Rattle.std.specs.Char.{digit_value}
use Rattle.std.specs.Float.{binary64, float_is_finite}
use Rattle.std.specs.Fmt.{sign_text, signed_decimal}
use Rattle.std.specs.Str.Parse.{AllDigits}
use Rattle.std.specs.Float.Numeral.{Parts, text_of, numeral_digits as digits_of, nearest_float, IsWellFormed}
use Rattle.std.proofs.lemmas.Float.Parse.{scan_numeral-text_of as scan-text_of}
use Rattle.serde_json.specs.Data.{Num, unsigned, negative, float}
use Rattle.serde_json.specs.Find.{to_float}
use Rattle.serde_json.specs.Read.{number_of, number_from, float_of}
use Rattle.serde_json.proofs.Numbers.{number_of-decimal, number_of-negative}
use Rattle.un_values.specs.ReadBack.{number_read, has_64_bits}
use lib.Ieee.{Format, nan, inf, fin, prec, emax, low, size, nearest, odd, units, round, le, of_int}
use Prim.Native.Nat.{compare}
use lib.Ieee.Order.{round_mono}

-- ---- the float nearest to a whole number of at most 128 bits is finite

same_finite : (b s t : Bool) (d q k l : ℕ) → float_is_finite (cond b (odd d s q k l) (inf s)) ≡ float_is_finite (cond b (odd d t q k l) (inf t))
unfolding odd float_is_finite
same_finite true s t d zero k l = refl
same_finite true s t d (suc q) k l = refl
same_finite false s t d q k l = refl

finite_either_sign : (f : Format) (s t : Bool) (a c : ℕ) → float_is_finite (round f s a c) ≡ float_is_finite (round f t a c)
unfolding round units
finite_either_sign f s t a c =
    let n = a * 2 ^ low f in
    let k = size (n / c) - prec f in
    let u = c * 2 ^ k in
    let q = nearest (n / u) (compare (n % u * 2) u) in
    same_finite (ltb (q * 2 ^ k) (2 ^ (low f + suc (emax f)))) s t (suc (prec f)) q k (low f)

finite_between : (x : Float) → T (le (fin false 0 (pos 0)) x) → T (le x (fin false 1 (pos 128))) → float_is_finite x ≡ true
unfolding le float_is_finite
finite_between nan low high = absurd low
finite_between (inf true) low high = absurd low
finite_between (inf false) low high = absurd high
finite_between (fin s m e) low high = refl

least : round binary64 false 0 1 ≡ fin false 0 (pos 0)
unfolding round
least = refl

greatest : round binary64 false (2 ^ 128) 1 ≡ fin false 1 (pos 128)
unfolding round
greatest = refl

finite : (sign : Bool) (n : ℕ) → n < 2 ^ 128 → float_is_finite (round binary64 sign n 1) ≡ true
finite sign n h =
    let low = subst (λ x. T (le x (round binary64 false n 1))) least (round_mono binary64 0 1 n 1 (lit< tt) (lit< tt) (omega arith)) in
    let high = subst (λ x. T (le (round binary64 false n 1) x)) greatest (round_mono binary64 n 1 (2 ^ 128) 1 (lit< tt) (lit< tt) (omega arith)) in
    finite_either_sign binary64 sign false n 1 ∙ finite_between _ low high

-- ---- digits as a numeral

no_minus : (ds rest : List ℕ) → AllDigits 10 ds → 0 < length ds → get_or (ds ++ rest) 0 0 ≡ 45 → ⊥
no_minus [] rest h some e = omega arith
no_minus (d ∷ ds) rest h some e = let digit : digit_value d < 10 = h.0 in let is : d ≡ 45 = e in grind arith

abbrev parts : List ℕ → Parts
parts ds = record { whole = ds; point = false; fraction = []; exponent_negative = false; exponent = []; len = length (ds ++ []) }

number_of-text_of : (sign : Bool) (p : Parts) → IsWellFormed p → 0 < length p.whole → number_of (sign_text sign ++ text_of p) ≡ number_from sign p
unfolding number_of
number_of-text_of true p h some = ap (number_from true) (scan-text_of p h)
number_of-text_of false p h some = rw (ne_eqb (get_or (text_of p) 0 0) 45 (no_minus p.whole _ h.whole_digits some)) (ap (number_from false) (scan-text_of p h))

number_of-digits : (sign : Bool) (n : ℕ) → n < 10 ^ 64 → number_of (sign_text sign ++ decimal n) ≡ number_from sign (parts (decimal n))
number_of-digits sign n h =
    let e = decimal_is_IsNumeral_wide n h in
    let formed : IsWellFormed (parts (decimal n)) = record { whole_digits = e.0.1; fraction_digits = tt; exponent_digits = tt; no_point = λ _. refl; no_exponent = λ _. refl; len_is = refl } in
    ap (λ s. number_of (sign_text sign ++ s)) (sym (append-nil (decimal n))) ∙ number_of-text_of sign (parts (decimal n)) formed e.0.0

digits_of-parts : (n : ℕ) → n < 10 ^ 64 → digits_of (parts (decimal n)) ≡ n
digits_of-parts n h = rw append-nil (decimal_is_IsNumeral_wide n h).1

nearest-parts : (sign : Bool) (n : ℕ) → n < 10 ^ 64 → nearest_float binary64 sign (parts (decimal n)) ≡ round binary64 sign n 1
nearest-parts sign n h = ap (λ m. round binary64 sign (m * 1) 1) (digits_of-parts n h) ∙ ap (λ m. round binary64 sign m 1) (mul-one n)

float_of-parts : (sign : Bool) (n : ℕ) → n < 2 ^ 128 → float_of sign (parts (decimal n)) ≡ Some (float (round binary64 sign n 1))
float_of-parts sign n h = rw (nearest-parts sign n (omega arith)) (rw (finite sign n h))

otherwise : {A : Type 0} (a b : Bool) (x y : A) → b ≡ false → (if a && b then x else y) ≡ y
otherwise true b x y e = rw e
otherwise false b x y e = refl

-- ---- a number with its sign

either_way : (o : Option Num) (short : Bool) (n : Num) → (short ≡ true → o ≡ Some n) → (short ≡ false → o ≡ Some (float (to_float n))) → o ≡ Some (if short then n else float (to_float n))
either_way o true n same near = same refl
either_way o false n same near = near refl

pub number_of-count : (n : ℕ) → n < 2 ^ 128 → number_of (decimal n) ≡ Some (number_read (unsigned n))
unfolding of_int
number_of-count n h = either_way _ (has_64_bits (unsigned n)) (unsigned n) (λ e. number_of-decimal n (ltb-true _ _ e)) (λ e. number_of-digits false n (omega arith) ∙ wide e)
  where
    wide : nat_lt n (2 ^ 64) ≡ false → number_from false (parts (decimal n)) ≡ Some (float (round binary64 false n 1))
    wide e = otherwise _ (nat_lt (digits_of (parts (decimal n))) (2 ^ 64)) _ _ (ap (λ m. nat_lt m (2 ^ 64)) (digits_of-parts n (omega arith)) ∙ e) ∙ float_of-parts false n h

pub number_of-below : (n : ℕ) → suc n < 2 ^ 128 → number_of (signed_decimal (negsuc n)) ≡ Some (number_read (negative (negsuc n)))
unfolding of_int
number_of-below n h = either_way _ (has_64_bits (negative (negsuc n))) (negative (negsuc n)) (λ e. number_of-negative n (leb-true _ _ e)) (λ e. number_of-digits true (suc n) (omega arith) ∙ wide e)
  where
    wide : nat_le (suc n) (2 ^ 63) ≡ false → number_from true (parts (decimal (suc n))) ≡ Some (float (round binary64 true (suc n) 1))
    wide e = otherwise _ (nat_le (digits_of (parts (decimal (suc n)))) (2 ^ 63)) _ _ (ap (λ m. nat_le m (2 ^ 63)) (digits_of-parts (suc n) (omega arith)) ∙ e) ∙ float_of-parts true (suc n) h
