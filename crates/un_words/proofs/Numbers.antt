-- Which texts are the decimal numeral of a number.
use Rattle.std.proofs.Common.{◌≡◌, ◌≢◌, ◌⊎◌, inl, inr, ℕ, zero, suc, ◌<◌, ◌^◌, Bool, true, false, List, [], ◌∷◌, Result, Ok, Err, MatchOption, length, get_or, decimal, refl, sym, ◌∙◌, ap, subst, arith}
use Rattle.std.proofs.lemmas.Fmt.{decimal_digit, first_decimal, decimal-digits_value, parse-decimal}
use Rattle.std.proofs.lemmas.Str.Parse.{IsNumeralModel, numerals_by_value, tells_digits, without_leading_plus_none}
use Rattle.std.specs.Str.Parse.{AllDigits, IsNumeral, ParsesUnsigned, digits_value, without_leading_plus}
use Rattle.std.specs.Result.{result_ok}
use Rattle.std.specs.Bool.{IsTrue}

-- a plus, or a zero before other bytes
abbrev pub HasPrefix : List ℕ → Type 0
HasPrefix text = (get_or text 0 0 ≡ 43) ⊎ ((get_or text 0 0 ≡ 48) × (1 < length text))

first_byte : (n : ℕ) → n < 2 ^ 32 → HasPrefix (decimal n) → ⊥
first_byte zero small has =
    let is = decimal_digit 0 (omega arith) in
    go (subst HasPrefix is has)
  where
    go : HasPrefix (48 ∷ []) → ⊥
    go (inl e) = omega arith
    go (inr both) = omega arith
first_byte (suc n) small has =
    let above = first_decimal (suc n) (omega arith) (omega arith) in
    go above has
  where
    go : 48 < get_or (decimal (suc n)) 0 0 → HasPrefix (decimal (suc n)) → ⊥
    go above (inl e) = omega arith
    go above (inr both) = omega arith

pub not_prefixed : (text : List ℕ) → HasPrefix text → (n : ℕ) → n < 2 ^ 32 → text ≡ decimal n → ⊥
not_prefixed text has n small is = first_byte n small (subst HasPrefix is has)

own : IsNumeralModel (AllDigits 10) (digits_value 10)
own = numerals_by_value (AllDigits 10) tells_digits

-- a text without such a prefix that is read as a number is its numeral, and one that isn't read is none
read_back : {E : Type 0} (text : List ℕ) (r : Result ℕ E) → ParsesUnsigned 32 10 text r → (HasPrefix text → ⊥) → (n : ℕ) → r ≡ Ok n → text ≡ decimal n
read_back text (Err e) parses plain n is = cc
read_back text (Ok m) parses plain n is =
    let whole : without_leading_plus text ≡ text = without_leading_plus_none text (λ e. plain (inl e)) in
    let said : (IsNumeral 10 text × (digits_value 10 text < 2 ^ 32)) × (m ≡ digits_value 10 text) = subst (λ t. (IsNumeral 10 t × (digits_value 10 t < 2 ^ 32)) × (m ≡ digits_value 10 t)) whole parses in
    let zero_alone : get_or text 0 0 ≡ 48 → length text ≡ 1 = λ e. one e (length text) refl said.0.0.0 in
    let back = decimal-digits_value own text said.0.0.1 said.0.0.0 zero_alone (omega (arith, said.0.1)) in
    let same : m ≡ n = cc in
    sym back ∙ ap decimal (sym said.1 ∙ same)
  where
    one : get_or text 0 0 ≡ 48 → (size : ℕ) → length text ≡ size → 0 < length text → length text ≡ 1
    one e zero is some = omega arith
    one e (suc zero) is some = is
    one e (suc (suc size)) is some = absurd (plain (inr (e, omega arith)))

not_read : {E : Type 0} (text : List ℕ) (r : Result ℕ E) → ParsesUnsigned 32 10 text r → (e : E) → r ≡ Err e → (n : ℕ) → n < 2 ^ 32 → text ≡ decimal n → ⊥
not_read text r parses e is n small text_is = let ok = parse-decimal 32 n text r small (omega arith) text_is parses in cc

-- the number that was read, if one was
pub by_result : {E : Type 0} (text : List ℕ) (r : Result ℕ E) → ParsesUnsigned 32 10 text r → (HasPrefix text → ⊥) → MatchOption (result_ok r) ((n : ℕ) → n < 2 ^ 32 → text ≢ decimal n) (λ n. text ≡ decimal n)
by_result {E = E} text (Ok n) parses plain = read_back {E = E} text (Ok n) parses plain n refl
by_result {E = E} text (Err e) parses plain = not_read {E = E} text (Err e) parses e refl

-- a test that fails doesn't hold
pub fails : (b : Bool) → b ≡ false → IsTrue b → ⊥
fails true is holds = cc
fails false is holds = cc
