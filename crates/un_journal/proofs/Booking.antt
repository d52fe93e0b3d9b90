-- The books after one more entry.
use Rattle.std.proofs.Common.{◌≡◌, ◌≢◌, ℕ, zero, suc, ◌+◌, ◌<◌, true, false, List, [], ◌∷◌, ◌++◌, length, length-append, get_or, get_or-set_same, get_or-set_other, refl, ap, sym, ◌∙◌, arith, Result, Ok, Err, Some}
use Rattle.std.specs.Prelude.{is_err, OnErr, OnOk, slice_index, slice_set}
use Rattle.std.proofs.Math.ListN.{length-set}
use Rattle.std.proofs.lemmas.Bool.Decides.{nat_tests}
use native.Mathlib.Decide.{ℕ_discrete}
use mathlib.Core.Logic.{dite}
use Rattle.un_machine.specs.declared.Entry.{Entry}
use Rattle.un_machine.specs.Logs.{entries_of}
use Rattle.un_publish.proofs.Own.{entries_snoc}
use Rattle.un_journal.specs.Books.{AreBooks, journal_model, entry}

pub on_err : {A E : Type 0} (r : Result A E) {P : Type 0} → is_err r ≡ true → OnErr r P → P
on_err (Ok a) h p = absurd (cc h)
on_err (Err e) h p = p

pub on_ok : {A E : Type 0} (r : Result A E) {P : Type 0} → is_err r ≡ false → OnOk r P → P
on_ok (Ok a) h p = p
on_ok (Err e) h p = absurd (cc h)

module _ {M C R H K : Type 0} where
  own_one : (k : ℕ) (e : Entry M C R H K) → e.session ≡ k → length (entries_of k (e ∷ [])) ≡ 1
  own_one k e h = grind (arith, nat_tests)

  other_none : (k : ℕ) (e : Entry M C R H K) → e.session ≢ k → length (entries_of k (e ∷ [])) ≡ 0
  other_none k e h = grind (arith, nat_tests)

  pub next_books : (books : List ℕ) (log : List (Entry M C R H K)) (number n : ℕ) (e : Entry M C R H K)
      → number < 64 → e.session ≡ number → n ≡ length (entries_of number log) + 1 → AreBooks books log → AreBooks (slice_set books number n) (log ++ e ∷ [])
  next_books books log number n e below session is books_are = (
    length-set books number n ∙ books_are.0,
    λ k lt.
        let all : length (entries_of k (log ++ e ∷ [])) ≡ length (entries_of k log) + length (entries_of k (e ∷ [])) = ap length (entries_snoc k log e) ∙ length-append (entries_of k log) (entries_of k (e ∷ [])) in
        let room : number < length books = let l = books_are.0 in omega arith in
        dite (ℕ_discrete k number)
        (λ (same : k ≡ number).
        let one = own_one k e (session ∙ sym same) in
        let count : length (entries_of k (log ++ e ∷ [])) ≡ n = omega (arith, all, one, is, ap (λ (j : ℕ). length (entries_of j log)) same) in
        let here : slice_index (slice_set books number n) k ≡ n = rw same (get_or-set_same books number n 0 room) in
        here ∙ sym count)
        (λ (apart : k ≢ number).
        let none = other_none k e (λ h. apart (sym h ∙ session)) in
        let count : length (entries_of k (log ++ e ∷ [])) ≡ length (entries_of k log) = omega (arith, all, none) in
        let here : slice_index (slice_set books number n) k ≡ slice_index books k = get_or-set_other books number k n 0 apart in
        here ∙ books_are.1 k lt ∙ sym count),
  )

pub get_any : {A : Type 0} (xs : List A) (i : ℕ) (a b : A) → i < length xs → get_or xs i a ≡ get_or xs i b
get_any [] i a b h = absurd (omega arith)
get_any (x ∷ xs) zero a b h = refl
get_any (x ∷ xs) (suc i) a b h = get_any xs i a b (omega arith)

pub some_same : {A : Type 0} (x y : A) → Some x ≡ Some y → x ≡ y
some_same x y h = cc

module _ {M C R H K : Type 0} where
  -- what the journal is after an accepted commit
  pub after : (log' log old : List (Entry M C R H K)) (t u : M) (number n : ℕ) (cmd : C) (copy reply : R) (mark : K)
      → log' ≡ log ++ record { session = number; n = n; cmd = cmd; reply = copy; mark = mark } ∷ []
      → t ≡ u → n ≡ length (entries_of number log) + 1 → copy ≡ reply → log ≡ old
      → journal_model log' t ≡ journal_model (old ++ entry old number cmd reply mark ∷ []) u
  after log' log old t u number n cmd copy reply mark grown same book copied is =
      rw (grown, same, copied, is) (rw book (rw is refl))
