-- How many entries are one session's.
use Rattle.std.proofs.Common.{◌≡◌, ◌==◌, ℕ, ◌≤◌, not, List, [], ◌∷◌, ◌++◌, length, refl, arith}
use Rattle.std.proofs.lemmas.List.Filters.{length-filter_both}
use Rattle.std.proofs.lemmas.List.Elements.{filter-append}
use Rattle.un_machine.specs.declared.Entry.{Entry}
use Rattle.un_machine.specs.Logs.{entries_of}

module _ {M C R H K : Type 0} where
  pub entries_le : (n : ℕ) (log : List (Entry M C R H K)) → length (entries_of n log) ≤ length log
  entries_le n log = omega (arith, length-filter_both (λ (e : Entry M C R H K). e.session == n) (λ e. not (e.session == n)) (λ e. refl) log)

  -- an entry of the session is one more of its own
  pub entries_snoc : (n : ℕ) (log : List (Entry M C R H K)) (e : Entry M C R H K) → entries_of n (log ++ e ∷ []) ≡ entries_of n log ++ entries_of n (e ∷ [])
  entries_snoc n log e = filter-append (λ (e : Entry M C R H K). e.session == n) log (e ∷ [])
