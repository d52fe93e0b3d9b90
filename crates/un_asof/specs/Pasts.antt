-- The states that a past keeps, and the logs for which it keeps the right ones. A pair is a version and a state.
use Rattle.std.specs.Prelude.{◌≡◌, ◌==◌, ◌≤◌, ◌<◌, ◌⊎◌, nat_le, nat_lt, ℕ, ◌+◌, cond, Bool, List, ◌∷◌, ◌++◌, length, take, drop, filter, remove, slice_index_or, All, AllPairs, Contains}
use Rattle.std.specs.List.{list_any}
use Rattle.std.specs.Arc.{arc_value}
use mathlib.Core.List.{IsPrefix}
use Rattle.un_machine.specs.declared.Entry.{Entry}
use Rattle.un_machine.specs.Logs.{Leads, Reaches}
use Rattle.un_publish.specs.declared.session.View.{View}

abbrev pub pair_of : {M : Type 0} → View M → ℕ × M
pair_of v = (v.version, arc_value v.state)

-- Room for one more: of 16 pairs the one of the least version other than 0 goes. The versions rise from 0, so that is the second one.
abbrev pub with_room : {A : Type 0} → List A → List A
with_room past = cond (length past == 16) (remove past 1) past

module _ {M : Type 0} where
  -- at most 16 pairs, with rising versions, of which the first is 0
  pub record IsPast (past : List (ℕ × M)) : Type 0 where
    pub most : length past ≤ 16
    pub some : 0 < length past
    pub first : (d : ℕ × M) → (slice_index_or past 0 d).0 ≡ 0
    pub rising : AllPairs (λ p q. p.0 < q.0) past

  -- the pair of the greatest version that isn't over `at`
  pub record IsNearest (past : List (ℕ × M)) (at : ℕ) (p : ℕ × M) : Type 0 where
    pub kept : Contains past p
    pub below : p.0 ≤ at
    pub greatest : All (λ q. q.0 ≤ at → q.0 ≤ p.0) past

  -- so many of the pairs, from the first one on, have a version that isn't over this one
  pub record IsCount (past : List (ℕ × M)) (version n : ℕ) : Type 0 where
    pub within : n ≤ length past
    pub below : (k : ℕ) (d : ℕ × M) → k < n → (slice_index_or past k d).0 ≤ version
    pub over : (d : ℕ × M) → n < length past → version < (slice_index_or past n d).0

  -- a state of this version is kept
  abbrev pub has_version : ℕ → List (ℕ × M) → Bool
  has_version v past = list_any (λ p. p.0 == v) past

  -- the pair at its place among the others
  abbrev pub put : ℕ × M → List (ℕ × M) → List (ℕ × M)
  put p past = filter (λ q. nat_le q.0 p.0) past ++ p ∷ filter (λ q. nat_lt p.0 q.0) past

  -- the past after a pair was given to it
  abbrev pub keeping : ℕ × M → List (ℕ × M) → List (ℕ × M)
  keeping p past = cond (has_version p.0 past) past (put p (with_room past))

module _ {M C R H K : Type 0} where
  -- the log has at least as many entries as the version says, and the state is the one after that many first entries, from the board's opening state
  abbrev pub IsAfter : (M → C → (M × (R × K)) ⊎ R) → List M → List (Entry M C R H K) → ℕ × M → Type 0
  IsAfter step opening log p = (p.0 ≤ length log) × Reaches step opening (take p.0 log) p.1

  -- each kept pair is right of this log
  abbrev pub StandsFor : (M → C → (M × (R × K)) ⊎ R) → List M → List (ℕ × M) → List (Entry M C R H K) → Type 0
  StandsFor step opening past log = All (IsAfter step opening log) past

module _ {M C R K : Type 0} where
  -- the past stands for every log
  abbrev pub StandsForAll : (H : Type 0) → (M → C → (M × (R × K)) ⊎ R) → List M → List (ℕ × M) → Type 0
  StandsForAll H step opening past = (log : List (Entry M C R H K)) → StandsFor step opening past log

  -- the pair is right of each log for which the past stands
  abbrev pub NearLaw : (H : Type 0) → (M → C → (M × (R × K)) ⊎ R) → List M → List (ℕ × M) → ℕ × M → Type 0
  NearLaw H step opening past p = (log : List (Entry M C R H K)) → StandsFor step opening past log → IsAfter step opening log p

  -- the past stands afterwards for each log for which it stood before, if the pair that it was given is right of that log
  abbrev pub KeepLaw : (H : Type 0) → (M → C → (M × (R × K)) ⊎ R) → List M → List (ℕ × M) → ℕ × M → List (ℕ × M) → Type 0
  KeepLaw H step opening before p after =
      (log : List (Entry M C R H K)) → StandsFor step opening before log → IsAfter step opening log p → StandsFor step opening after log

  -- a past that stands for a log stands for each longer one that begins with it
  abbrev pub LongerLaw : (H : Type 0) → (M → C → (M × (R × K)) ⊎ R) → List M → Type 0
  LongerLaw H step opening =
      (past : List (ℕ × M)) (log longer : List (Entry M C R H K)) → IsPrefix log longer → StandsFor step opening past log → StandsFor step opening past longer

  -- from the state after v entries of a legal log the next k entries lead to some state
  abbrev pub WayLaw : (H : Type 0) → (M → C → (M × (R × K)) ⊎ R) → List M → Type 0
  WayLaw H step opening =
      (log : List (Entry M C R H K)) (last : M) (v k : ℕ) (s : M)
      → Reaches step opening log last → IsAfter step opening log (v, s) → (t : M) × Leads step s (take k (drop v log)) t

  -- and the state to which they lead is the one after v + k entries
  abbrev pub NextLaw : (H : Type 0) → (M → C → (M × (R × K)) ⊎ R) → List M → Type 0
  NextLaw H step opening =
      (log : List (Entry M C R H K)) (last : M) (v k : ℕ) (s t : M)
      → Reaches step opening log last → IsAfter step opening log (v, s) → v + k ≤ length log → Leads step s (take k (drop v log)) t → IsAfter step opening log (v + k, t)
