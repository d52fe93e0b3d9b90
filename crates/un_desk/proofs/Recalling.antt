-- Views of past versions, which are reached in rounds.
use Rattle.std.proofs.Common.{◌≡◌, ◌⊎◌, ◌≤◌, ℕ, ◌+◌, List, [], ◌∷◌, length, take, drop, subst, sym, arith}
use Rattle.std.proofs.lemmas.List.Elements.{All-cons, All-nil}
use mathlib.Core.List.{IsPrefix}
use Rattle.un_machine.specs.declared.Entry.{Entry}
use Rattle.un_machine.specs.Logs.{Leads, Reaches}
use Rattle.un_publish.specs.Models.{SessionModel}
use Rattle.un_publish.specs.Faults.{IsTeachFault}
use Rattle.un_publish.specs.declared.session.Denied.{Denied}
use Rattle.un_publish.specs.declared.session.Denied.TheVariants.{NoCopy, Book, Long}
use Rattle.un_asof.specs.Pasts.{IsAfter, LongerLaw, NextLaw, WayLaw}
use Rattle.un_desk.specs.declared.past.PastFault.{PastFault}
use Rattle.un_desk.specs.declared.past.PastFault.TheVariants.{Ahead, Denied as Refused, Memory}
use Rattle.un_desk.specs.Pasts.{IsPastFault}
use Rattle.un_desk.proofs.Answering.{denied_alone}

module _ {M C R H K : Type 0} where
  pub past_not_taught : (log : List (Entry M C R H K)) (s t : SessionModel M C R H K) (at : ℕ) (d : Denied) → IsTeachFault log s t d → IsPastFault s t at (Refused d)
  past_not_taught log s t at NoCopy h = denied_alone s t s.seen h
  past_not_taught log s t at (Long seen n) h = (h.0, h.1, h.3)
  past_not_taught log s t at (Book book own) h = absurd h

  -- whatever was seen when the round began
  fault_of : (s t : SessionModel M C R H K) (xs : List (Entry M C R H K)) (at : ℕ) (f : PastFault) → IsPastFault (record s { seen = xs }) t at f → IsPastFault s t at f
  fault_of s t xs at (Ahead a) h = h
  fault_of s t xs at (Refused NoCopy) h = h
  fault_of s t xs at (Refused (Long a b)) h = h
  fault_of s t xs at (Refused (Book a b)) h = h
  fault_of s t xs at Memory h = h

  pub fault_later : (s m t : SessionModel M C R H K) (at : ℕ) (f : PastFault) → m ≡ record s { seen = m.seen } → IsPastFault m t at f → IsPastFault s t at f
  fault_later s m t at f e h = fault_of s t m.seen at f (subst (λ (x : SessionModel M C R H K). IsPastFault x t at f) e h)

  pub kept_later : (s m t : SessionModel M C R H K) → m ≡ record s { seen = m.seen } → t ≡ record m { seen = t.seen } → t ≡ record s { seen = t.seen }
  kept_later s m t e h = subst (λ (x : SessionModel M C R H K). t ≡ record x { seen = t.seen }) e h

module _ {M C R H K : Type 0} (step : M → C → (M × (R × K)) ⊎ R) (opening : List M) where
  -- a state stays right when more entries are seen
  pub after_longer : LongerLaw H step opening → (xs ys : List (Entry M C R H K)) (p : ℕ × M) → IsPrefix xs ys → IsAfter step opening xs p → IsAfter step opening ys p
  after_longer law xs ys p begins is =
      let P = IsAfter step opening xs in
      law (p ∷ []) xs ys begins (All-cons P p [] is (All-nil P)) 0 p (omega arith)

  -- the entries of a round lead from the state before it to some state
  pub round_leads : WayLaw H step opening → (log seen rest : List (Entry M C R H K)) (last s : M) (v k : ℕ) → log ≡ seen → Reaches step opening log last → IsAfter step opening seen (v, s) → rest ≡ drop v log
      → (t : M) × Leads step s (take k rest) t
  round_leads law log seen rest last s v k e reaches after is =
      subst (λ (l : List (Entry M C R H K)). (t : M) × Leads step s (take k l) t) (sym is)
      (law log last v k s reaches (subst (λ (l : List (Entry M C R H K)). IsAfter step opening l (v, s)) (sym e) after))

  -- and that state is the one after them
  pub round_after : NextLaw H step opening → (log seen rest : List (Entry M C R H K)) (last s t : M) (v k : ℕ) → log ≡ seen → Reaches step opening log last → IsAfter step opening seen (v, s) → rest ≡ drop v log
      → v + k ≤ length seen → Leads step s (take k rest) t → IsAfter step opening seen (v + k, t)
  round_after law log seen rest last s t v k e reaches after is within leads =
      let P = λ (l : List (Entry M C R H K)). IsAfter step opening l (v + k, t) in
      subst P e
      (law log last v k s t reaches (subst (λ (l : List (Entry M C R H K)). IsAfter step opening l (v, s)) (sym e) after)
      (subst (λ (l : List (Entry M C R H K)). v + k ≤ length l) (sym e) within)
      (subst (λ (l : List (Entry M C R H K)). Leads step s (take k l) t) is leads))
