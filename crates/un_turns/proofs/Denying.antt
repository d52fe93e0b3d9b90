-- The count of denials after each turn.
use Rattle.std.proofs.Common.{◌≡◌, ◌⊎◌, ◌<◌, ◌+◌, ◌-◌, ◌^◌, ℕ, min, List, [], ◌∷◌, refl, ap, ◌∙◌, subst, inl, inr, arith}
use Rattle.un_publish.specs.Models.{SessionModel, risen}
use Rattle.un_publish.specs.declared.session.Denied.TheVariants.{NoCopy, Book, Long}
use Rattle.un_publish.specs.declared.session.SessionFault.TheVariants.{Denied as Refused, Memory}
use Rattle.un_publish.specs.declared.session.View.{View}
use Rattle.un_desk.specs.Desks.{counted}
use Rattle.un_desk.specs.declared.desk.ViewFault.{ViewFault}
use Rattle.un_desk.specs.declared.desk.ViewFault.TheVariants.{Ahead, Denied as NotTaught, Memory as NoMemory}
use Rattle.un_desk.specs.declared.past.PastFault.{PastFault}
use Rattle.un_desk.specs.declared.past.PastFault.TheVariants.{Ahead as PastAhead, Denied as PastDenied, Memory as PastMemory}
use Rattle.un_desk.specs.Pasts.{IsPastFault}
use Rattle.un_turns.specs.Turns.{Turn, Passed, Decided, Undecided, Unprepared, Answered, Unanswered, Recalled, Unread, Unrecalled, Compared, Reversed, UnreadSpan, Uncompared, IsTurn, IsAnswered, IsUnanswered, IsRecalled}
use Rattle.un_turns.specs.Conversations.{denials_of, denials, past_denials, view_denials, DenialLaw}

-- a count after none or one more
abbrev Counts : ℕ → ℕ → ℕ → Type 0
Counts k m n = ((k ≡ 0) × (n ≡ m)) ⊎ ((k ≡ 1) × (n ≡ risen m))

counts_more : (k j m n : ℕ) → Counts k m n → m < 2 ^ 64 → (l : ℕ) → l ≡ min (n + j) (2 ^ 64 - 1) → l ≡ min (m + (k + j)) (2 ^ 64 - 1)
counts_more k j m n (inl h) lt l e = omega (arith, h.0, h.1, e, lt)
counts_more k j m n (inr h) lt l e = omega (arith, h.0, h.1, e, lt)

counts_below : (k m n : ℕ) → Counts k m n → m < 2 ^ 64 → n < 2 ^ 64
counts_below k m n (inl h) lt = omega (arith, h.1, lt)
counts_below k m n (inr h) lt = omega (arith, h.1, lt)

module _ {M C R H K : Type 0} where
  of : {s t : SessionModel M C R H K} → s ≡ t → s.denied ≡ t.denied
  of h = ap (λ (u : SessionModel M C R H K). u.denied) h

  past_denied : (s t : SessionModel M C R H K) (at : ℕ) (f : PastFault) → IsPastFault (counted s) t at f → Counts (past_denials f) s.denied t.denied
  past_denied s t at (PastAhead a) h = inl (refl, of h.1)
  past_denied s t at (PastDenied NoCopy) h = inr (refl, of h)
  past_denied s t at (PastDenied (Long a b)) h = inr (refl, of h.0)
  past_denied s t at (PastDenied (Book a b)) h = absurd h
  past_denied s t at PastMemory h = inl (refl, of h)

module _ {M C R H K : Type 0} (step : M → C → (M × (R × K)) ⊎ R) (opening : List M) where
  answered_denied : (s t : SessionModel M C R H K) (n : ℕ) (v : View M) → IsAnswered step opening s t n v → t.denied ≡ s.denied
  answered_denied s t n v h =
      elim h.1 as (λ _. t.denied ≡ s.denied) [ inl r ↦ of r.kept | inr w ↦ of w.2.kept ∙ of w.1.read.kept ]

  unanswered_denied : (s t : SessionModel M C R H K) (n : ℕ) (f : ViewFault) → IsUnanswered step opening s t n f → Counts (view_denials f) s.denied t.denied
  unanswered_denied s t n (Ahead a) (inl (Refused d, e, r, p)) = absurd (cc e)
  unanswered_denied s t n (Ahead a) (inl (Memory, e, r, p)) = absurd (cc e)
  unanswered_denied s t n (Ahead a) (inr (m, o, v, p)) = inl (refl, of v.1 ∙ of o.read.kept)
  unanswered_denied s t n (NotTaught c) (inl (Refused NoCopy, e, r, p)) = inr (refl, of r)
  unanswered_denied s t n (NotTaught c) (inl (Refused (Long a b), e, r, p)) = absurd r
  unanswered_denied s t n (NotTaught c) (inl (Refused (Book a b), e, r, p)) = absurd r
  unanswered_denied s t n (NotTaught c) (inl (Memory, e, r, p)) = absurd (cc e)
  unanswered_denied s t n (NotTaught NoCopy) (inr (m, o, v, p)) = inr (refl, of v ∙ ap risen (of o.read.kept))
  unanswered_denied s t n (NotTaught (Long a b)) (inr (m, o, v, p)) = inr (refl, of v.0 ∙ ap risen (of o.read.kept))
  unanswered_denied s t n (NotTaught (Book a b)) (inr (m, o, v, p)) = absurd v
  unanswered_denied s t n NoMemory (inl (Refused d, e, r, p)) = absurd (cc e)
  unanswered_denied s t n NoMemory (inl (Memory, e, r, p)) = inl (refl, of r)
  unanswered_denied s t n NoMemory (inr (m, o, v, p)) = inl (refl, of v ∙ of o.read.kept)

  recalled_denied : (s t : SessionModel M C R H K) (n at : ℕ) (v w : View M) → IsRecalled step opening s t n at v w → t.denied ≡ s.denied
  recalled_denied s t n at v w h = of h.past.kept ∙ answered_denied s h.between n v h.first

module _ {M C R H K Q : Type 0} (step : M → C → (M × (R × K)) ⊎ R) (opening : List M) (least : Q → ℕ) where
  turn_denied : (s t : SessionModel M C R H K) (u : Turn M C R H K Q) → IsTurn step opening least s u t → Counts (denials_of u) s.denied t.denied
  turn_denied s t Passed h = inl (refl, of h)
  turn_denied s t (Decided cmd r) h =
      elim h.receipt.decided as (λ _. Counts 0 s.denied t.denied) [ inl d ↦ inl (refl, of d.1.session) | inr d ↦ inl (refl, of d.1.session) ]
  turn_denied s t (Undecided cmd Memory) h = inl (refl, of h.0)
  turn_denied s t (Undecided cmd (Refused NoCopy)) h = inr (refl, of h.0)
  turn_denied s t (Undecided cmd (Refused (Long a b))) h = inr (refl, of h.0.0)
  turn_denied s t (Undecided cmd (Refused (Book a b))) h = inr (refl, of h.0.0)
  turn_denied s t (Unprepared cmd Memory) h = inl (refl, of h.0)
  turn_denied s t (Unprepared cmd (Refused NoCopy)) h = inr (refl, of h.0)
  turn_denied s t (Unprepared cmd (Refused (Long a b))) h = absurd h.0
  turn_denied s t (Unprepared cmd (Refused (Book a b))) h = absurd h.0
  turn_denied s t (Answered query v) h =
      inl (refl, answered_denied step opening s t (least query) v h)
  turn_denied s t (Unanswered query f) h = unanswered_denied step opening s t (least query) f h
  turn_denied s t (Recalled query at v w) h = inl (refl, recalled_denied step opening s t (least query) at v w h)
  turn_denied s t (Unread query at f) h = unanswered_denied step opening s t (least query) f h
  turn_denied s t (Unrecalled query at f) h =
      subst (λ (k : ℕ). Counts (past_denials f) k t.denied) (answered_denied step opening s h.between (least query) h.view h.first) (past_denied h.between t at f h.fault)
  turn_denied s t (Compared query since upto v old new) h = inl (refl, of h.newer.kept ∙ recalled_denied step opening s h.between (least query) since v old h.older)
  turn_denied s t (Reversed query since upto v old) h = inl (refl, recalled_denied step opening s t (least query) since v old h.older)
  turn_denied s t (UnreadSpan query since upto f) h = unanswered_denied step opening s t (least query) f h
  turn_denied s t (Uncompared query since upto at f) h =
      elim h as (λ _. Counts (past_denials f) s.denied t.denied) [
        | inl u ↦ subst (λ (k : ℕ). Counts (past_denials f) k t.denied) (answered_denied step opening s u.1.between (least query) u.1.view u.1.first) (past_denied u.1.between t since f u.1.fault)
        | inr u ↦ subst (λ (k : ℕ). Counts (past_denials f) k t.denied) (recalled_denied step opening s u.between (least query) since u.view u.old u.older) (past_denied u.between t at f u.fault)
      ]

  pub denials_counted : DenialLaw H step opening least
  denials_counted s t [] lt h = let e = of h in omega (arith, e, lt)
  denials_counted s t (u ∷ us) lt h =
      let one = turn_denied s h.0 u h.1 in
      counts_more (denials_of u) (denials us) s.denied h.0.denied one lt t.denied (denials_counted h.0 t us (counts_below (denials_of u) s.denied h.0.denied one lt) h.2)
