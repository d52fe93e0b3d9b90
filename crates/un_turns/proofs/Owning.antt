-- The entries that are a session's own, after each turn.
use Rattle.std.proofs.Common.{◌≡◌, ◌==◌, ◌⊎◌, ◌≤◌, ◌+◌, ℕ, List, [], ◌∷◌, ◌++◌, length, map, take, refl, ap, sym, ◌∙◌, subst, inl, inr, arith, append_assoc, length-append}
use Rattle.std.specs.Prelude.{flat_map}
use Rattle.std.proofs.lemmas.Bool.Decides.{nat_tests}
use Rattle.std.proofs.lemmas.List.{take-append-le, take_all, append-nil, map-append}
use Rattle.std.proofs.lemmas.List.Elements.{filter-append}
use mathlib.Core.List.{IsPrefix}
use Rattle.un_machine.specs.declared.Entry.{Entry}
use Rattle.un_machine.specs.Logs.{entries_of}
use Rattle.un_publish.specs.Models.{SessionModel, risen}
use Rattle.un_journal.specs.Books.{entry}
use Rattle.un_journal.specs.declared.receipt.Receipt.{Receipt}
use Rattle.un_desk.specs.Desks.{IsSubmitted}
use Rattle.un_turns.specs.Own.{own_entries, IsWithin}
use Rattle.un_turns.specs.Turns.{Turn, Passed, Decided, Undecided, Unprepared, Answered, Unanswered, Recalled, Unread, Unrecalled, Compared, Reversed, UnreadSpan, Uncompared, IsTurn}
use Rattle.un_turns.specs.Conversations.{Conversed, accepted_by, accepted_of, waits_of, decision, OwnLaw}
use Rattle.un_turns.proofs.Turning.{IsMove, move, turn_moves}

module _ {M C R H K : Type 0} where
  -- what a longer log has of a session begins with what a shorter one has
  split_own : (n : ℕ) (xs ys : List (Entry M C R H K)) (p : IsPrefix xs ys) → entries_of n ys ≡ entries_of n xs ++ entries_of n p.0
  split_own n xs ys p = ap (λ (l : List (Entry M C R H K)). entries_of n l) (sym p.1) ∙ filter-append (λ (e : Entry M C R H K). e.session == n) xs p.0

  same_first : (n k : ℕ) (xs ys : List (Entry M C R H K)) → IsPrefix xs ys → k ≤ length (entries_of n xs) → take k (entries_of n ys) ≡ take k (entries_of n xs)
  same_first n k xs ys p le = ap (λ (l : List (Entry M C R H K)). take k l) (split_own n xs ys p) ∙ take-append-le k (entries_of n xs) (entries_of n p.0) le

  still_within : (n k : ℕ) (xs ys : List (Entry M C R H K)) → IsPrefix xs ys → k ≤ length (entries_of n xs) → k ≤ length (entries_of n ys)
  still_within n k xs ys p le =
      let e = ap length (split_own n xs ys p) ∙ length-append (entries_of n xs) (entries_of n p.0) in
      omega (arith, e, le)

  -- the session's own entries stay where it accepted nothing
  own_same : (s t : SessionModel M C R H K) (a : ℕ) → IsMove s t 0 a → IsWithin s → own_entries t ≡ own_entries s
  own_same s t a m w =
      let own : t.own ≡ s.own = omega (arith, m.own) in
      rw (own, m.number) (same_first s.number s.own s.seen t.seen m.seen w)

  within_same : (s t : SessionModel M C R H K) (a : ℕ) → IsMove s t 0 a → IsWithin s → IsWithin t
  within_same s t a m w =
      let own : t.own ≡ s.own = omega (arith, m.own) in
      rw (own, m.number) (still_within s.number s.own s.seen t.seen m.seen w)

  own_entry : (n : ℕ) (e : Entry M C R H K) → e.session ≡ n → entries_of n (e ∷ []) ≡ e ∷ []
  own_entry n e h = grind (arith, nat_tests)

  -- what a turn adds to the session's own entries
  pub record Grows (s t : SessionModel M C R H K) (done : List (C × R)) : Type 0 where
    pub within : IsWithin t
    pub more : List (Entry M C R H K)
    pub own : own_entries t ≡ own_entries s ++ more
    pub are : map decision more ≡ done

  grows_none : (s t : SessionModel M C R H K) (a : ℕ) → IsMove s t 0 a → IsWithin s → Grows s t []
  grows_none s t a m w = record {
    within = within_same s t a m w;
    more = [];
    own = own_same s t a m w ∙ sym (append-nil (own_entries s));
    are = refl;
  }

  -- a log that has one more entry of the session than it knew of
  grows_one : (s t : SessionModel M C R H K) (log : List (Entry M C R H K)) (e : Entry M C R H K)
      → t.number ≡ s.number → t.own ≡ s.own + 1 → IsPrefix s.seen t.seen → t.seen ≡ log ++ e ∷ [] → e.session ≡ s.number
      → length (entries_of s.number log) ≡ s.own → IsWithin s → Grows s t (decision e ∷ [])
  grows_one s t log e number own seen grown mine book w =
      let E = entries_of s.number log in
      let all : entries_of s.number t.seen ≡ E ++ e ∷ [] =
      ap (λ (l : List (Entry M C R H K)). entries_of s.number l) grown ∙ filter-append (λ (x : Entry M C R H K). x.session == s.number) log (e ∷ []) ∙ ap (λ (l : List (Entry M C R H K)). E ++ l) (own_entry s.number e mine) in
      let count : length (entries_of s.number t.seen) ≡ s.own + 1 = ap length all ∙ length-append E (e ∷ []) ∙ ap (λ (n : ℕ). n + 1) book in
      let before : own_entries s ≡ E =
      sym (same_first s.number s.own s.seen t.seen seen w) ∙ ap (λ (l : List (Entry M C R H K)). take s.own l) all
      ∙ take-append-le s.own E (e ∷ []) (omega (arith, book)) ∙ take_all s.own E (omega (arith, book)) in
      record {
        within = rw (own, number) (omega (arith, count));
        more = e ∷ [];
        own = (rw (own, number) (take_all (s.own + 1) (entries_of s.number t.seen) (omega (arith, count)))) ∙ all ∙ ap (λ (l : List (Entry M C R H K)). l ++ e ∷ []) (sym before);
        are = refl;
      }

module _ {M C R H K : Type 0} (step : M → C → (M × (R × K)) ⊎ R) (opening : List M) where
  decided_grows : (s t : SessionModel M C R H K) (cmd : C) (r : Receipt M C R H K) → IsWithin s → IsSubmitted step opening s t cmd r
      → Grows s t (accepted_by cmd r)
  decided_grows s t cmd r w h =
      elim h.receipt.decided as (λ _. Grows s t (accepted_by cmd r)) [
        | inl d ↦
            rw d.0 (grows_one s t h.before.log (entry h.before.log s.number cmd r.reply d.1.mark)
            (ap (λ (x : SessionModel M C R H K). x.number) d.1.session) (ap (λ (x : SessionModel M C R H K). x.own) d.1.session)
            h.seen (h.receipt.seen ∙ d.1.log) refl h.receipt.book w)
        | inr d ↦
            rw d.0 (grows_none s t 1 (move s t h.before.log s.own s.denied (risen s.waits) 0 1 d.1.session h.seen (omega arith) (omega arith)) w)
      ]

module _ {M C R H K Q : Type 0} (step : M → C → (M × (R × K)) ⊎ R) (opening : List M) (least : Q → ℕ) where
  turn_grows : (s t : SessionModel M C R H K) (u : Turn M C R H K Q) → IsWithin s → IsTurn step opening least s u t → Grows s t (accepted_of u)
  turn_grows s t Passed w h = grows_none s t 0 (turn_moves step opening least 0 s t Passed (omega arith) h) w
  turn_grows s t (Decided cmd r) w h = decided_grows step opening s t cmd r w h
  turn_grows s t (Undecided cmd f) w h = grows_none s t 1 (turn_moves step opening least 0 s t (Undecided cmd f) (omega arith) h) w
  turn_grows s t (Unprepared cmd f) w h = grows_none s t 0 (turn_moves step opening least 0 s t (Unprepared cmd f) (omega arith) h) w
  turn_grows s t (Answered query v) w h = grows_none s t (waits_of {M = M} {C = C} {R = R} {H = H} {K = K} least 0 (Answered query v)) (turn_moves step opening least 0 s t (Answered query v) (omega arith) h) w
  turn_grows s t (Unanswered query f) w h = grows_none s t (waits_of {M = M} {C = C} {R = R} {H = H} {K = K} least 0 (Unanswered query f)) (turn_moves step opening least 0 s t (Unanswered query f) (omega arith) h) w
  turn_grows s t (Recalled query at u v) w h = grows_none s t (waits_of {M = M} {C = C} {R = R} {H = H} {K = K} least 0 (Recalled query at u v)) (turn_moves step opening least 0 s t (Recalled query at u v) (omega arith) h) w
  turn_grows s t (Unread query at f) w h = grows_none s t (waits_of {M = M} {C = C} {R = R} {H = H} {K = K} least 0 (Unread query at f)) (turn_moves step opening least 0 s t (Unread query at f) (omega arith) h) w
  turn_grows s t (Unrecalled query at f) w h = grows_none s t (waits_of {M = M} {C = C} {R = R} {H = H} {K = K} least 0 (Unrecalled query at f)) (turn_moves step opening least 0 s t (Unrecalled query at f) (omega arith) h) w
  turn_grows s t (Compared query since upto v old new) w h = grows_none s t (waits_of {M = M} {C = C} {R = R} {H = H} {K = K} least 0 (Compared query since upto v old new)) (turn_moves step opening least 0 s t (Compared query since upto v old new) (omega arith) h) w
  turn_grows s t (Reversed query since upto v old) w h = grows_none s t (waits_of {M = M} {C = C} {R = R} {H = H} {K = K} least 0 (Reversed query since upto v old)) (turn_moves step opening least 0 s t (Reversed query since upto v old) (omega arith) h) w
  turn_grows s t (UnreadSpan query since upto f) w h = grows_none s t (waits_of {M = M} {C = C} {R = R} {H = H} {K = K} least 0 (UnreadSpan query since upto f)) (turn_moves step opening least 0 s t (UnreadSpan query since upto f) (omega arith) h) w
  turn_grows s t (Uncompared query since upto at f) w h = grows_none s t (waits_of {M = M} {C = C} {R = R} {H = H} {K = K} least 0 (Uncompared query since upto at f)) (turn_moves step opening least 0 s t (Uncompared query since upto at f) (omega arith) h) w

  pub all_grow : (s t : SessionModel M C R H K) (us : List (Turn M C R H K Q)) → IsWithin s → Conversed step opening least s us t → Grows s t (flat_map accepted_of us)
  all_grow s t [] w h = record {
    within = subst (λ (x : SessionModel M C R H K). IsWithin x) (sym h) w;
    more = [];
    own = ap (λ (x : SessionModel M C R H K). own_entries x) h ∙ sym (append-nil (own_entries s));
    are = refl;
  }
  all_grow s t (u ∷ us) w h =
      let one = turn_grows s h.0 u w h.1 in
      let rest = all_grow h.0 t us one.within h.2 in
      record {
        within = rest.within;
        more = one.more ++ rest.more;
        own = rest.own ∙ ap (λ (l : List (Entry M C R H K)). l ++ rest.more) one.own ∙ append_assoc (own_entries s) one.more rest.more;
        are = map-append decision one.more rest.more ∙ ap (λ (l : List (C × R)). l ++ map decision rest.more) one.are ∙ ap (λ (l : List (C × R)). accepted_of u ++ l) rest.are;
      }

  pub own_grow : OwnLaw H step opening least
  own_grow s t us w h = let g = all_grow s t us w h in (g.within, (g.more, g.own, g.are))
