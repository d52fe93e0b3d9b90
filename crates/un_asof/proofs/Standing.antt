-- For which logs the pairs of a past are right.
use Rattle.std.proofs.Common.{◌≡◌, ◌⊎◌, ℕ, ◌≤◌, ◌+◌, Bool, true, false, cond, List, [], ◌∷◌, ◌++◌, length, take, drop, refl, sym, ap, ◌∙◌, subst, arith, ◌==◌}
use Rattle.std.specs.Prelude.{filter, remove, nat_le, nat_lt}
use Rattle.std.proofs.Math.Seq.{take-add}
use Rattle.std.proofs.lemmas.List.{take-append-le, take-append-drop}
use Rattle.std.proofs.lemmas.List.Elements.{All-weaker, All-append, All-cons, All-nil, All-filter, All-take, All-drop, All-contains}
use mathlib.Core.List.{IsPrefix}
use Rattle.un_machine.specs.declared.Entry.{Entry}
use Rattle.un_machine.specs.Logs.{Leads, Reaches, IsNumbered}
use Rattle.un_publish.proofs.Prefixes.{prefix_length}
use Rattle.un_asof.specs.Pasts.{IsAfter, IsNearest, StandsFor, with_room, put, keeping, has_version}
use Rattle.un_asof.proofs.Leading.{leads_both, leads_between, leads_same, numbered_take}

module _ {M C R H K : Type 0} (step : M → C → (M × (R × K)) ⊎ R) (opening : List M) where
  after_longer : (log longer : List (Entry M C R H K)) (p : ℕ × M) → IsPrefix log longer → IsAfter step opening log p → IsAfter step opening longer p
  after_longer log longer p begins is =
      let more = prefix_length log longer begins in
      let front : take p.0 longer ≡ take p.0 log = ap (λ (l : List (Entry M C R H K)). take p.0 l) (sym begins.1) ∙ take-append-le p.0 log begins.0 is.0 in
      (let w = is.0 in omega arith, subst (λ (l : List (Entry M C R H K)). Reaches step opening l p.1) (sym front) is.1)

  pub stands_for_longer : (past : List (ℕ × M)) (log longer : List (Entry M C R H K)) → IsPrefix log longer → StandsFor step opening past log → StandsFor step opening past longer
  stands_for_longer past log longer begins stands =
      All-weaker (IsAfter step opening log) (IsAfter step opening longer) (λ p is. after_longer log longer p begins is) past stands

  -- the entries of a legal log after the first v of them lead from the state after these
  rest_leads : (log : List (Entry M C R H K)) (last : M) (v : ℕ) (s : M) → Reaches step opening log last → IsAfter step opening log (v, s) → Leads step s (drop v log) last
  rest_leads log last v s all is =
      let o : is.1.0 ≡ all.0 = cc (sym is.1.1 ∙ all.1) in
      let front : Leads step all.0 (take v log) s = subst (λ (z : M). Leads step z (take v log) s) o is.1.2 in
      let whole : Leads step all.0 (take v log ++ drop v log) last = subst (λ (l : List (Entry M C R H K)). Leads step all.0 l last) (sym (take-append-drop v log)) all.2 in
      let between = leads_between step all.0 (take v log) (drop v log) last whole in
      subst (λ (z : M). Leads step z (drop v log) last) (leads_same step all.0 (take v log) between.0 s between.1 front) between.2

  pub entries_lead_on : (log : List (Entry M C R H K)) (last : M) (v k : ℕ) (s : M) → Reaches step opening log last → IsAfter step opening log (v, s)
      → (t : M) × Leads step s (take k (drop v log)) t
  entries_lead_on log last v k s all is =
      let rest = rest_leads log last v s all is in
      let between = leads_between step s (take k (drop v log)) (drop k (drop v log)) last (subst (λ (l : List (Entry M C R H K)). Leads step s l last) (sym (take-append-drop k (drop v log))) rest) in
      (between.0, between.1)

  pub state_after_replay : (log : List (Entry M C R H K)) (last : M) (v k : ℕ) (s t : M) → Reaches step opening log last → IsAfter step opening log (v, s)
      → v + k ≤ length log → Leads step s (take k (drop v log)) t → IsAfter step opening log (v + k, t)
  state_after_replay log last v k s t all is within leads =
      let o = is.1.0 in
      let both : Leads step o (take v log ++ take k (drop v log)) t = leads_both step o (take v log) (take k (drop v log)) s t is.1.2 leads in
      (within, (o, is.1.1, subst (λ (l : List (Entry M C R H K)). Leads step o l t) (sym (take-add v k log)) both, numbered_take (v + k) log all.3))

  put_stands : (log : List (Entry M C R H K)) (past : List (ℕ × M)) (p : ℕ × M) → StandsFor step opening past log → IsAfter step opening log p → StandsFor step opening (put p past) log
  put_stands log past p stands is =
      let P = IsAfter step opening log in
      All-append P (filter (λ (q : ℕ × M). nat_le q.0 p.0) past) (p ∷ filter (λ (q : ℕ × M). nat_lt p.0 q.0) past) (All-filter (λ (q : ℕ × M). nat_le q.0 p.0) P past stands)
      (All-cons P p (filter (λ (q : ℕ × M). nat_lt p.0 q.0) past) is (All-filter (λ (q : ℕ × M). nat_lt p.0 q.0) P past stands))

  room_stands : (full : Bool) (log : List (Entry M C R H K)) (past : List (ℕ × M)) → StandsFor step opening past log → StandsFor step opening (cond full (remove past 1) past) log
  room_stands true log past stands =
      let P = IsAfter step opening log in
      All-append P (take 1 past) (drop 2 past) (All-take P 1 past stands) (All-drop P 2 past stands)
  room_stands false log past stands = stands

  -- a pair that is right joins those that are
  keeping_at : (kept : Bool) (log : List (Entry M C R H K)) (past : List (ℕ × M)) (p : ℕ × M) → StandsFor step opening past log → IsAfter step opening log p
      → StandsFor step opening (cond kept past (put p (with_room past))) log
  keeping_at true log past p stands is = stands
  keeping_at false log past p stands is = put_stands log (with_room past) p (room_stands (length past == 16) log past stands) is

  pub keeping_stands : (log : List (Entry M C R H K)) (past : List (ℕ × M)) (p : ℕ × M) → StandsFor step opening past log → IsAfter step opening log p → StandsFor step opening (keeping p past) log
  keeping_stands log past p stands is = keeping_at (has_version p.0 past) log past p stands is

  -- the opening state is the one after no entries
  pub opening_stands : (s : M) → opening ≡ s ∷ [] → (log : List (Entry M C R H K)) → StandsFor step opening ((0, s) ∷ []) log
  opening_stands s h log =
      let P = IsAfter step opening log in
      let numbered : IsNumbered (take 0 log) = λ k e at. absurd (cc at) in
      All-cons P (0, s) [] (omega arith, (s, h, refl, numbered)) (All-nil P)

  -- the nearest pair is right where the past is
  pub nearest_stands : (log : List (Entry M C R H K)) (past : List (ℕ × M)) (at : ℕ) (p : ℕ × M) → IsNearest past at p → StandsFor step opening past log → IsAfter step opening log p
  nearest_stands log past at p near stands = All-contains (IsAfter step opening log) past p stands near.kept
