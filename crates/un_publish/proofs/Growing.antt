-- A log that grows by one entry.
use Rattle.std.proofs.Common.{◌≡◌, ◌⊎◌, List, [], ◌∷◌, ◌++◌, refl, sym, ap, subst, inl, ◌∙◌, Option, Some, ◌+◌, length, take, slice_get, ⊎_elim, arith}
use Rattle.std.proofs.lemmas.List.{take-append-le, take_all}
use Rattle.un_publish.proofs.Fresh.{get_snoc, get_below}
use Rattle.un_publish.specs.Models.{BoardModel}
use Rattle.un_machine.specs.declared.Entry.{Entry}
use Rattle.un_machine.specs.Logs.{Leads, Reaches, IsNumbered, entries_of}

module _ {M C R H K : Type 0} where
  pub numbered_more : (log : List (Entry M C R H K)) (e : Entry M C R H K) → IsNumbered log → e.n ≡ length (entries_of e.session log) + 1 → IsNumbered (log ++ e ∷ [])
  numbered_more log e all n k x h = ⊎_elim
      (λ (old : slice_get log k ≡ Some x). let below = get_below log k x old in rw (take-append-le k log (e ∷ []) (omega arith)) (all k x old))
      (λ (new : (k ≡ length log) × (e ≡ x)).
      let whole : take k (log ++ e ∷ []) ≡ log = rw (new.0) (take-append-le (length log) log (e ∷ []) (omega arith) ∙ take_all (length log) log (omega arith)) in
      rw (← new.1, whole) n)
      (get_snoc log e k x h)

module _ {M C R H K : Type 0} (step : M → C → (M × (R × K)) ⊎ R) where
  pub leads_more : (s : M) (log : List (Entry M C R H K)) (t : M) (e : Entry M C R H K) (u : M)
      → Leads step s log t → step t e.cmd ≡ inl (u, (e.reply, e.mark)) → Leads step s (log ++ e ∷ []) u
  leads_more s [] t e u l h = (u, subst (λ (x : M). step x e.cmd ≡ inl (u, (e.reply, e.mark))) (sym l) h, refl)
  leads_more s (x ∷ xs) t e u l h = (l.0, l.1, leads_more l.0 xs t e u l.2 h)

  pub reaches_more : (opening : List M) (log : List (Entry M C R H K)) (t : M) (e : Entry M C R H K) (u : M)
      → Reaches step opening log t → step t e.cmd ≡ inl (u, (e.reply, e.mark)) → e.n ≡ length (entries_of e.session log) + 1 → Reaches step opening (log ++ e ∷ []) u
  reaches_more opening log t e u r h n = (r.0, r.1, leads_more r.0 log t e u r.2 h, numbered_more log e r.3 n)

  -- the state that is staged is the one to which the step leads
  pub staged_more : (opening : List M) (log : List (Entry M C R H K)) (t : M) (e : Entry M C R H K) (stage : Option M) (old : BoardModel M C R H K) (u : M)
      → record { log = log; state = t; staged = stage } ≡ old
      → (s : M) × (old.staged ≡ Some s) × (step old.state e.cmd ≡ inl (s, (e.reply, e.mark)))
      → e.n ≡ length (entries_of e.session old.log) + 1
      → Some u ≡ old.staged
      → Reaches step opening log t → Reaches step opening (log ++ e ∷ []) u
  staged_more opening log t e stage old u view asked n is r =
      let staged : Some u ≡ Some asked.0 = is ∙ asked.1 in
      let same : u ≡ asked.0 = cc in
      let steps : step t e.cmd ≡ inl (asked.0, (e.reply, e.mark)) = ap (λ (b : BoardModel M C R H K). step b.state e.cmd) view ∙ asked.2 in
      reaches_more opening log t e u r (steps ∙ ap (λ (s : M). inl (s, (e.reply, e.mark))) (sym same)) (n ∙ ap (λ (b : BoardModel M C R H K). length (entries_of e.session b.log) + 1) (sym view))
