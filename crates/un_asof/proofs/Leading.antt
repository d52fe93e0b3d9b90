-- Where two lists of entries lead, one after the other, and which beginnings of a legal log are legal.
use Rattle.std.proofs.Common.{◌≡◌, ◌⊎◌, ℕ, zero, suc, get_or, add-one, drop-cons, ◌≤◌, ◌<◌, ◌+◌, List, [], ◌∷◌, ◌++◌, length, take, drop, refl, sym, ap, ◌∙◌, subst, inl, arith, Some, slice_get}
use Rattle.std.proofs.lemmas.List.{take-append-le, take-append-drop, drop_all}
use Rattle.un_machine.specs.declared.Entry.{Entry}
use Rattle.un_machine.specs.Logs.{Leads, IsNumbered}

one_next : {M R K : Type 0} (x : (M × (R × K)) ⊎ R) (p q : M × (R × K)) → x ≡ inl p → x ≡ inl q → p ≡ q
one_next x p q a b = cc

module _ {M C R H K : Type 0} (step : M → C → (M × (R × K)) ⊎ R) where
  pub leads_both : (s : M) (xs ys : List (Entry M C R H K)) (m t : M) → Leads step s xs m → Leads step m ys t → Leads step s (xs ++ ys) t
  leads_both s [] ys m t a b = subst (λ (z : M). Leads step z ys t) (sym a) b
  leads_both s (x ∷ xs) ys m t a b = (a.0, a.1, leads_both a.0 xs ys m t a.2 b)

  pub leads_between : (s : M) (xs ys : List (Entry M C R H K)) (t : M) → Leads step s (xs ++ ys) t → (m : M) × Leads step s xs m × Leads step m ys t
  leads_between s [] ys t h = (s, refl, h)
  leads_between s (x ∷ xs) ys t h = let r = leads_between h.0 xs ys t h.2 in (r.0, (h.0, h.1, r.1), r.2)

  -- a step again leads to the same state
  pub same_next : (s : M) (e : Entry M C R H K) (t u : M) → step s e.cmd ≡ inl (t, (e.reply, e.mark)) → step s e.cmd ≡ inl (u, (e.reply, e.mark)) → t ≡ u
  same_next s e t u a b = ap (λ (p : M × (R × K)). p.0) (one_next (step s e.cmd) (t, (e.reply, e.mark)) (u, (e.reply, e.mark)) a b)

  -- entries lead to one state alone
  pub leads_same : (s : M) (xs : List (Entry M C R H K)) (t u : M) → Leads step s xs t → Leads step s xs u → t ≡ u
  leads_same s [] t u a b = sym a ∙ b
  leads_same s (x ∷ xs) t u a b =
      let here : a.0 ≡ b.0 = same_next s x a.0 b.0 a.1 b.1 in
      leads_same b.0 xs t u (subst (λ (z : M). Leads step z xs t) here a.2) b.2

-- what stands in a beginning of a list stands in the list
get_more : {A : Type 0} (xs ys : List A) (k : ℕ) (x : A) → slice_get xs k ≡ Some x → (k < length xs) × (slice_get (xs ++ ys) k ≡ Some x)
get_more [] ys k x h = absurd cc
get_more (z ∷ zs) ys zero x h = (omega arith, h)
get_more (z ∷ zs) ys (suc k) x h = let r = get_more zs ys k x h in (let l = r.0 in omega arith, r.1)

module _ {M C R H K : Type 0} where
  -- a beginning of a legal log is legal
  numbered_front : (xs ys : List (Entry M C R H K)) → IsNumbered (xs ++ ys) → IsNumbered xs
  numbered_front xs ys all k e h =
      let r = get_more xs ys k e h in
      let within = r.0 in
      let same : take k (xs ++ ys) ≡ take k xs = take-append-le k xs ys (omega arith) in
      rw same at (all k e r.1)

  pub numbered_take : (n : ℕ) (log : List (Entry M C R H K)) → IsNumbered log → IsNumbered (take n log)
  numbered_take n log all = numbered_front (take n log) (drop n log) (rw take-append-drop all)

module _ {M C R H K : Type 0} (step : M → C → (M × (R × K)) ⊎ R) where
  -- the first of the entries that are left is done, and the others lead on from there
  pub next_leads : (s : M) (entries : List (Entry M C R H K)) (i : ℕ) (e : Entry M C R H K) (t : M) → i < length entries → e ≡ get_or entries i e → Leads step s (drop i entries) t
      → (m : M) × (step s e.cmd ≡ inl (m, (e.reply, e.mark))) × Leads step m (drop (i + 1) entries) t
  next_leads s entries i e t lt is h =
      let parts : drop i entries ≡ e ∷ drop (i + 1) entries = rw add-one (drop-cons entries i e lt ∙ ap (λ (x : Entry M C R H K). x ∷ drop (suc i) entries) (sym is)) in
      subst (λ (l : List (Entry M C R H K)). Leads step s l t) parts h

  -- so from any state to which its step leads
  pub next_leads_from : (s : M) (entries : List (Entry M C R H K)) (i : ℕ) (e : Entry M C R H K) (t m : M) → i < length entries → e ≡ get_or entries i e → Leads step s (drop i entries) t
      → step s e.cmd ≡ inl (m, (e.reply, e.mark)) → Leads step m (drop (i + 1) entries) t
  next_leads_from s entries i e t m lt is h done =
      let n = next_leads s entries i e t lt is h in
      subst (λ (z : M). Leads step z (drop (i + 1) entries) t) (same_next step s e n.0 m n.1 done) n.2

  -- where nothing is left, the state is reached
  pub all_led : (s : M) (entries : List (Entry M C R H K)) (n : ℕ) (t : M) → length entries ≤ n → Leads step s (drop n entries) t → s ≡ t
  all_led s entries n t le h = subst (λ (l : List (Entry M C R H K)). Leads step s l t) (drop_all n entries le) h
