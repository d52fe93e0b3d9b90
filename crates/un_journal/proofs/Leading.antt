-- From the state at which a hint was prepared the entries since then lead to this state.
use Rattle.std.proofs.Common.{◌≡◌, ◌⊎◌, ℕ, zero, suc, List, [], ◌∷◌, length, take, drop, sym, ap, ◌∙◌, subst, inl, arith, ◌-◌, length-drop}
use Rattle.std.proofs.lemmas.List.{take_all}
use Rattle.un_machine.specs.declared.Entry.{Entry}
use Rattle.un_machine.specs.Logs.{Leads, Since, Reaches}
use Rattle.un_journal.specs.Books.{IsPrepared}

one_next : {M R K : Type 0} (x : (M × (R × K)) ⊎ R) (p q : M × (R × K)) → x ≡ inl p → x ≡ inl q → p ≡ q
one_next x p q a b = cc

module _ {M C R H K : Type 0} (step : M → C → (M × (R × K)) ⊎ R) where
  -- a beginning of the log leads to one state, and the rest leads on from it
  pub leads_on : (o : M) (n : ℕ) (log : List (Entry M C R H K)) (s t : M) → Leads step o (take n log) s → Leads step o log t → Leads step s (drop n log) t
  leads_on o zero log s t a b = subst (λ (z : M). Leads step z log t) a b
  leads_on o (suc n) [] s t a b = sym a ∙ b
  leads_on o (suc n) (e ∷ es) s t a b =
      let here : a.0 ≡ b.0 = ap (λ (p : M × (R × K)). p.0) (one_next (step o e.cmd) (a.0, (e.reply, e.mark)) (b.0, (e.reply, e.mark)) a.1 b.1) in
      leads_on b.0 n es s t (subst (λ (z : M). Leads step z (take n es) s) here a.2) b.2

  pub since_prepared : (prepared : H → M → Type 0) (place : H → ℕ) (opening : List M) (log : List (Entry M C R H K)) (t : M) (h : H)
      → IsPrepared step prepared place opening log h → Reaches step opening log t → Since step prepared h (drop (place h) log) t
  since_prepared prepared place opening log t h p r =
      let o : p.1.1.0 ≡ r.0 = cc (sym p.1.1.1 ∙ r.1) in
      (p.1.0, p.1.2, leads_on r.0 (place h) log p.1.0 t (subst (λ (z : M). Leads step z (take (place h) log) p.1.0) o p.1.1.2) r.2)

pub take_rest : {A : Type 0} (n : ℕ) (xs : List A) → take (length xs - n) (drop n xs) ≡ drop n xs
take_rest n xs = take_all (length xs - n) (drop n xs) (omega (arith, length-drop n xs))
