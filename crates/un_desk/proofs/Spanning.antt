-- The entries between two versions, which are gathered in rounds.
use Rattle.std.proofs.Common.{◌≡◌, ◌⊎◌, ◌≤◌, ℕ, ◌+◌, ◌-◌, List, [], ◌++◌, length, take, drop, ap, subst, sym, ◌∙◌, arith}
use Rattle.std.proofs.Math.Seq.{take-add}
use Rattle.std.proofs.lemmas.List.{take-append-le, drop-drop, drop-take}
use mathlib.Core.List.{IsPrefix}
use Rattle.un_machine.specs.declared.Entry.{Entry}
use Rattle.un_machine.specs.Logs.{Leads}
use Rattle.un_asof.specs.Pasts.{IsAfter}
use Rattle.un_asof.proofs.Leading.{leads_between, leads_same}

module _ {A : Type 0} where
  -- k elements after the first v are the same in a longer list
  pub same_between : (xs ys : List A) (v k : ℕ) → IsPrefix xs ys → v + k ≤ length xs → take k (drop v ys) ≡ take k (drop v xs)
  same_between xs ys v k begins within =
      let front : take (v + k) ys ≡ take (v + k) xs = ap (λ (l : List A). take (v + k) l) (sym begins.1) ∙ take-append-le (v + k) xs begins.0 within in
      sym (drop-take v k ys) ∙ (ap (λ (l : List A). drop v l) front ∙ drop-take v k xs)

  -- m elements after the first v, and then n more
  more_between : (ys : List A) (v m n : ℕ) → take (m + n) (drop v ys) ≡ take m (drop v ys) ++ take n (drop (v + m) ys)
  more_between ys v m n = take-add m n (drop v ys) ∙ ap (λ (l : List A). take m (drop v ys) ++ take n l) (drop-drop m v ys)

  -- at first nothing is gathered
  pub gathered_none : {G : Type 0} (stands : G → List A → Type 0) (first : G) (xs : List A) (v : ℕ) → stands first [] → stands first (take (v - v) (drop v xs))
  gathered_none stands first xs v empty =
      let none : v - v ≡ 0 = omega arith in
      subst (λ (k : ℕ). stands first (take k (drop v xs))) (sym none) empty

  -- a round gathers n more, of a list that is no shorter than before
  pub gathered_on : {G : Type 0} (stands : G → List A → Type 0) (before after : G) (xs ys : List A) (v from n : ℕ) → IsPrefix xs ys → v ≤ from → from ≤ length xs
      → stands before (take (from - v) (drop v xs)) → ((zs : List A) → stands before zs → stands after (zs ++ take n (drop from ys)))
      → stands after (take (from + n - v) (drop v ys))
  gathered_on stands before after xs ys v from n begins above within so_far next =
      let m = from - v in
      let here : v + m ≡ from = omega arith in
      let all : from + n - v ≡ m + n = omega arith in
      let same : take m (drop v ys) ≡ take m (drop v xs) = same_between xs ys v m begins (omega arith) in
      let parts : take (from + n - v) (drop v ys) ≡ take m (drop v ys) ++ take n (drop from ys) =
      ap (λ (k : ℕ). take k (drop v ys)) all ∙ (more_between ys v m n ∙ ap (λ (k : ℕ). take m (drop v ys) ++ take n (drop k ys)) here) in
      subst (λ (l : List A). stands after l) (sym parts) (next (take m (drop v ys)) (subst (λ (l : List A). stands before l) (sym same) so_far))

module _ {M C R H K : Type 0} (step : M → C → (M × (R × K)) ⊎ R) (opening : List M) where
  leads_more : (seen : List (Entry M C R H K)) (v k : ℕ) (s t : M) → IsAfter step opening seen (v, s) → IsAfter step opening seen (v + k, t) → Leads step s (take k (drop v seen)) t
  leads_more seen v k s t older newer =
      let o : older.1.0 ≡ newer.1.0 = cc (sym older.1.1 ∙ newer.1.1) in
      let front : Leads step newer.1.0 (take v seen) s = subst (λ (z : M). Leads step z (take v seen) s) o older.1.2 in
      let whole : Leads step newer.1.0 (take v seen ++ take k (drop v seen)) t = subst (λ (l : List (Entry M C R H K)). Leads step newer.1.0 l t) (take-add v k seen) newer.1.2 in
      let between = leads_between step newer.1.0 (take v seen) (take k (drop v seen)) t whole in
      subst (λ (z : M). Leads step z (take k (drop v seen)) t) (leads_same step newer.1.0 (take v seen) between.0 s between.1 front) between.2

  -- the entries from one version on to another lead from the state of the one to the state of the other
  pub leads_from_to : (seen : List (Entry M C R H K)) (v w : ℕ) (s t : M) → v ≤ w → IsAfter step opening seen (v, s) → IsAfter step opening seen (w, t) → Leads step s (take (w - v) (drop v seen)) t
  leads_from_to seen v w s t order older newer =
      let sum : w ≡ v + (w - v) = omega arith in
      leads_more seen v (w - v) s t older (subst (λ (n : ℕ). IsAfter step opening seen (n, t)) sum newer)
