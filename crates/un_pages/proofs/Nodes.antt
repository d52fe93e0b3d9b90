-- Pages, blocks and shelves: what a split, an insertion and a removal leave of what is asked of them.
use Rattle.std.proofs.Common.{◌≡◌, ℕ, zero, suc, ◌+◌, ◌-◌, ◌<◌, ◌≤◌, Bool, true, false, List, [], ◌∷◌, ◌++◌, length, take, drop, slice_get, Some, None, Option, IfSome, IsSome, cond, refl, sym, ◌∙◌, ap, subst, arith, length-take, length-drop}
use Rattle.std.proofs.lemmas.List.{take-append-drop}
use Rattle.std.specs.declared.cmp.Ordering.{Ordering}
use Rattle.std.specs.declared.cmp.Ordering.TheVariants.{Less, Equal, Greater}
use Rattle.std.specs.Ordering.{is_eq, is_lt, match_ordering}
use Rattle.std.specs.Cmp.{IsTotalOrder}
use Rattle.std.specs.Option.{is_some}
use Rattle.std.specs.List.Sorted.{IsStrictlySortedBy}
use Rattle.std.specs.Map.{lookup, remove_entry}
use Rattle.std.specs.BTreeMap.{insert_entry, is_at}
use Rattle.un_pages.specs.Pairs.{IsOrdered, IsAbove, IsBelow, IsFound, IsGap, IsPage, IsBranch, IsGrown, flat, past, IsCounted}
use Rattle.un_pages.proofs.Ordered.{above_lower, insert-below, insert_all_above, remove-below, remove_all_above, lookup-below, lookup_all_above, past-below, past_all_above, insert_ordered, remove_ordered, ordered-left, ordered-right}
use Rattle.un_pages.proofs.Rows.{around, flat-append, leads-take, leads-drop, slice_get-drop}

pub none_beyond : {A : Type 0} (l : List A) (i : ℕ) → length l ≤ i → slice_get l i ≡ None
none_beyond [] i h = refl
none_beyond (x ∷ l) zero h = absurd (omega arith)
none_beyond (x ∷ l) (suc i) h = none_beyond l i (omega arith)

pub nil_from_length : {A : Type 0} (l : List A) → length l ≡ 0 → l ≡ []
nil_from_length [] h = refl
nil_from_length (x ∷ l) h = absurd (omega arith)

-- ---- pairs read one after another

drop_at : {A : Type 0} (l : List A) (i : ℕ) (x : A) → slice_get l i ≡ Some x → drop i l ≡ x ∷ drop (suc i) l
drop_at [] i x e = cc
drop_at (y ∷ l) zero x e = let same : y ≡ x = cc in ap (λ z. z ∷ l) same
drop_at (y ∷ l) (suc i) x e = drop_at l i x e

module _ {K V : Type 0} (is : K → Bool) (row : List (K × V)) (i : ℕ) (x : K × V) (here : slice_get row i ≡ Some x) where
  pub lookup_here : is x.0 ≡ true → lookup is (drop i row) ≡ Some x.1
  lookup_here e = ap (lookup is) (drop_at row i x here) ∙ ap (λ b. cond b (Some x.1) (lookup is (drop (suc i) row))) e

  pub lookup_next : is x.0 ≡ false → lookup is (drop (i + 1) row) ≡ lookup is (drop i row)
  lookup_next e =
      let next : i + 1 ≡ suc i = omega arith in
      ap (λ j. lookup is (drop j row)) next ∙ sym (ap (lookup is) (drop_at row i x here) ∙ ap (λ b. cond b (Some x.1) (lookup is (drop (suc i) row))) e)

pub drop_end : {A : Type 0} (l : List A) (i : ℕ) → length l ≤ i → drop i l ≡ []
drop_end [] zero h = refl
drop_end [] (suc i) h = refl
drop_end (x ∷ l) zero h = absurd (omega arith)
drop_end (x ∷ l) (suc i) h = drop_end l i (omega arith)

module _ {K V : Type 0} {cmp : K → K → Ordering} (o : IsTotalOrder cmp) where
  pub ordered_take : (l : List (K × V)) (n : ℕ) → IsOrdered cmp l → IsOrdered cmp (take n l)
  ordered_take l n s = ordered-left o (take n l) (drop n l) (subst (IsOrdered cmp) (sym (take-append-drop n l)) s)

  pub ordered_drop : (l : List (K × V)) (n : ℕ) → IsOrdered cmp l → IsOrdered cmp (drop n l)
  ordered_drop l n s = ordered-right o (take n l) (drop n l) (subst (IsOrdered cmp) (sym (take-append-drop n l)) s)

  pub page_take : (l : List (K × V)) (n : ℕ) → IsOrdered cmp l → 0 < n → n ≤ 32 → n ≤ length l → IsPage cmp (take n l)
  page_take l n s some bound within = record { some = omega (arith, length-take n l); bound = omega (arith, length-take n l); ordered = ordered_take l n s }

  pub page_drop : (l : List (K × V)) (n : ℕ) → IsOrdered cmp l → n < length l → length l ≤ n + 32 → IsPage cmp (drop n l)
  page_drop l n s some bound = record { some = omega (arith, length-drop n l); bound = omega (arith, length-drop n l); ordered = ordered_drop l n s }

  module _ (key : K) where
    pub put_found : (row : List (K × V)) (i : ℕ) (x : K × V) (v : V) → IsFound cmp row key i → slice_get row i ≡ Some x → take i row ++ (((x.0, v) ∷ []) ++ drop (i + 1) row) ≡ insert_entry cmp row key v
    put_found row i x v f here =
        let same : cmp key x.0 ≡ Equal = subst (λ q. IfSome q (λ p. cmp key p.0 ≡ Equal)) here f.equal in
        let next : i + 1 ≡ suc i = omega arith in
        let step : insert_entry cmp (x ∷ drop (suc i) row) key v ≡ (x.0, v) ∷ drop (suc i) row = ap (λ r. match_ordering r ((key, v) ∷ x ∷ drop (suc i) row) ((x.0, v) ∷ drop (suc i) row) (x ∷ insert_entry cmp (drop (suc i) row) key v)) same in
        ap (λ q. take i row ++ ((x.0, v) ∷ drop q row)) next ∙ sym (ap (λ l. insert_entry cmp l key v) (around row i x here) ∙ insert-below o key (take i row) (x ∷ drop (suc i) row) v f.before ∙ ap (λ l. take i row ++ l) step)

    pub put_gap : (row : List (K × V)) (i : ℕ) (v : V) → IsGap cmp row key i → take i row ++ (((key, v) ∷ []) ++ drop (i + 0) row) ≡ insert_entry cmp row key v
    put_gap row i v gap =
        let same : i + 0 ≡ i = omega arith in
        ap (λ q. take i row ++ ((key, v) ∷ drop q row)) same ∙ sym (ap (λ l. insert_entry cmp l key v) (sym (take-append-drop i row)) ∙ insert-below o key (take i row) (drop i row) v gap.before ∙ ap (λ l. take i row ++ l) (insert_all_above o key (drop i row) v gap.after))

    pub cut_found : (row : List (K × V)) (i : ℕ) (x : K × V) → IsFound cmp row key i → slice_get row i ≡ Some x → take i row ++ ([] ++ drop (i + 1) row) ≡ remove_entry (is_at (cmp key)) row
    cut_found row i x f here =
        let same : cmp key x.0 ≡ Equal = subst (λ q. IfSome q (λ p. cmp key p.0 ≡ Equal)) here f.equal in
        let next : i + 1 ≡ suc i = omega arith in
        let step : remove_entry (is_at (cmp key)) (x ∷ drop (suc i) row) ≡ drop (suc i) row = ap (λ r. cond (is_eq r) (drop (suc i) row) (x ∷ remove_entry (is_at (cmp key)) (drop (suc i) row))) same in
        ap (λ q. take i row ++ drop q row) next ∙ sym (ap (remove_entry (is_at (cmp key))) (around row i x here) ∙ remove-below o key (take i row) (x ∷ drop (suc i) row) f.before ∙ ap (λ l. take i row ++ l) step)

    pub cut_gap : (row : List (K × V)) (i : ℕ) → IsGap cmp row key i → take i row ++ ([] ++ drop (i + 0) row) ≡ remove_entry (is_at (cmp key)) row
    cut_gap row i gap =
        let same : i + 0 ≡ i = omega arith in
        ap (λ q. take i row ++ drop q row) same ∙ sym (ap (remove_entry (is_at (cmp key))) (sym (take-append-drop i row)) ∙ remove-below o key (take i row) (drop i row) gap.before ∙ ap (λ l. take i row ++ l) (remove_all_above o key (drop i row) gap.after))

    pub look_found : (row : List (K × V)) (i : ℕ) (x : K × V) → IsFound cmp row key i → slice_get row i ≡ Some x → lookup (is_at (cmp key)) row ≡ Some x.1
    look_found row i x f here =
        let same : cmp key x.0 ≡ Equal = subst (λ q. IfSome q (λ p. cmp key p.0 ≡ Equal)) here f.equal in
        let step : lookup (is_at (cmp key)) (x ∷ drop (suc i) row) ≡ Some x.1 = ap (λ r. cond (is_eq r) (Some x.1) (lookup (is_at (cmp key)) (drop (suc i) row))) same in
        ap (lookup (is_at (cmp key))) (around row i x here) ∙ lookup-below o key (take i row) (x ∷ drop (suc i) row) f.before ∙ step

    pub look_gap : (row : List (K × V)) (i : ℕ) → IsGap cmp row key i → lookup (is_at (cmp key)) row ≡ None
    look_gap row i gap = ap (lookup (is_at (cmp key))) (sym (take-append-drop i row)) ∙ lookup-below o key (take i row) (drop i row) gap.before ∙ lookup_all_above o key (drop i row) gap.after

    -- the first pair past the key is the one at the gap after it
    pub past_from : (row : List (K × V)) (i : ℕ) → IsBelow cmp (take i row) key → IsAbove cmp key (drop i row) → slice_get (past cmp (Some key) row) 0 ≡ slice_get row i
    past_from row i before after =
        ap (λ l. slice_get (past cmp (Some key) l) 0) (sym (take-append-drop i row)) ∙ ap (λ l. slice_get l 0) (past-below o key (take i row) (drop i row) before ∙ past_all_above o key (drop i row) after) ∙ slice_get-drop row i

    pub got : (row : List (K × V)) (i : ℕ) → i < length row → (x : K × V) × (slice_get row i ≡ Some x)
    got [] i h = absurd (omega arith)
    got (x ∷ row) zero h = (x, refl)
    got (x ∷ row) (suc i) h = got row i (omega arith)

    -- and the one after the key, where the key is there
    pub past_found : (row : List (K × V)) (i : ℕ) → IsFound cmp row key i → slice_get (past cmp (Some key) row) 0 ≡ slice_get row (i + 1)
    past_found row i f =
        let x = got row i f.within in
        let same : cmp key x.0.0 ≡ Equal = subst (λ q. IfSome q (λ p. cmp key p.0 ≡ Equal)) x.1 f.equal in
        let next : suc i ≡ i + 1 = omega arith in
        let step : past cmp (Some key) (x.0 ∷ drop (suc i) row) ≡ past cmp (Some key) (drop (suc i) row) = ap (λ r. cond (is_lt r) (x.0 ∷ past cmp (Some key) (drop (suc i) row)) (past cmp (Some key) (drop (suc i) row))) same in
        ap (λ l. slice_get (past cmp (Some key) l) 0) (around row i x.0 x.1)
        ∙ ap (λ l. slice_get l 0) (past-below o key (take i row) (x.0 ∷ drop (suc i) row) f.before ∙ step ∙ past_all_above o key (drop (suc i) row) f.after)
        ∙ slice_get-drop row (suc i)
        ∙ ap (slice_get row) next

    pub length_insert : (l : List (K × V)) (v : V) → length (insert_entry cmp l key v) ≤ length l + 1
    length_insert [] v = omega arith
    length_insert (x ∷ l) v = elim (cmp key x.0) as (λ r. length (match_ordering r ((key, v) ∷ x ∷ l) ((x.0, v) ∷ l) (x ∷ insert_entry cmp l key v)) ≤ length (x ∷ l) + 1) [ Less ↦ omega arith | Equal ↦ omega arith | Greater ↦ omega (arith, length_insert l v) ]

    pub some_insert : (l : List (K × V)) (v : V) → 0 < length (insert_entry cmp l key v)
    some_insert [] v = omega arith
    some_insert (x ∷ l) v = elim (cmp key x.0) as (λ r. 0 < length (match_ordering r ((key, v) ∷ x ∷ l) ((x.0, v) ∷ l) (x ∷ insert_entry cmp l key v))) [ Less ↦ omega arith | Equal ↦ omega arith | Greater ↦ omega arith ]

    pub length_remove : (l : List (K × V)) → length (remove_entry (is_at (cmp key)) l) ≤ length l
    length_remove [] = omega arith
    length_remove (x ∷ l) = elim (is_eq (cmp key x.0)) as (λ b. length (cond b l (x ∷ remove_entry (is_at (cmp key)) l)) ≤ length (x ∷ l)) [ true ↦ omega arith | false ↦ omega (arith, length_remove l) ]

    pub rest_page : (l r : List (K × V)) → IsPage cmp l → r ≡ remove_entry (is_at (cmp key)) l → 0 < length r → IsPage cmp r
    rest_page l r page e some = record {
      some = some;
      bound = omega (arith, page.bound, length_remove l, ap length e);
      ordered = subst (IsOrdered cmp) (sym e) (remove_ordered o key l page.ordered);
    }

    -- how many pairs there are after a removal
    pub count_remove : (l : List (K × V)) (v : V) → lookup (is_at (cmp key)) l ≡ Some v → length (remove_entry (is_at (cmp key)) l) + 1 ≡ length l
    count_remove [] v h = cc
    count_remove (x ∷ l) v h = by (is_eq (cmp key x.0)) h (count_remove l v)
      where
        by : (b : Bool) → cond b (Some x.1) (lookup (is_at (cmp key)) l) ≡ Some v → (lookup (is_at (cmp key)) l ≡ Some v → length (remove_entry (is_at (cmp key)) l) + 1 ≡ length l) → length (cond b l (x ∷ remove_entry (is_at (cmp key)) l)) + 1 ≡ length (x ∷ l)
        by true g f = omega arith
        by false g f = omega (arith, f g)

module _ {K T V : Type 0} {cmp : K → K → Ordering} (o : IsTotalOrder cmp) (pairs : T → List (K × V)) where
  flat_halves : (row : List (K × T)) (n : ℕ) → flat pairs row ≡ flat pairs (take n row) ++ flat pairs (drop n row)
  flat_halves row n = ap (flat pairs) (sym (take-append-drop n row)) ∙ flat-append pairs (take n row) (drop n row)

  pub branch_take : (row : List (K × T)) (n : ℕ) → IsGrown cmp pairs row → 0 < n → n ≤ 32 → n ≤ length row → IsBranch cmp pairs (take n row)
  branch_take row n grown some bound within = record {
    bound = omega (arith, length-take n row);
    grown = record {
      some = omega (arith, length-take n row);
      leads = leads-take pairs row n grown.leads;
      ordered = ordered-left o (flat pairs (take n row)) (flat pairs (drop n row)) (subst (IsOrdered cmp) (flat_halves row n) grown.ordered);
    };
  }

  pub branch_drop : (row : List (K × T)) (n : ℕ) → IsGrown cmp pairs row → n < length row → length row ≤ n + 32 → IsBranch cmp pairs (drop n row)
  branch_drop row n grown some bound = record {
    bound = omega (arith, length-drop n row);
    grown = record {
      some = omega (arith, length-drop n row);
      leads = leads-drop pairs row n grown.leads;
      ordered = ordered-right o (flat pairs (take n row)) (flat pairs (drop n row)) (subst (IsOrdered cmp) (flat_halves row n) grown.ordered);
    };
  }

pub flat_split : {K T V : Type 0} (pairs : T → List (K × V)) (row : List (K × T)) (n : ℕ) → flat pairs (take n row) ++ flat pairs (drop n row) ≡ flat pairs row
flat_split pairs row n = sym (ap (flat pairs) (sym (take-append-drop n row)) ∙ flat-append pairs (take n row) (drop n row))

pub page_one : {K V : Type 0} (cmp : K → K → Ordering) (p : K × V) → IsPage cmp (p ∷ [])
unfolding IsStrictlySortedBy
page_one cmp p = record { some = omega arith; bound = omega arith; ordered = (tt, tt) }

pub ordered_one : {K V : Type 0} (cmp : K → K → Ordering) (p : K × V) → IsOrdered cmp (p ∷ [])
unfolding IsStrictlySortedBy
ordered_one cmp p = (tt, tt)

pub counted_none : {K V : Type 0} (cmp : K → K → Ordering) → IsCounted {K = K} {V = V} cmp [] 0
unfolding IsStrictlySortedBy
counted_none cmp = record { ordered = tt; count = refl }

pub past_none : {K V : Type 0} (cmp : K → K → Ordering) (l : List (K × V)) → past cmp None l ≡ l
past_none cmp [] = refl
past_none cmp (x ∷ l) = ap (λ r. x ∷ r) (past_none cmp l)

pub remove_none : {K V : Type 0} (test : K → Bool) (l : List (K × V)) → None ≡ lookup test l → remove_entry test l ≡ l
remove_none test [] h = refl
remove_none test (x ∷ l) h = by (test x.0) h (remove_none test l)
  where
    by : (b : Bool) → None ≡ cond b (Some x.1) (lookup test l) → (None ≡ lookup test l → remove_entry test l ≡ l) → cond b l (x ∷ remove_entry test l) ≡ x ∷ l
    by true h f = cc
    by false h f = ap (λ r. x ∷ r) (f h)

module _ {K V : Type 0} {cmp : K → K → Ordering} (o : IsTotalOrder cmp) (key : K) where
  pub count_insert : (l : List (K × V)) (v : V) → IsOrdered cmp l → length (insert_entry cmp l key v) ≡ length l + cond (is_some (lookup (is_at (cmp key)) l)) 0 1
  unfolding IsStrictlySortedBy
  count_insert [] v s = refl
  count_insert (x ∷ l) v s = by (cmp key x.0) refl (count_insert l v s.1)
    where
      by : (r : Ordering) → cmp key x.0 ≡ r → length (insert_entry cmp l key v) ≡ length l + cond (is_some (lookup (is_at (cmp key)) l)) 0 1 → length (match_ordering r ((key, v) ∷ x ∷ l) ((x.0, v) ∷ l) (x ∷ insert_entry cmp l key v)) ≡ length (x ∷ l) + cond (is_some (cond (is_eq r) (Some x.1) (lookup (is_at (cmp key)) l))) 0 1
      by Less h ih = let none = lookup_all_above o key l (above_lower o key x.0 l h s.0) in rw none (omega arith)
      by Equal h ih = omega arith
      by Greater h ih = omega (arith, ih)

  pub counted_insert : (l r : List (K × V)) (v : V) (n : ℕ) → IsOrdered cmp l → r ≡ insert_entry cmp l key v → n ≡ length l + cond (is_some (lookup (is_at (cmp key)) l)) 0 1 → IsCounted cmp r n
  counted_insert l r v n s e h = record {
    ordered = subst (IsOrdered cmp) (sym e) (insert_ordered o key l v s);
    count = h ∙ sym (ap length e ∙ count_insert l v s);
  }

  count_some : (l : List (K × V)) (q : Option V) → q ≡ lookup (is_at (cmp key)) l → IsSome q → length (remove_entry (is_at (cmp key)) l) + 1 ≡ length l
  count_some l None e h = cc
  count_some l (Some v) e h = count_remove o key l v (sym e)

  pub counted_remove : (l r : List (K × V)) (n : ℕ) → IsCounted cmp l n → IsSome (lookup (is_at (cmp key)) l) → r ≡ remove_entry (is_at (cmp key)) l → IsCounted cmp r (n - 1)
  counted_remove l r n c h e = record {
    ordered = subst (IsOrdered cmp) (sym e) (remove_ordered o key l c.ordered);
    count = omega (arith, count_some l (lookup (is_at (cmp key)) l) refl h, ap length e, c.count);
  }

  pub some_left : (l : List (K × V)) → IsSome (lookup (is_at (cmp key)) l) → 0 < length l
  some_left l h = omega (arith, count_some l (lookup (is_at (cmp key)) l) refl h)
