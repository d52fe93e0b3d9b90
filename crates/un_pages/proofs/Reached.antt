-- What of a list, and of a row of parts, comes from a bound on.
use Rattle.std.proofs.Common.{◌≡◌, ℕ, zero, suc, ◌+◌, ◌≤◌, ◌<◌, ◌^◌, length, true, false, not, List, [], ◌∷◌, ◌++◌, take, drop, slice_get, Some, IfSome, cond, refl, sym, ◌∙◌, ap, subst, arith}
use Rattle.std.proofs.lemmas.List.{take-append-drop}
use Rattle.std.specs.declared.cmp.Ordering.{Ordering}
use Rattle.std.specs.declared.cmp.Ordering.TheVariants.{Equal}
use Rattle.std.specs.declared.ops.Bound.{Bound}
use Rattle.std.specs.declared.ops.Bound.TheVariants.{Included, Excluded, Unbounded}
use Rattle.std.specs.Ordering.{is_lt, ordering_reverse}
use Rattle.std.specs.Cmp.{IsTotalOrder}
use Rattle.un_pages.specs.Pairs.{IsAbove, IsBelow, IsFound, IsGap, IsGrown, IsStart, flat, past, from_on, is_reached}
use Rattle.un_pages.proofs.Ordered.{turned, past-below, past_all_above}
use Rattle.un_pages.proofs.Rows.{around, parts, is_below, is_above, gone_past}
use Rattle.un_pages.proofs.Nodes.{got}

pub from_all : {K V : Type 0} (cmp : K → K → Ordering) (l : List (K × V)) → from_on cmp Unbounded l ≡ l
from_all cmp [] = refl
from_all cmp (x ∷ l) = ap (λ r. x ∷ r) (from_all cmp l)

module _ {K V : Type 0} {cmp : K → K → Ordering} (o : IsTotalOrder cmp) (key : K) where
  from-below : (xs ys : List (K × V)) → IsBelow cmp xs key → from_on cmp (Included key) (xs ++ ys) ≡ from_on cmp (Included key) ys
  from-below [] ys b = refl
  from-below (x ∷ xs) ys b = rw b.0 (from-below xs ys b.1)

  from_all_above : (ys : List (K × V)) → IsAbove cmp key ys → from_on cmp (Included key) ys ≡ ys
  from_all_above [] a = refl
  from_all_above (y ∷ ys) a = rw (turned o key y.0 a.0) (ap (λ l. y ∷ l) (from_all_above ys a.1))

  from-above : (xs ys : List (K × V)) → IsAbove cmp key ys → from_on cmp (Included key) (xs ++ ys) ≡ from_on cmp (Included key) xs ++ ys
  from-above [] ys a = from_all_above ys a
  from-above (x ∷ xs) ys a = elim (not (is_lt (cmp x.0 key))) as (λ b. cond b (x ∷ from_on cmp (Included key) (xs ++ ys)) (from_on cmp (Included key) (xs ++ ys)) ≡ cond b (x ∷ from_on cmp (Included key) xs) (from_on cmp (Included key) xs) ++ ys) [ true ↦ ap (λ l. x ∷ l) (from-above xs ys a) | false ↦ from-above xs ys a ]

  -- from the key on, where the key's place is known
  pub from_gap : (row : List (K × V)) (i : ℕ) → IsGap cmp row key i → from_on cmp (Included key) row ≡ drop i row
  from_gap row i gap = ap (from_on cmp (Included key)) (sym (take-append-drop i row)) ∙ from-below (take i row) (drop i row) gap.before ∙ from_all_above (drop i row) gap.after

  found_head : (l : List (K × V)) (i : ℕ) (x : K × V) → slice_get l i ≡ Some x → x ∷ drop (suc i) l ≡ drop i l
  found_head [] i x h = cc
  found_head (y ∷ l) zero x h = cc
  found_head (y ∷ l) (suc i) x h = found_head l i x h

  pub from_found : (row : List (K × V)) (i : ℕ) → IsFound cmp row key i → from_on cmp (Included key) row ≡ drop i row
  from_found row i f =
      let x = got o key row i f.within in
      let same : cmp key x.0.0 ≡ Equal = subst (λ q. IfSome q (λ p. cmp key p.0 ≡ Equal)) x.1 f.equal in
      let back : cmp x.0.0 key ≡ Equal = o.antisymm x.0.0 key ∙ ap ordering_reverse same in
      let step : from_on cmp (Included key) (x.0 ∷ drop (suc i) row) ≡ x.0 ∷ from_on cmp (Included key) (drop (suc i) row) = ap (λ r. cond (not (is_lt r)) (x.0 ∷ from_on cmp (Included key) (drop (suc i) row)) (from_on cmp (Included key) (drop (suc i) row))) back in
      ap (from_on cmp (Included key)) (around row i x.0 x.1)
      ∙ from-below (take i row) (x.0 ∷ drop (suc i) row) f.before
      ∙ step
      ∙ ap (λ l. x.0 ∷ l) (from_all_above (drop (suc i) row) f.after)
      ∙ found_head row i x.0 x.1

  -- after the key
  pub after_gap : (row : List (K × V)) (i : ℕ) → IsGap cmp row key i → from_on cmp (Excluded key) row ≡ drop i row
  after_gap row i gap = ap (past cmp (Some key)) (sym (take-append-drop i row)) ∙ past-below o key (take i row) (drop i row) gap.before ∙ past_all_above o key (drop i row) gap.after

  pub after_found : (row : List (K × V)) (i : ℕ) → IsFound cmp row key i → from_on cmp (Excluded key) row ≡ drop (i + 1) row
  after_found row i f =
      let x = got o key row i f.within in
      let same : cmp key x.0.0 ≡ Equal = subst (λ q. IfSome q (λ p. cmp key p.0 ≡ Equal)) x.1 f.equal in
      let next : suc i ≡ i + 1 = omega arith in
      let step : past cmp (Some key) (x.0 ∷ drop (suc i) row) ≡ past cmp (Some key) (drop (suc i) row) = ap (λ r. cond (is_lt r) (x.0 ∷ past cmp (Some key) (drop (suc i) row)) (past cmp (Some key) (drop (suc i) row))) same in
      ap (past cmp (Some key)) (around row i x.0 x.1)
      ∙ past-below o key (take i row) (x.0 ∷ drop (suc i) row) f.before
      ∙ step
      ∙ past_all_above o key (drop (suc i) row) f.after
      ∙ ap (λ q. drop q row) next

module _ {K T V : Type 0} {cmp : K → K → Ordering} (o : IsTotalOrder cmp) (pairs : T → List (K × V)) (row : List (K × T)) where
  -- a row of parts from a bound on: what the first part that reaches it has from there, and the parts after it
  pub opened : (bound : Bound K) (i : ℕ) (x : K × T) → IsGrown cmp pairs row → IsStart cmp row bound i → slice_get row i ≡ Some x → from_on cmp bound (flat pairs row) ≡ from_on cmp bound (pairs x.1) ++ flat pairs (drop (i + 1) row)
  opened (Included key) i x grown start here =
      let next : suc i ≡ i + 1 = omega arith in
      let before = is_below o pairs row key i x grown start.place here in
      let after = is_above o pairs row key i x grown start.place here in
      ap (from_on cmp (Included key)) (parts o pairs row key i x grown start.place here)
      ∙ from-below o key (flat pairs (take i row)) (pairs x.1 ++ flat pairs (drop (suc i) row)) before
      ∙ from-above o key (pairs x.1) (flat pairs (drop (suc i) row)) after
      ∙ ap (λ q. from_on cmp (Included key) (pairs x.1) ++ flat pairs (drop q row)) next
  opened (Excluded key) i x grown start here =
      let next : suc i ≡ i + 1 = omega arith in
      gone_past o pairs row key i x grown start.place here ∙ ap (λ q. past cmp (Some key) (pairs x.1) ++ flat pairs (drop q row)) next
  opened Unbounded i x grown start here =
      let first : i ≡ 0 = start.place in
      let here' : slice_get row 0 ≡ Some x = subst (λ q. slice_get row q ≡ Some x) first here in
      let e : i + 1 ≡ suc 0 = omega arith in
      from_all cmp (flat pairs row) ∙ ap (flat pairs) (around row 0 x here') ∙ rw (e, from_all cmp (pairs x.1)) refl

-- no more pairs come from a bound on than there are
pub length_from : {K V : Type 0} (cmp : K → K → Ordering) (bound : Bound K) (l : List (K × V)) → length (from_on cmp bound l) ≤ length l
length_from cmp bound [] = omega arith
length_from cmp bound (x ∷ l) = elim (is_reached cmp bound x.0) as (λ b. length (cond b (x ∷ from_on cmp bound l) (from_on cmp bound l)) ≤ suc (length l)) [ true ↦ omega (arith, length_from cmp bound l) | false ↦ omega (arith, length_from cmp bound l) ]

pub few_from : {K V : Type 0} (cmp : K → K → Ordering) (bound : Bound K) (l m : List (K × V)) (n : ℕ) → m ≡ from_on cmp bound l → n ≡ length l → n < 2 ^ 64 → length m < 2 ^ 64
few_from cmp bound l m n e h small = omega (arith, ap length e, length_from cmp bound l, h, small)
