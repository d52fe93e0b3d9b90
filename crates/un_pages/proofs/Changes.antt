-- Changes in place: of a page, of the entry beside a part, and of a row of parts.
use Rattle.std.proofs.Common.{◌≡◌, ℕ, zero, suc, ◌+◌, ◌-◌, ◌<◌, ◌≤◌, Bool, true, false, List, [], ◌∷◌, ◌++◌, length, take, drop, set, get_or, slice_get, Some, None, Option, Result, Ok, Err, IfOk, OnErr, IfSome, IsSome, IsNone, cond, refl, sym, ◌∙◌, ap, subst, arith, append-nil, length-append}
use Rattle.std.specs.declared.cmp.Ordering.{Ordering}
use Rattle.std.specs.declared.cmp.Ordering.TheVariants.{Less, Equal, Greater}
use Rattle.std.specs.Ordering.{is_lt, is_eq, match_ordering}
use Rattle.std.specs.Cmp.{IsTotalOrder}
use Rattle.std.specs.Option.{is_some}
use Rattle.std.specs.declared.sync.Arc.{Arc}
use Rattle.std.specs.Map.{lookup, remove_entry}
use Rattle.std.specs.BTreeMap.{insert_entry, is_at}
use Rattle.un_pages.specs.declared.level.Put.{Put}
use Rattle.un_pages.specs.declared.level.Put.TheVariants.{Added, Replaced, Refused}
use Rattle.un_pages.specs.declared.level.Taken.{Taken}
use Rattle.un_pages.specs.declared.level.Taken.TheVariants.{Removed, Absent, Kept}
use Rattle.un_pages.specs.Pairs.{IsOrdered, IsFound, IsGap, IsPage, IsBranch, IsGrown, IsPlace, IsSeated, IsChanged, HasFirstKeys, IsCounted, flat, first_key, pairs_of, pair_of}
use Rattle.un_pages.specs.Changes.{IsPut, IsTaken, IsKept, IsChangedAt}
use Rattle.un_pages.proofs.Ordered.{insert_ordered, remove_ordered}
use Rattle.un_pages.proofs.Rows.{around, looked_up}
use Rattle.un_pages.proofs.Splices.{with_flat, with_grown, put_leads, rest_flat, same_flat, put_length}
use Rattle.un_pages.proofs.Searched.{pairs_of_at, length_pairs_of}
use Rattle.un_pages.proofs.PairsOf.{pairs_of_set}
use Rattle.un_pages.proofs.Nodes.{put_found, put_gap, cut_found, rest_page, counted_insert, counted_remove, remove_none, look_found, look_gap, some_insert, length_insert, count_insert, got}

-- ---- a list of pairs
module _ {K V : Type 0} {cmp : K → K → Ordering} (o : IsTotalOrder cmp) (key : K) where
  -- the first key after an insertion
  pub first_insert : (l : List (K × V)) (v : V) (k : K) → first_key l ≡ Some k → first_key (insert_entry cmp l key v) ≡ Some (cond (is_lt (cmp key k)) key k)
  first_insert [] v k h = cc
  first_insert (x ∷ l) v k h =
      let e : x.0 ≡ k = cc in
      subst (λ q. first_key (insert_entry cmp (x ∷ l) key v) ≡ Some (cond (is_lt (cmp key q)) key q)) e (by (cmp key x.0))
    where
      by : (r : Ordering) → first_key (match_ordering r ((key, v) ∷ x ∷ l) ((x.0, v) ∷ l) (x ∷ insert_entry cmp l key v)) ≡ Some (cond (is_lt r) key x.0)
      by Less = refl
      by Equal = refl
      by Greater = refl

  -- and after a removal of another key
  pub first_remove : (l : List (K × V)) (k : K) → first_key l ≡ Some k → is_eq (cmp key k) ≡ false → first_key (remove_entry (is_at (cmp key)) l) ≡ Some k
  first_remove [] k h n = cc
  first_remove (x ∷ l) k h n =
      let e : x.0 ≡ k = cc in
      let n' : is_eq (cmp key x.0) ≡ false = subst (λ q. is_eq (cmp key q) ≡ false) (sym e) n in
      ap (λ b. first_key (cond b l (x ∷ remove_entry (is_at (cmp key)) l))) n' ∙ ap (λ q. Some q) e

  -- a page after a change in place
  pub page_replaced : (l r : List (K × V)) (v : V) → IsPage cmp l → r ≡ insert_entry cmp l key v → IsSome (lookup (is_at (cmp key)) l) → IsPage cmp r
  page_replaced l r v page e found = record {
    some = subst (λ q. 0 < length q) (sym e) (some_insert o key l v);
    bound = replaced_bound (lookup (is_at (cmp key)) l) refl found;
    ordered = subst (IsOrdered cmp) (sym e) (insert_ordered o key l v page.ordered);
  }
    where
      replaced_bound : (q : Option V) → q ≡ lookup (is_at (cmp key)) l → IsSome q → length r ≤ 32
      replaced_bound None h s = cc
      replaced_bound (Some w) h s = let count = count_insert o key l v page.ordered in omega (arith, rw (← h) at count, ap length e, page.bound)

  pub page_added : (l r : List (K × V)) (v : V) → IsPage cmp l → length l < 32 → r ≡ insert_entry cmp l key v → IsPage cmp r
  page_added l r v page room e = record {
    some = subst (λ q. 0 < length q) (sym e) (some_insert o key l v);
    bound = omega (arith, ap length e, length_insert o key l v, room);
    ordered = subst (IsOrdered cmp) (sym e) (insert_ordered o key l v page.ordered);
  }

-- ---- a row of parts in which the part that may have the key has changed
module _ {K T V : Type 0} {cmp : K → K → Ordering} (o : IsTotalOrder cmp) (pairs : T → List (K × V)) (row new : List (K × T)) (key : K) (i : ℕ) (grown : IsGrown cmp pairs row) (place : IsPlace cmp row key i) where
  -- nothing has changed
  same_row : (was now : K × T) → slice_get row i ≡ Some was → new ≡ take i row ++ ((now ∷ []) ++ drop (i + 1) row) → now ≡ was → new ≡ row
  same_row was now here set e =
      let next : i + 1 ≡ suc i = omega arith in
      set ∙ rw (next, e) (sym (around row i was here))

  seat : (all : List (K × V)) (now : K × T) → pairs now.1 ≡ all → first_key (pairs now.1) ≡ Some now.0 → IsSeated pairs all (now ∷ [])
  seat all now e leads = record { flat_is = append-nil (pairs now.1) ∙ e; leads = (leads, tt); some = omega arith; bound = omega arith }

  same_length : (was now : K × T) → slice_get row i ≡ Some was → new ≡ take i row ++ ((now ∷ []) ++ drop (i + 1) row) → first_key (pairs now.1) ≡ Some now.0 → length new ≡ length row
  same_length was now here set leads = omega (arith, ap length set, put_length pairs row (now ∷ []) i 1 (pairs now.1) (seat (pairs now.1) now refl leads) (omega (arith, place.within)))

  put_done : (v : V) (was now : K × T) → slice_get row i ≡ Some was → new ≡ take i row ++ ((now ∷ []) ++ drop (i + 1) row) → first_key (pairs now.1) ≡ Some now.0 → pairs now.1 ≡ insert_entry cmp (pairs was.1) key v → flat pairs new ≡ insert_entry cmp (flat pairs row) key v
  put_done v was now here set leads e = ap (flat pairs) set ∙ with_flat o pairs row key i was grown place here v (now ∷ []) (seat (insert_entry cmp (pairs was.1) key v) now e leads)

  put_grown : (v : V) (was now : K × T) → slice_get row i ≡ Some was → new ≡ take i row ++ ((now ∷ []) ++ drop (i + 1) row) → first_key (pairs now.1) ≡ Some now.0 → pairs now.1 ≡ insert_entry cmp (pairs was.1) key v → IsGrown cmp pairs new
  put_grown v was now here set leads e = subst (IsGrown cmp pairs) (sym set) (with_grown o pairs row key i was grown place here v (now ∷ []) (seat (insert_entry cmp (pairs was.1) key v) now e leads))

  row_taken_done : (was now : K × T) → slice_get row i ≡ Some was → new ≡ take i row ++ ((now ∷ []) ++ drop (i + 1) row) → first_key (pairs now.1) ≡ Some now.0 → pairs now.1 ≡ remove_entry (is_at (cmp key)) (pairs was.1) → flat pairs new ≡ remove_entry (is_at (cmp key)) (flat pairs row)
  row_taken_done was now here set leads e =
      ap (flat pairs) set ∙ same_flat pairs row (now ∷ []) i (pairs now.1) (seat (pairs now.1) now refl leads) ∙ rest_flat o pairs row key i was grown place here (pairs now.1) e

  taken_grown : (was now : K × T) → slice_get row i ≡ Some was → new ≡ take i row ++ ((now ∷ []) ++ drop (i + 1) row) → first_key (pairs now.1) ≡ Some now.0 → pairs now.1 ≡ remove_entry (is_at (cmp key)) (pairs was.1) → IsGrown cmp pairs new
  taken_grown was now here set leads e = record {
    some = omega (arith, same_length was now here set leads, grown.some);
    leads = subst (HasFirstKeys pairs) (sym set) (put_leads pairs row (now ∷ []) i 1 (pairs now.1) (seat (pairs now.1) now refl leads) grown.leads);
    ordered = subst (IsOrdered cmp) (sym (row_taken_done was now here set leads e)) (remove_ordered o key (flat pairs row) grown.ordered);
  }

  -- what the change of the part is, that of the row is
  pub row_put : (v : V) (r : Put) → IsChangedAt pairs row new i (λ was now. IsPut cmp (λ p. pairs p.1) was now key v r) → IsPut cmp (flat pairs) row new key v r
  row_put v Added c = (put_done v c.was c.now c.here c.set c.leads c.change.0, rw (looked_up o pairs row key i c.was grown place c.here) c.change.1)
  row_put v Replaced c = (put_done v c.was c.now c.here c.set c.leads c.change.0, rw (looked_up o pairs row key i c.was grown place c.here) c.change.1)
  row_put v Refused c = same_row c.was c.now c.here c.set c.change

  pub row_put_kept : (v : V) (r : Put) → IsChangedAt pairs row new i (λ was now. IsPut cmp (λ p. pairs p.1) was now key v r) → IsKept cmp pairs row new
  row_put_kept v Added c = record { grown = put_grown v c.was c.now c.here c.set c.leads c.change.0; count = same_length c.was c.now c.here c.set c.leads }
  row_put_kept v Replaced c = record { grown = put_grown v c.was c.now c.here c.set c.leads c.change.0; count = same_length c.was c.now c.here c.set c.leads }
  row_put_kept v Refused c = row_same (same_row c.was c.now c.here c.set c.change)
    where
      row_same : new ≡ row → IsKept cmp pairs row new
      row_same e = record { grown = subst (IsGrown cmp pairs) (sym e) grown; count = ap length e }

  pub row_unchanged : new ≡ row → IsKept cmp pairs row new
  row_unchanged e = record { grown = subst (IsGrown cmp pairs) (sym e) grown; count = ap length e }

  pub row_taken : (r : Taken) → IsChangedAt pairs row new i (λ was now. IsTaken cmp (λ p. pairs p.1) was now key r) → IsTaken cmp (flat pairs) row new key r
  row_taken Removed c = (row_taken_done c.was c.now c.here c.set c.leads c.change.0, rw (looked_up o pairs row key i c.was grown place c.here) c.change.1)
  row_taken Absent c = (same_row c.was c.now c.here c.set c.change.0, rw (looked_up o pairs row key i c.was grown place c.here) c.change.1)
  row_taken Kept c = same_row c.was c.now c.here c.set c.change

  pub row_taken_kept : (r : Taken) → IsChangedAt pairs row new i (λ was now. IsTaken cmp (λ p. pairs p.1) was now key r) → IsKept cmp pairs row new
  row_taken_kept Removed c = record { grown = taken_grown c.was c.now c.here c.set c.leads c.change.0; count = same_length c.was c.now c.here c.set c.leads }
  row_taken_kept Absent c = row_unchanged (same_row c.was c.now c.here c.set c.change.0)
  row_taken_kept Kept c = row_unchanged (same_row c.was c.now c.here c.set c.change)

-- ---- a row of more than a third of its room keeps a part
module _ {K T V : Type 0} (pairs : T → List (K × V)) where
  pub length_flat : (row : List (K × T)) → HasFirstKeys pairs row → length row ≤ length (flat pairs row)
  length_flat [] leads = omega arith
  length_flat (x ∷ row) leads = omega (arith, some_first (pairs x.1) x.0 leads.0, length-append (pairs x.1) (flat pairs row), length_flat row leads.1)
    where
      some_first : (l : List (K × V)) (k : K) → first_key l ≡ Some k → 0 < length l
      some_first [] k h = cc
      some_first (p ∷ l) k h = omega arith

  length_keep : (test : K → Bool) (l : List (K × V)) → length l ≤ length (remove_entry test l) + 1
  length_keep test [] = omega arith
  length_keep test (x ∷ l) = elim (test x.0) as (λ b. length (x ∷ l) ≤ length (cond b l (x ∷ remove_entry test l)) + 1) [ true ↦ omega arith | false ↦ omega (arith, length_keep test l) ]

  pub branch_rest : {cmp : K → K → Ordering} (test : K → Bool) (old row new : List (K × T)) → length old ≤ 32 → IsKept cmp pairs old row → 10 < length row → flat pairs new ≡ remove_entry test (flat pairs row) → IsChanged cmp pairs (length row) new → IsBranch cmp pairs new
  branch_rest test old row new bound kept many e changed = record {
    bound = omega (arith, changed.bound, kept.count, bound);
    grown = record {
      some = some_part new refl;
      leads = changed.leads;
      ordered = changed.ordered;
    };
  }
    where
      some_part : (q : List (K × T)) → q ≡ new → 0 < length q
      some_part (x ∷ q) h = omega arith
      some_part [] h = absurd (omega (arith, length_keep test (flat pairs row), length_flat row kept.grown.leads, ap length (ap (flat pairs) h ∙ e), many))

-- ---- a row's entry, and what its page does
module _ {A E : Type 0} where
  pub on_err : (r : Result A E) {P Q : Type 0} → (P → Q) → OnErr r P → OnErr r Q
  on_err (Ok x) f h = tt
  on_err (Err e) f h = f h

  pub either : (r : Result A E) {P : A → Type 0} {Q R : Type 0} → ((x : A) → P x → R) → (Q → R) → IfOk r P → OnErr r Q → R
  either (Ok x) f g h k = f x h
  either (Err e) f g h k = g k

module _ {K X Z : Type 0} (l : List (K × Arc X Z)) (i : ℕ) (x y : K × Arc X Z) (row : List (K × X)) (view : pairs_of l ≡ row) (within : i < length row) (read : x ≡ get_or l i x) where
  inside : i < length l
  inside = omega (arith, within, ap length view, length_pairs_of l)

  pub entry_here : slice_get row i ≡ Some (pair_of x)
  entry_here = subst (λ q. slice_get q i ≡ Some (pair_of x)) view (pairs_of_at l i x inside read)

  pub set_is : pairs_of (set l i y) ≡ take i row ++ ((pair_of y ∷ []) ++ drop (i + 1) row)
  set_is = subst (λ q. pairs_of (set l i y) ≡ take i q ++ ((pair_of y ∷ []) ++ drop (i + 1) q)) view (pairs_of_set l i y inside)

  pub value_set : y.0 ≡ x.0 → IfSome (slice_get row i) (λ p. pairs_of (set l i y) ≡ take i row ++ (((p.0, y.1.value) ∷ []) ++ drop (i + 1) row))
  value_set e = rw entry_here (set_is ∙ ap (λ k. take i row ++ (((k, y.1.value) ∷ []) ++ drop (i + 1) row)) e)

  pub entry_kept : pair_of y ≡ pair_of x → pairs_of (set l i y) ≡ row
  entry_kept e =
      let next : i + 1 ≡ suc i = omega arith in
      set_is ∙ rw (next, e) (sym (around row i (pair_of x) entry_here))

  pub entry_changed : {V : Type 0} (pairs : X → List (K × V)) (R : K × X → K × X → Type 0) → first_key (pairs y.1.value) ≡ Some y.0 → R (pair_of x) (pair_of y) → IsChangedAt pairs row (pairs_of (set l i y)) i R
  entry_changed pairs R leads change = record { was = pair_of x; now = pair_of y; here = entry_here; set = set_is; leads = leads; change = change }

pub lead_if : {K T V : Type 0} (pairs : T → List (K × V)) (row : List (K × T)) (i : ℕ) → HasFirstKeys pairs row → IfSome (slice_get row i) (λ p. first_key (pairs p.1) ≡ Some p.0)
lead_if pairs [] i leads = tt
lead_if pairs (x ∷ row) zero leads = leads.0
lead_if pairs (x ∷ row) (suc i) leads = lead_if pairs row i leads.1

module _ {K V : Type 0} {cmp : K → K → Ordering} (o : IsTotalOrder cmp) (key : K) (row : List (K × V)) (i : ℕ) where
  pub found_some : IsFound cmp row key i → IsSome (lookup (is_at (cmp key)) row)
  found_some f = let x = got o key row i f.within in rw (look_found o key row i x.0 f x.1) refl

  pub gap_none : IsGap cmp row key i → IsNone (lookup (is_at (cmp key)) row)
  gap_none gap = rw (look_gap o key row i gap) refl

  pub value_put : (new : List (K × V)) (w v : V) → IsFound cmp row key i → w ≡ v → IfSome (slice_get row i) (λ p. new ≡ take i row ++ (((p.0, w) ∷ []) ++ drop (i + 1) row)) → new ≡ insert_entry cmp row key v
  value_put new w v f e h =
      let x = got o key row i f.within in
      let h' : new ≡ take i row ++ (((x.0.0, w) ∷ []) ++ drop (i + 1) row) = subst (λ q. IfSome q (λ p. new ≡ take i row ++ (((p.0, w) ∷ []) ++ drop (i + 1) row))) x.1 h in
      h' ∙ put_found o key row i x.0 w f x.1 ∙ ap (insert_entry cmp row key) e

  pub pair_put : (new : List (K × V)) (w v : V) → IsGap cmp row key i → w ≡ v → new ≡ take i row ++ (((key, w) ∷ []) ++ drop i row) → new ≡ insert_entry cmp row key v
  pair_put new w v gap e h =
      let same : i ≡ i + 0 = omega arith in
      h ∙ ap (λ q. take i row ++ (((key, w) ∷ []) ++ drop q row)) same ∙ put_gap o key row i w gap ∙ ap (insert_entry cmp row key) e

  pub pair_cut : (new : List (K × V)) → IsFound cmp row key i → new ≡ take i row ++ drop (i + 1) row → new ≡ remove_entry (is_at (cmp key)) row
  pair_cut new f h = let x = got o key row i f.within in h ∙ cut_found o key row i x.0 f x.1

  pub page_cut : (new : List (K × V)) → IsPage cmp row → 10 < length row → IsFound cmp row key i → new ≡ remove_entry (is_at (cmp key)) row → IsPage cmp new
  page_cut new page many f e =
      let counted = counted_remove o key row new (length row) (record { ordered = page.ordered; count = refl }) (found_some f) e in
      rest_page o key row new page e (omega (arith, counted.count, many))

-- ---- the map's count of pairs
module _ {K V : Type 0} {cmp : K → K → Ordering} (o : IsTotalOrder cmp) (key : K) (old new : List (K × V)) (n : ℕ) (counted : IsCounted cmp old n) where
  is_none_of : (q : Option V) → IsNone q → q ≡ None
  is_none_of None h = refl
  is_none_of (Some x) h = cc

  pub count_added : (v : V) → IsPut cmp (λ m. m) old new key v Added → IsCounted cmp new (n + 1)
  count_added v p =
      let absent = is_none_of (lookup (is_at (cmp key)) old) p.1 in
      let more : n + 1 ≡ length old + cond (is_some (lookup (is_at (cmp key)) old)) 0 1 = rw absent (omega (arith, counted.count)) in
      counted_insert o key old new v (n + 1) counted.ordered p.0 more

  pub count_kept : (v : V) (r : Put) → (r ≡ Added → ⊥) → IsPut cmp (λ m. m) old new key v r → IsCounted cmp new n
  count_kept v Added h p = absurd (h refl)
  count_kept v Replaced h p =
      let same : n ≡ length old + cond (is_some (lookup (is_at (cmp key)) old)) 0 1 = rw p.1 (omega (arith, counted.count)) in
      counted_insert o key old new v n counted.ordered p.0 same
  count_kept v Refused h p = subst (λ q. IsCounted cmp q n) (sym p) counted

  pub count_removed : IsTaken cmp (λ m. m) old new key Removed → IsCounted cmp new (n - 1)
  count_removed p = counted_remove o key old new n counted p.1 p.0

-- a removal that was not refused is done
module _ {K V : Type 0} (cmp : K → K → Ordering) (key : K) (old new : List (K × V)) where
  none_is : (q : Option V) → IsNone q → None ≡ q
  none_is None h = refl
  none_is (Some x) h = cc

  pub taken_done : (r : Taken) → (r ≡ Kept → ⊥) → IsTaken cmp (λ m. m) old new key r → new ≡ remove_entry (is_at (cmp key)) old
  taken_done Removed h p = p.0
  taken_done Absent h p = p.0 ∙ sym (remove_none (is_at (cmp key)) old (none_is (lookup (is_at (cmp key)) old) p.1))
  taken_done Kept h p = absurd (h refl)
