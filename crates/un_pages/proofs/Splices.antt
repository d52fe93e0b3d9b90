-- Rows in which some parts have been put in place of others.
use Rattle.std.proofs.Common.{◌≡◌, ℕ, zero, suc, ◌+◌, ◌-◌, ◌<◌, ◌≤◌, List, [], ◌∷◌, ◌++◌, length, take, drop, slice_get, Some, Result, Ok, Err, IfOk, refl, sym, ◌∙◌, ap, subst, arith, append_assoc, length-append, length-take, length-drop, append-nil}
use Rattle.std.specs.declared.cmp.Ordering.{Ordering}
use Rattle.std.specs.Cmp.{IsTotalOrder}
use Rattle.std.specs.Map.{remove_entry}
use Rattle.std.specs.BTreeMap.{insert_entry, is_at}
use Rattle.un_pages.specs.Pairs.{IsOrdered, flat, first_key, HasFirstKeys, IsGrown, IsPlace, IsSeated, IsChanged}
use Rattle.un_pages.proofs.Ordered.{insert_ordered, remove_ordered, ordered-left, ordered-right}
use Rattle.un_pages.proofs.Rows.{flat-append, leads-append, leads-take, leads-drop, inserted, removed}

-- what follows from what an Ok holds
pub on_ok : {A E : Type 0} (r : Result A E) {P Q : A → Type 0} → ((x : A) → P x → Q x) → IfOk r P → IfOk r Q
on_ok (Ok x) f h = f x h
on_ok (Err e) f h = tt

pub drop_head : {A : Type 0} (l : List A) (i : ℕ) (x : A) → slice_get l i ≡ Some x → drop i l ≡ x ∷ drop (suc i) l
drop_head [] i x h = cc
drop_head (y ∷ l) zero x h = cc
drop_head (y ∷ l) (suc i) x h = drop_head l i x h

pub take_last : {A : Type 0} (l : List A) (i : ℕ) (x : A) → slice_get l i ≡ Some x → take (suc i) l ≡ take i l ++ x ∷ []
take_last [] i x h = cc
take_last (y ∷ l) zero x h = cc
take_last (y ∷ l) (suc i) x h = ap (λ r. y ∷ r) (take_last l i x h)

key_first : {K V : Type 0} (l : List (K × V)) (p : K × V) → slice_get l 0 ≡ Some p → first_key l ≡ Some p.0
key_first [] p h = cc
key_first (q ∷ l) p h = let e : q ≡ p = cc in ap (λ z. Some z.0) e

module _ {K T V : Type 0} (pairs : T → List (K × V)) where
  pub seated_one : (t : T) (p : K × V) → slice_get (pairs t) 0 ≡ Some p → IsSeated pairs (pairs t ++ []) ((p.0, t) ∷ [])
  seated_one t p h = record { flat_is = refl; leads = (key_first (pairs t) p h, tt); some = omega arith; bound = omega arith }

  pub seated_two : (t u : T) (p q : K × V) → slice_get (pairs t) 0 ≡ Some p → slice_get (pairs u) 0 ≡ Some q → IsSeated pairs (pairs t ++ pairs u) ((p.0, t) ∷ (q.0, u) ∷ [])
  seated_two t u p q h k = record {
    flat_is = ap (λ l. pairs t ++ l) (append-nil (pairs u));
    leads = (key_first (pairs t) p h, (key_first (pairs u) q k, tt));
    some = omega arith;
    bound = omega arith;
  }

  module _ (row new : List (K × T)) (a n : ℕ) (mid : List (K × V)) (seat : IsSeated pairs mid new) where
    pub put_flat : flat pairs (take a row ++ (new ++ drop (a + n) row)) ≡ flat pairs (take a row) ++ (mid ++ flat pairs (drop (a + n) row))
    put_flat = flat-append pairs (take a row) (new ++ drop (a + n) row) ∙ ap (λ l. flat pairs (take a row) ++ l) (flat-append pairs new (drop (a + n) row) ∙ ap (λ l. l ++ flat pairs (drop (a + n) row)) seat.flat_is)

    pub put_leads : HasFirstKeys pairs row → HasFirstKeys pairs (take a row ++ (new ++ drop (a + n) row))
    put_leads leads = leads-append pairs (take a row) (new ++ drop (a + n) row) (leads-take pairs row a leads) (leads-append pairs new (drop (a + n) row) seat.leads (leads-drop pairs row (a + n) leads))

    pub put_length : a + n ≤ length row → length (take a row ++ (new ++ drop (a + n) row)) + n ≡ length row + length new
    put_length h = omega (arith, length-append (take a row) (new ++ drop (a + n) row), length-append new (drop (a + n) row), length-take a row, length-drop (a + n) row)

  pub flat_high : (row : List (K × T)) (i : ℕ) (x : K × T) → slice_get row (i + 1) ≡ Some x → flat pairs (drop (suc i) row) ≡ pairs x.1 ++ flat pairs (drop (i + 2) row)
  flat_high row i x h =
      let h' : slice_get row (suc i) ≡ Some x = subst (λ q. slice_get row q ≡ Some x) {x = i + 1} (omega arith) h in
      let e : drop (suc i) row ≡ x ∷ drop (i + 2) row = subst (λ q. drop (suc i) row ≡ x ∷ drop q row) {x = suc (suc i)} (omega arith) (drop_head row (suc i) x h') in
      ap (flat pairs) e

  pub flat_low : (row : List (K × T)) (i : ℕ) (x : K × T) → 0 < i → slice_get row (i - 1) ≡ Some x → flat pairs (take i row) ≡ flat pairs (take (i - 1) row) ++ pairs x.1
  flat_low row zero x some h = absurd (omega arith)
  flat_low row (suc i) x some h =
      let e : suc i - 1 ≡ i = omega arith in
      let h' : slice_get row i ≡ Some x = subst (λ q. slice_get row q ≡ Some x) e h in
      subst (λ q. flat pairs (take (suc i) row) ≡ flat pairs (take q row) ++ pairs x.1) (sym e) (ap (flat pairs) (take_last row i x h') ∙ flat-append pairs (take i row) (x ∷ []) ∙ ap (λ l. flat pairs (take i row) ++ l) (append-nil (pairs x.1)))

module _ {K V : Type 0} {cmp : K → K → Ordering} (o : IsTotalOrder cmp) where
  pub joins_high : (before rest following high after : List (K × V)) → following ≡ high ++ after → IsOrdered cmp (before ++ (rest ++ following)) → IsOrdered cmp (rest ++ high)
  joins_high before rest following high after e s =
      let s' : IsOrdered cmp (rest ++ (high ++ after)) = subst (λ l. IsOrdered cmp (rest ++ l)) e (ordered-right o before (rest ++ following) s) in
      ordered-left o (rest ++ high) after (subst (IsOrdered cmp) (sym (append_assoc rest high after)) s')

  pub joins_low : (before low earlier rest after : List (K × V)) → earlier ≡ before ++ low → IsOrdered cmp (earlier ++ (rest ++ after)) → IsOrdered cmp (low ++ rest)
  joins_low before low earlier rest after e s =
      let s' : IsOrdered cmp ((before ++ low) ++ (rest ++ after)) = subst (λ l. IsOrdered cmp (l ++ (rest ++ after))) e s in
      let t : IsOrdered cmp (low ++ (rest ++ after)) = ordered-right o before (low ++ (rest ++ after)) (subst (IsOrdered cmp) (append_assoc before low (rest ++ after)) s') in
      ordered-left o (low ++ rest) after (subst (IsOrdered cmp) (sym (append_assoc low rest after)) t)

module _ {K T V : Type 0} {cmp : K → K → Ordering} (o : IsTotalOrder cmp) (pairs : T → List (K × V)) (row : List (K × T)) (key : K) (i : ℕ) (x : K × T) (grown : IsGrown cmp pairs row) (place : IsPlace cmp row key i) (here : slice_get row i ≡ Some x) where
  one_on : i + 1 ≡ suc i
  one_on = omega arith

  pub with_flat : (v : V) (new : List (K × T)) → IsSeated pairs (insert_entry cmp (pairs x.1) key v) new → flat pairs (take i row ++ (new ++ drop (i + 1) row)) ≡ insert_entry cmp (flat pairs row) key v
  with_flat v new seat = put_flat pairs row new i 1 (insert_entry cmp (pairs x.1) key v) seat ∙ ap (λ q. flat pairs (take i row) ++ (insert_entry cmp (pairs x.1) key v ++ flat pairs (drop q row))) one_on ∙ sym (inserted o pairs row key i x grown place here v)

  pub with_grown : (v : V) (new : List (K × T)) → IsSeated pairs (insert_entry cmp (pairs x.1) key v) new → IsGrown cmp pairs (take i row ++ (new ++ drop (i + 1) row))
  with_grown v new seat = record {
    some = omega (arith, put_length pairs row new i 1 (insert_entry cmp (pairs x.1) key v) seat (omega (arith, place.within)), seat.some, place.within);
    leads = put_leads pairs row new i 1 (insert_entry cmp (pairs x.1) key v) seat grown.leads;
    ordered = subst (IsOrdered cmp) (sym (with_flat v new seat)) (insert_ordered o key (flat pairs row) v grown.ordered);
  }

  pub with_bound : (v : V) (new : List (K × T)) → IsSeated pairs (insert_entry cmp (pairs x.1) key v) new → length (take i row ++ (new ++ drop (i + 1) row)) ≤ length row + 1
  with_bound v new seat = omega (arith, put_length pairs row new i 1 (insert_entry cmp (pairs x.1) key v) seat (omega (arith, place.within)), seat.bound, place.within)

  -- the row after the part has become `rest`
  pub rest_flat : (rest : List (K × V)) → rest ≡ remove_entry (is_at (cmp key)) (pairs x.1) → flat pairs (take i row) ++ (rest ++ flat pairs (drop (suc i) row)) ≡ remove_entry (is_at (cmp key)) (flat pairs row)
  rest_flat rest e = ap (λ l. flat pairs (take i row) ++ (l ++ flat pairs (drop (suc i) row))) e ∙ sym (removed o pairs row key i x grown place here)

  pub rest_ordered : (rest : List (K × V)) → rest ≡ remove_entry (is_at (cmp key)) (pairs x.1) → IsOrdered cmp (flat pairs (take i row) ++ (rest ++ flat pairs (drop (suc i) row)))
  rest_ordered rest e = subst (IsOrdered cmp) (sym (rest_flat rest e)) (remove_ordered o key (flat pairs row) grown.ordered)

  pub gone_flat : [] ≡ remove_entry (is_at (cmp key)) (pairs x.1) → flat pairs (take i row ++ ([] ++ drop (i + 1) row)) ≡ remove_entry (is_at (cmp key)) (flat pairs row)
  gone_flat e = flat-append pairs (take i row) (drop (i + 1) row) ∙ ap (λ q. flat pairs (take i row) ++ flat pairs (drop q row)) one_on ∙ rest_flat [] e

  pub gone_changed : [] ≡ remove_entry (is_at (cmp key)) (pairs x.1) → IsChanged cmp pairs (length row) (take i row ++ ([] ++ drop (i + 1) row))
  gone_changed e = record {
    leads = leads-append pairs (take i row) (drop (i + 1) row) (leads-take pairs row i grown.leads) (leads-drop pairs row (i + 1) grown.leads);
    ordered = subst (IsOrdered cmp) (sym (gone_flat e)) (remove_ordered o key (flat pairs row) grown.ordered);
    bound = omega (arith, length-append (take i row) (drop (i + 1) row), length-take i row, length-drop (i + 1) row, place.within);
  }

-- a row in which a part has become `rest`, alone or with a neighbour
module _ {K T V : Type 0} (pairs : T → List (K × V)) (row new : List (K × T)) (i : ℕ) (rest : List (K × V)) where
  pub same_flat : IsSeated pairs rest new → flat pairs (take i row ++ (new ++ drop (i + 1) row)) ≡ flat pairs (take i row) ++ (rest ++ flat pairs (drop (suc i) row))
  same_flat seat =
      let e : i + 1 ≡ suc i = omega arith in
      put_flat pairs row new i 1 rest seat ∙ ap (λ q. flat pairs (take i row) ++ (rest ++ flat pairs (drop q row))) e

  pub high_flat : (x : K × T) → slice_get row (i + 1) ≡ Some x → IsSeated pairs (rest ++ pairs x.1) new → flat pairs (take i row ++ (new ++ drop (i + 2) row)) ≡ flat pairs (take i row) ++ (rest ++ flat pairs (drop (suc i) row))
  high_flat x here seat =
      let after = flat pairs (drop (i + 2) row) in
      put_flat pairs row new i 2 (rest ++ pairs x.1) seat ∙ ap (λ l. flat pairs (take i row) ++ l) (append_assoc rest (pairs x.1) after ∙ ap (λ l. rest ++ l) (sym (flat_high pairs row i x here)))

  pub low_flat : (x : K × T) → 0 < i → slice_get row (i - 1) ≡ Some x → IsSeated pairs (pairs x.1 ++ rest) new → flat pairs (take (i - 1) row ++ (new ++ drop (i - 1 + 2) row)) ≡ flat pairs (take i row) ++ (rest ++ flat pairs (drop (suc i) row))
  low_flat x some here seat =
      let e : i - 1 + 2 ≡ suc i = omega arith in
      let before = flat pairs (take (i - 1) row) in
      let after = flat pairs (drop (suc i) row) in
      put_flat pairs row new (i - 1) 2 (pairs x.1 ++ rest) seat
      ∙ ap (λ q. before ++ ((pairs x.1 ++ rest) ++ flat pairs (drop q row))) e
      ∙ ap (λ l. before ++ l) (append_assoc (pairs x.1) rest after)
      ∙ sym (append_assoc before (pairs x.1) (rest ++ after))
      ∙ ap (λ l. l ++ (rest ++ after)) (sym (flat_low pairs row i x some here))

-- as many parts put in as taken out, or fewer
pub put_bound : {K T V : Type 0} (pairs : T → List (K × V)) (row new : List (K × T)) (a n : ℕ) → length new ≤ n → a + n ≤ length row → length (take a row ++ (new ++ drop (a + n) row)) ≤ length row
put_bound pairs row new a n small within = omega (arith, length-append (take a row) (new ++ drop (a + n) row), length-append new (drop (a + n) row), length-take a row, length-drop (a + n) row)

pub seated_single : {K T V : Type 0} (pairs : T → List (K × V)) (t : T) (p : K × V) → slice_get (pairs t) 0 ≡ Some p → IsSeated pairs (pairs t) ((p.0, t) ∷ [])
seated_single pairs t p h = record { flat_is = append-nil (pairs t); leads = (key_first (pairs t) p h, tt); some = omega arith; bound = omega arith }

-- three facts of a row at an Ok, as one
pub changed : {K T V E : Type 0} (cmp : K → K → Ordering) (pairs : T → List (K × V)) (r : Result (List (K × T)) E) (all : List (K × V)) (n : ℕ) → IsOrdered cmp all → IfOk r (λ q. flat pairs q ≡ all) → IfOk r (HasFirstKeys pairs) → IfOk r (λ q. length q ≤ n) → IfOk r (IsChanged cmp pairs n)
changed cmp pairs (Err e) all n s f l b = tt
changed cmp pairs (Ok q) all n s f l b = record { leads = l; ordered = subst (IsOrdered cmp) (sym f) s; bound = b }
