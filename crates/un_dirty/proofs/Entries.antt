-- The numbers of areas in cells: what is there once one is put in or taken out, and the walk over those of one cell.
use Rattle.std.proofs.Common.{◌≡◌, ℕ, ◌<◌, ◌≤◌, Bool, true, false, not, ◌&&◌, cond, List, [], ◌∷◌, None, Some, refl, sym, ◌∙◌, ap, subst, arith, true≢false}
use Rattle.std.specs.declared.cmp.Ordering.{Ordering}
use Rattle.std.specs.declared.cmp.Ordering.TheVariants.{Less, Equal, Greater}
use Rattle.std.specs.declared.ops.Bound.TheVariants.{Included}
use Rattle.std.specs.Ordering.{nat_cmp, is_eq, is_lt, ordering_then}
use Rattle.std.specs.Cmp.{Equal-is, ranked}
use Rattle.std.specs.FinMap.{nat_cmp-IsAntisymmetric}
use Rattle.std.specs.List.{AllByRecursion}
use Rattle.std.specs.List.Sorted.{IsStrictlySortedBy}
use Rattle.std.specs.Map.{lookup, remove_entry, keys_of}
use Rattle.std.specs.BTreeMap.{is_at, insert_entry}
use Rattle.std.specs.Option.{is_some}
use Rattle.un_geom.specs.declared.point.Point.{Point}
use Rattle.un_geom.specs.Rectangle.{Rectangle}
use Rattle.un_geom.specs.Places.{covers}
use Rattle.un_pages.specs.Pairs.{IsOrdered, is_reached, from_on}
use Rattle.un_dirty.specs.declared.cells.Cell.{Cell}
use Rattle.un_dirty.specs.declared.cells.Entry.{Entry}
use Rattle.un_dirty.specs.contracts.cells.EntryOrd.TheImpl as order
use Rattle.un_dirty.specs.Cells.{CellMap, cell_cmp, entry_of, entry_cmp, first_entry, same_cell, IsIn, KeepsFor, KeepsOthers, covers_at}
use Rattle.un_dirty.proofs.Lookups.{put_here, put_elsewhere, taken_elsewhere, kept_ordered, all_pass, found_above, found_kept}
use Rattle.un_dirty.proofs.Numbering.{equal}

-- the order that the derive gives
pub orders : order.ghosts.cmp ≡ entry_cmp
orders = refl

-- ---- entries that are one

cell_itself : (k : Cell) → cell_cmp k k ≡ Equal
cell_itself k =
    ap (λ o. ordering_then o (ordering_then (nat_cmp k.column k.column) (nat_cmp k.row k.row))) (equal k.level)
    ∙ ap (λ o. ordering_then o (nat_cmp k.row k.row)) (equal k.column)
    ∙ equal k.row

both : (a b : Ordering) → ordering_then a b ≡ Equal → (a ≡ Equal) × (b ≡ Equal)
both Less b e = cc
both Equal b e = (refl, e)
both Greater b e = cc

cell_ties : (a b : Cell) → cell_cmp a b ≡ Equal → a ≡ b
cell_ties a b e =
    let f = both (nat_cmp a.level b.level) (ordering_then (nat_cmp a.column b.column) (nat_cmp a.row b.row)) e in
    let g = both (nat_cmp a.column b.column) (nat_cmp a.row b.row) f.1 in
    let levels = nat_cmp-IsAntisymmetric a.level b.level f.0 in
    let columns = nat_cmp-IsAntisymmetric a.column b.column g.0 in
    let rows = nat_cmp-IsAntisymmetric a.row b.row g.1 in
    λ i. record { level = levels i; column = columns i; row = rows i }

entry_itself : (e : Entry) → entry_cmp e e ≡ Equal
entry_itself e = ap (λ o. ordering_then o (nat_cmp e.number e.number)) (cell_itself e.cell) ∙ equal e.number

entry_ties : (a b : Entry) → entry_cmp a b ≡ Equal → a ≡ b
entry_ties a b e =
    let f = both (cell_cmp a.cell b.cell) (nat_cmp a.number b.number) e in
    let cells = cell_ties a.cell b.cell f.0 in
    let numbers = nat_cmp-IsAntisymmetric a.number b.number f.1 in
    λ i. record { cell = cells i; number = numbers i }

entry_is : (a b : Entry) → is_eq (entry_cmp a b) ≡ true → a ≡ b
entry_is a b e = entry_ties a b ((Equal-is (entry_cmp a b)).0 e)

-- ---- an entry more, an entry less

module _ (r : Rectangle) (cells : CellMap) where
  pub number_put : (k : Cell) (n : ℕ) → IsIn k n r (insert_entry entry_cmp cells (entry_of k n) r)
  number_put k n = put_here entry_cmp entry_itself (entry_of k n) r cells

  pub kept_put : (e : Entry) → KeepsFor e.number r cells (insert_entry entry_cmp cells e r)
  kept_put e k n s same h = by (is_eq (entry_cmp (entry_of k n) e)) refl
    where
      by : (b : Bool) → is_eq (entry_cmp (entry_of k n) e) ≡ b → IsIn k n s (insert_entry entry_cmp cells e r)
      by true t =
          let here = entry_is (entry_of k n) e t in
          subst (λ d. IsIn k n s (insert_entry entry_cmp cells d r)) here (number_put k n ∙ ap (λ q. Some q) (sym (same (ap (λ e. e.number) here))))
      by false t = put_elsewhere entry_cmp entry_ties e (entry_of k n) r cells t ∙ h

pub kept_taken : (cells : CellMap) (e : Entry) → KeepsOthers e.number cells (remove_entry (is_at (entry_cmp e)) cells)
kept_taken cells e k n s d h = by (is_eq (entry_cmp (entry_of k n) e)) refl
  where
    by : (b : Bool) → is_eq (entry_cmp (entry_of k n) e) ≡ b → IsIn k n s (remove_entry (is_at (entry_cmp e)) cells)
    by true t = absurd (d (ap (λ e. e.number) (entry_is (entry_of k n) e t)))
    by false t = taken_elsewhere entry_cmp entry_ties e (entry_of k n) cells t ∙ h

-- ---- the walk over one cell

-- the rest begins in the cell or after it, and has each number of the cell whose rectangle there and whose area cover the point
pub record IsToCome (k : Cell) (p : Point) (areas : List (ℕ × Rectangle)) (cells rest : CellMap) : Type 0 where
  pub ordered : IsOrdered entry_cmp rest
  pub reached : AllByRecursion (λ e. is_reached entry_cmp (Included (first_entry k)) e ≡ true) (keys_of rest)
  pub all : (n : ℕ) → (r : Rectangle) → IsIn k n r cells → covers r p ≡ true → covers_at p n areas ≡ true → IsIn k n r rest

module _ (k : Cell) (p : Point) (areas : List (ℕ × Rectangle)) (cells : CellMap) where
  begun : (n : ℕ) → is_reached entry_cmp (Included (first_entry k)) (entry_of k n) ≡ true
  begun n = ap (λ o. not (is_lt (ordering_then o (nat_cmp n 0)))) (cell_itself k) ∙ by (nat_cmp n 0) refl
    where
      by : (o : Ordering) → nat_cmp n 0 ≡ o → not (is_lt o) ≡ true
      by Less e = let low : n < 0 = ranked n 0 Less (sym e) in absurd (omega (arith, low))
      by Equal e = refl
      by Greater e = refl

  pub all_to_come : IsOrdered entry_cmp cells → IsToCome k p areas cells (from_on entry_cmp (Included (first_entry k)) cells)
  all_to_come s = record {
    ordered = kept_ordered (λ e. is_reached entry_cmp (Included (first_entry k)) e.0) entry_cmp cells s;
    reached = all_pass (is_reached entry_cmp (Included (first_entry k))) cells;
    all = λ n r h o c. found_kept entry_cmp entry_ties (is_reached entry_cmp (Included (first_entry k))) (entry_of k n) cells (begun n) ∙ h;
  }

  pub none_left : IsToCome k p areas cells [] → (n : ℕ) → (r : Rectangle) → IsIn k n r cells → covers r p ≡ true → covers_at p n areas ≡ true → ⊥
  none_left is n r h o c = let there : None ≡ Some r = is.all n r h o c in cc

  module _ (x : Entry × Rectangle) (left : CellMap) (is : IsToCome k p areas cells (x ∷ left)) where
    -- a number of the cell is the next one, or after it
    next_or_later : (n : ℕ) (r : Rectangle) → IsIn k n r (x ∷ left) → (A : Type 0) → (entry_of k n ≡ x.0 → x.1 ≡ r → A) → (IsIn k n r left → A) → A
    next_or_later n r h A here later = by (is_eq (entry_cmp (entry_of k n) x.0)) refl h
      where
        by : (b : Bool) → is_eq (entry_cmp (entry_of k n) x.0) ≡ b → cond b (Some x.1) (lookup (is_at (entry_cmp (entry_of k n))) left) ≡ Some r → A
        by true t h = let same : x.1 ≡ r = cc in here (entry_is (entry_of k n) x.0 t) same
        by false t h = later h

    after : (n : ℕ) (r : Rectangle) → IsIn k n r left → entry_cmp x.0 (entry_of k n) ≡ Less
    unfolding IsStrictlySortedBy
    after n r h = found_above entry_cmp entry_ties x.0 (entry_of k n) left is.ordered.0 (ap is_some h)

    both_cover : (n : ℕ) (r : Rectangle) → entry_of k n ≡ x.0 → x.1 ≡ r → covers r p ≡ true → covers_at p n areas ≡ true
        → (covers x.1 p && covers_at p x.0.number areas) ≡ true
    both_cover n r e same o c =
        ap (λ q. covers q p && covers_at p x.0.number areas) same ∙ ap (λ b. b && covers_at p x.0.number areas) o
        ∙ sym (ap (λ e. covers_at p e.number areas) e) ∙ c

    pub past : (covers x.1 p && covers_at p x.0.number areas) ≡ false → IsToCome k p areas cells left
    unfolding IsStrictlySortedBy
    past off = record {
      ordered = is.ordered.1;
      reached = is.reached.1;
      all = λ n r h o c. next_or_later n r (is.all n r h o c) (IsIn k n r left)
          (λ e same. absurd (true≢false (sym (both_cover n r e same o c) ∙ off)))
          (λ h. h);
    }

    pub least_here : same_cell x.0.cell k ≡ true → (n : ℕ) → (r : Rectangle) → IsIn k n r cells → covers r p ≡ true → covers_at p n areas ≡ true → x.0.number ≤ n
    least_here one n r h o c = next_or_later n r (is.all n r h o c) (x.0.number ≤ n)
        (λ e _. let same : n ≡ x.0.number = ap (λ e. e.number) e in omega (arith, same))
        (λ h.
        let tied : nat_cmp x.0.number n ≡ Less = sym (ap (λ o. ordering_then o (nat_cmp x.0.number n)) ((Equal-is (cell_cmp x.0.cell k)).0 one)) ∙ after n r h in
        let low : x.0.number < n = ranked x.0.number n Less (sym tied) in
        omega (arith, low))

    pub none_beyond : same_cell x.0.cell k ≡ false → (n : ℕ) → (r : Rectangle) → IsIn k n r cells → covers r p ≡ true → covers_at p n areas ≡ true → ⊥
    none_beyond off n r h o c = next_or_later n r (is.all n r h o c) ⊥
        (λ e _. true≢false (sym (ap is_eq (cell_itself k)) ∙ ap (λ e. same_cell e.cell k) e ∙ off))
        (λ h. by (cell_cmp x.0.cell k) off is.reached.0 (after n r h))
      where
        by : (o : Ordering) → is_eq o ≡ false → not (is_lt (ordering_then o (nat_cmp x.0.number 0))) ≡ true → ordering_then o (nat_cmp x.0.number n) ≡ Less → ⊥
        by Less off reached below = true≢false (sym reached)
        by Equal off reached below = true≢false off
        by Greater off reached below = cc
