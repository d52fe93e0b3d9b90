-- Rows with their keys, after an update and after a validation.
use Rattle.std.proofs.Common.{◌≡◌, ℕ, ◌+◌, ◌<◌, Bool, true, false, not, List, [], ◌∷◌, ◌++◌, cond, refl, sym, ◌∙◌, ap, subst, arith}
use Rattle.std.proofs.lemmas.List.Elements.{All-filter, All-push}
use Rattle.std.specs.List.{filter, AllByRecursion}
use Rattle.std.specs.List.Sorted.{IsStrictlySortedBy}
use Rattle.std.specs.Map.{values_of}
use Rattle.un_geom.specs.Places.{point_cmp}
use Rattle.un_ask.specs.declared.stored.StoredSubnet.{StoredSubnet}
use Rattle.un_subnet.specs.declared.row_index.Key.{Key}
use Rattle.un_subnet.specs.Outcome.{is_row_of}
use Rattle.un_subnet.specs.Stored.{AreOrdered}
use Rattle.un_subnet.specs.RowIndex.{IsIndex, AreKept, others_in, made_in, dirty}
use Rattle.un_subnet.proofs.Numbered.{others_values}
use Rattle.un_subnet.proofs.Made.{made_below, made_concerned}
use Rattle.un_subnet.proofs.MarkedRows.{dirty_ordered}

-- the points of a row are in order
abbrev IsInOrder : StoredSubnet → Type 0
IsInOrder row = IsStrictlySortedBy point_cmp row.points

below_others : (p : StoredSubnet → Bool) (next : ℕ) (rows : List (ℕ × StoredSubnet)) → AllByRecursion (λ e. e.0 < next) rows → AllByRecursion (λ e. e.0 < next) (filter (λ e. not (p e.1)) rows)
below_others p next [] h = tt
below_others p next (e ∷ rows) h = elim (not (p e.1)) as (λ b. AllByRecursion (λ e. e.0 < next) (cond b (e ∷ filter (λ e. not (p e.1)) rows) (filter (λ e. not (p e.1)) rows))) [
  | true ↦ (h.0, below_others p next rows h.1)
  | false ↦ below_others p next rows h.1
]

below_more : (next more : ℕ) (row : StoredSubnet) (rows : List (ℕ × StoredSubnet)) → next + 1 ≡ more → AllByRecursion (λ e. e.0 < next) rows → AllByRecursion (λ e. e.0 < more) (rows ++ (next, row) ∷ [])
below_more next more row [] e h = (omega arith, tt)
below_more next more row (x ∷ rows) e h = (let low : x.0 < next = h.0 in omega arith, below_more next more row rows e h.1)

values_more : (next : ℕ) (row : StoredSubnet) (rows : List (ℕ × StoredSubnet)) → values_of rows ++ row ∷ [] ≡ values_of (rows ++ (next, row) ∷ [])
values_more next row [] = refl
values_more next row (e ∷ rows) = ap (λ l. e.1 ∷ l) (values_more next row rows)

module _ (rows : List (ℕ × StoredSubnet)) (keys : List (Key × Unit {0})) (next : ℕ) (kept : AreKept rows keys next)
    (left : List (ℕ × StoredSubnet)) (left_keys : List (Key × Unit {0})) where
  pub kept_others : (tier : ℕ) (subnet : List ℕ) → left ≡ others_in rows tier subnet → IsIndex left left_keys → AreKept left left_keys next
  kept_others tier subnet e index = record {
    ordered =
        subst (λ rows. AreOrdered (values_of rows)) (sym e)
        (subst AreOrdered (sym (others_values (is_row_of tier subnet) rows)) (All-filter (λ row. not (is_row_of tier subnet row)) IsInOrder (values_of rows) kept.ordered));
    below = subst (AllByRecursion (λ e. e.0 < next)) (sym e) (below_others (is_row_of tier subnet) next rows kept.below);
    index = index;
  }

  pub kept_added : (row : StoredSubnet) (more : ℕ) → next + 1 ≡ more → IsStrictlySortedBy point_cmp row.points → left ≡ rows ++ (next, row) ∷ [] → IsIndex left left_keys → AreKept left left_keys more
  kept_added row more one ordered e index = record {
    ordered =
        subst (λ rows. AreOrdered (values_of rows)) (sym e)
        (subst AreOrdered (values_more next row rows) (All-push IsInOrder (values_of rows) row kept.ordered ordered));
    below = subst (AllByRecursion (λ e. e.0 < more)) (sym e) (below_more next more row rows one kept.below);
    index = index;
  }

  pub kept_marked : (numbers : List ℕ) → left ≡ made_in dirty numbers rows → left_keys ≡ keys → AreKept left left_keys next
  kept_marked numbers e same = subst (λ rows. AreKept rows left_keys next) (sym e) (subst (λ keys. AreKept (made_in dirty numbers rows) keys next) (sym same) (record {
    ordered = dirty_ordered numbers rows kept.ordered;
    below = made_below dirty numbers next rows kept.below;
    index = λ q. kept.index q ∙ sym (made_concerned dirty (λ q row. refl) numbers q rows);
  }))
