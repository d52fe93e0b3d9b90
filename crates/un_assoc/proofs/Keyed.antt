-- What a look-up finds and what an edit leaves, of pairs in which each value stands under its own key.
use Rattle.std.proofs.Common.{◌≡◌, Bool, true, false, not, List, [], ◌∷◌, ◌++◌, find, Some, None, cond, refl, sym, ◌∙◌, ap, subst}
use Rattle.std.specs.declared.cmp.Ordering.{Ordering}
use Rattle.std.specs.declared.cmp.Ordering.TheVariants.{Less, Equal, Greater}
use Rattle.std.specs.Ordering.{is_eq, match_ordering}
use Rattle.std.specs.Cmp.{IsTotalOrder}
use Rattle.std.specs.List.{filter, AllByRecursion}
use Rattle.std.specs.List.Sorted.{IsStrictlySortedBy}
use Rattle.std.specs.Map.{keys_of, values_of, lookup, remove_entry}
use Rattle.std.specs.BTreeMap.{is_at, insert_entry}
use Rattle.std.specs.BTreeSet.{insert_key}
use Rattle.un_pages.specs.Pairs.{IsOrdered, IsAbove}
use Rattle.un_pages.proofs.Ordered.{above_first}
use Rattle.un_assoc.specs.Indexes.{AreKeyed}

module _ {K V : Type 0} {cmp : K → K → Ordering} (o : IsTotalOrder cmp) (tie : (a b : K) → cmp a b ≡ Equal → a ≡ b)
    (same : K → K → Bool) (same_is : (a b : K) → is_eq (cmp a b) ≡ same b a) (key : V → K) where
  head_key : (p : K × V) (ps : List (K × V)) → AreKeyed key (p ∷ ps) → p.0 ≡ key p.1
  head_key p ps e = cc

  tail_keys : (p : K × V) (ps : List (K × V)) → AreKeyed key (p ∷ ps) → AreKeyed key ps
  tail_keys p ps e = cc

  module _ (k : K) where
    here_is : (p : K × V) (ps : List (K × V)) → AreKeyed key (p ∷ ps) → is_eq (cmp k p.0) ≡ same (key p.1) k
    here_is p ps e = same_is k p.0 ∙ ap (λ n. same n k) (head_key p ps e)

    -- ---- a look-up

    pub lookup_is : (ps : List (K × V)) → AreKeyed key ps → lookup (is_at (cmp k)) ps ≡ find (λ v. same (key v) k) (values_of ps)
    lookup_is [] e = refl
    lookup_is (p ∷ ps) e =
        ap (λ b. cond b (Some p.1) (lookup (is_at (cmp k)) ps)) (here_is p ps e) ∙ ap (λ l. cond (same (key p.1) k) (Some p.1) l) (lookup_is ps (tail_keys p ps e))

    -- ---- a new value

    pub insert_last : (v : V) (ps : List (K × V)) → AllByRecursion (λ p. cmp k p.0 ≡ Greater) ps → values_of (insert_entry cmp ps k v) ≡ values_of ps ++ v ∷ []
    insert_last v [] h = refl
    insert_last v (p ∷ ps) h =
        ap (λ r. values_of (match_ordering r ((k, v) ∷ p ∷ ps) ((p.0, v) ∷ ps) (p ∷ insert_entry cmp ps k v))) h.0 ∙ ap (λ l. p.1 ∷ l) (insert_last v ps h.1)

    pub insert_keys : (v : V) (ps : List (K × V)) → key v ≡ k → AreKeyed key ps → AreKeyed key (insert_entry cmp ps k v)
    insert_keys v [] own e = ap (λ n. n ∷ []) (sym own)
    insert_keys v (p ∷ ps) own e = by (cmp k p.0) refl (insert_keys v ps own (tail_keys p ps e))
      where
        by : (r : Ordering) → cmp k p.0 ≡ r → AreKeyed key (insert_entry cmp ps k v) → AreKeyed key (match_ordering r ((k, v) ∷ p ∷ ps) ((p.0, v) ∷ ps) (p ∷ insert_entry cmp ps k v))
        by Less c ih = ap (λ n. n ∷ keys_of (p ∷ ps)) (sym own) ∙ ap (λ l. key v ∷ l) e
        by Equal c ih = ap (λ n. n ∷ keys_of ps) (sym (tie k p.0 c) ∙ sym own) ∙ ap (λ l. key v ∷ l) (tail_keys p ps e)
        by Greater c ih = ap (λ n. n ∷ keys_of (insert_entry cmp ps k v)) (head_key p ps e) ∙ ap (λ l. key p.1 ∷ l) ih

    pub insert_new : (v : V) (ps : List (K × V)) → key v ≡ k → AreKeyed key ps → lookup (is_at (cmp k)) ps ≡ None
        → values_of (insert_entry cmp ps k v) ≡ insert_key (λ x y. cmp (key x) (key y)) (values_of ps) v
    insert_new v [] own e none = refl
    insert_new v (p ∷ ps) own e none = by (cmp k p.0) refl none (insert_new v ps own (tail_keys p ps e))
      where
        compared : cmp k p.0 ≡ cmp (key v) (key p.1)
        compared = ap (λ n. cmp n p.0) (sym own) ∙ ap (cmp (key v)) (head_key p ps e)

        by : (r : Ordering) → cmp k p.0 ≡ r → cond (is_eq r) (Some p.1) (lookup (is_at (cmp k)) ps) ≡ None
            → (lookup (is_at (cmp k)) ps ≡ None → values_of (insert_entry cmp ps k v) ≡ insert_key (λ x y. cmp (key x) (key y)) (values_of ps) v)
            → values_of (match_ordering r ((k, v) ∷ p ∷ ps) ((p.0, v) ∷ ps) (p ∷ insert_entry cmp ps k v))
            ≡ match_ordering (cmp (key v) (key p.1)) (v ∷ values_of (p ∷ ps)) (values_of (p ∷ ps)) (p.1 ∷ insert_key (λ x y. cmp (key x) (key y)) (values_of ps) v)
        by Less c none ih = ap (λ r. match_ordering r (v ∷ values_of (p ∷ ps)) (values_of (p ∷ ps)) (p.1 ∷ insert_key (λ x y. cmp (key x) (key y)) (values_of ps) v)) (sym c ∙ compared)
        by Equal c none ih = cc
        by Greater c none ih =
            ap (λ l. p.1 ∷ l) (ih none)
            ∙ ap (λ r. match_ordering r (v ∷ values_of (p ∷ ps)) (values_of (p ∷ ps)) (p.1 ∷ insert_key (λ x y. cmp (key x) (key y)) (values_of ps) v)) (sym c ∙ compared)

    -- ---- a value that goes

    -- values above a key stay
    kept : (ps : List (K × V)) → AreKeyed key ps → IsAbove cmp k ps → filter (λ v. not (same (key v) k)) (values_of ps) ≡ values_of ps
    kept [] e a = refl
    kept (p ∷ ps) e a =
        let other : same (key p.1) k ≡ false = sym (here_is p ps e) ∙ ap is_eq a.0 in
        ap (λ b. cond (not b) (p.1 ∷ filter (λ v. not (same (key v) k)) (values_of ps)) (filter (λ v. not (same (key v) k)) (values_of ps))) other
        ∙ ap (λ l. p.1 ∷ l) (kept ps (tail_keys p ps e) a.1)

    pub remove_is : (ps : List (K × V)) → IsOrdered cmp ps → AreKeyed key ps
        → values_of (remove_entry (is_at (cmp k)) ps) ≡ filter (λ v. not (same (key v) k)) (values_of ps)
    unfolding IsStrictlySortedBy
    remove_is [] s e = refl
    remove_is (p ∷ ps) s e = by (is_eq (cmp k p.0)) refl (remove_is ps s.1 (tail_keys p ps e))
      where
        is_Equal : (r : Ordering) → is_eq r ≡ true → r ≡ Equal
        is_Equal Less t = cc
        is_Equal Equal t = refl
        is_Equal Greater t = cc

        by : (b : Bool) → is_eq (cmp k p.0) ≡ b → values_of (remove_entry (is_at (cmp k)) ps) ≡ filter (λ v. not (same (key v) k)) (values_of ps)
            → values_of (cond b ps (p ∷ remove_entry (is_at (cmp k)) ps)) ≡ filter (λ v. not (same (key v) k)) (values_of (p ∷ ps))
        by true c ih =
            let here : same (key p.1) k ≡ true = sym (here_is p ps e) ∙ c in
            let above : IsAbove cmp k ps = subst (λ n. IsAbove cmp n ps) (sym (tie k p.0 (is_Equal (cmp k p.0) c))) (above_first o p ps s) in
            sym (kept ps (tail_keys p ps e) above)
            ∙ ap (λ b. cond (not b) (p.1 ∷ filter (λ v. not (same (key v) k)) (values_of ps)) (filter (λ v. not (same (key v) k)) (values_of ps))) (sym here)
        by false c ih =
            let other : same (key p.1) k ≡ false = sym (here_is p ps e) ∙ c in
            ap (λ l. p.1 ∷ l) ih
            ∙ ap (λ b. cond (not b) (p.1 ∷ filter (λ v. not (same (key v) k)) (values_of ps)) (filter (λ v. not (same (key v) k)) (values_of ps))) (sym other)

    pub remove_keys : (ps : List (K × V)) → AreKeyed key ps → AreKeyed key (remove_entry (is_at (cmp k)) ps)
    remove_keys [] e = refl
    remove_keys (p ∷ ps) e = elim (is_eq (cmp k p.0)) as (λ b. AreKeyed key (cond b ps (p ∷ remove_entry (is_at (cmp k)) ps))) [
      | true ↦ tail_keys p ps e
      | false ↦ ap (λ n. n ∷ keys_of (remove_entry (is_at (cmp k)) ps)) (head_key p ps e) ∙ ap (λ l. key p.1 ∷ l) (remove_keys ps (tail_keys p ps e))
    ]
