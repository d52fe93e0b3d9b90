-- The place at which a port goes into a rising list.
use Rattle.std.proofs.Common.{◌≡◌, ◌≢◌, ℕ, suc, ◌+◌, ◌≤◌, nat_lt, Bool, true, false, not, cond, List, [], ◌∷◌, ◌++◌, take, drop, insert, length, position, slice_get, Some, None, refl, sym, ap, subst, ◌∙◌, arith}
use Rattle.std.specs.declared.cmp.Ordering.{Ordering}
use Rattle.std.specs.declared.cmp.Ordering.TheVariants.{Less, Equal, Greater}
use Rattle.std.specs.Ordering.{is_gt, match_ordering, ordering_reverse}
use Rattle.std.specs.List.{position_or_len}
use Rattle.std.specs.BTreeSet.{insert_key}
use Rattle.un_defs.specs.declared.port.Port.{Port}
use Rattle.un_defs.specs.Orders.{port_cmp}
use Rattle.un_defs.proofs.OrderLaws.{port_total, port_ties}

itself : (q : Port) → port_cmp q q ≡ Equal
itself q = go (port_cmp q q) refl
  where
    go : (k : Ordering) → port_cmp q q ≡ k → k ≡ Equal
    go Less e = let f : Less ≡ Greater = sym e ∙ port_total.antisymm q q ∙ ap ordering_reverse e in cc
    go Equal e = refl
    go Greater e = let f : Greater ≡ Less = sym e ∙ port_total.antisymm q q ∙ ap ordering_reverse e in cc

abbrev not_below : Port → Port → Bool
not_below k q = not (is_gt (port_cmp k q))

onward : (xs : List Port) (x : Port) (n : ℕ) → slice_get (x ∷ xs) (1 + n) ≡ slice_get xs n
onward xs x n = let e : 1 + n ≡ suc n = omega arith in ap (slice_get (x ∷ xs)) e

at_most : (p : Port → Bool) (xs : List Port) → position_or_len p xs ≤ length xs
at_most p [] = omega arith
at_most p (x ∷ xs) = go (p x) (at_most p xs)
  where
    go : (b : Bool) → position_or_len p xs ≤ length xs → cond (not b) (1 + position_or_len p xs) 0 ≤ length (x ∷ xs)
    go true l = omega arith
    go false l = omega (arith, l)

is_below : (n m : ℕ) → n ≤ m → nat_lt n m ≡ false → m ≡ n
is_below n m l e = grind (arith, l, e)

pub at_place : (p : Port → Bool) (xs : List Port) (i : ℕ) → position p xs ≡ Some i → (i ≡ position_or_len p xs) × (i ≤ length xs)
at_place p xs i e = go (nat_lt (position_or_len p xs) (length xs)) e
  where
    some_same : {a b : ℕ} → Some a ≡ Some b → b ≡ a
    some_same e = cc

    go : (b : Bool) → cond b (Some (position_or_len p xs)) None ≡ Some i → (i ≡ position_or_len p xs) × (i ≤ length xs)
    go true e = let is = some_same e in (is, subst (λ n. n ≤ length xs) (sym is) (at_most p xs))
    go false e = let f : None ≡ Some i = e in cc

pub at_end : (p : Port → Bool) (xs : List Port) → position p xs ≡ None → length xs ≡ position_or_len p xs
at_end p xs e = go (nat_lt (position_or_len p xs) (length xs)) refl e
  where
    go : (b : Bool) → nat_lt (position_or_len p xs) (length xs) ≡ b → cond b (Some (position_or_len p xs)) None ≡ None → length xs ≡ position_or_len p xs
    go true f e = let g : Some (position_or_len p xs) ≡ None = e in cc
    go false f e = is_below (position_or_len p xs) (length xs) (at_most p xs) f

pub there : (ports : List Port) (k : Port) → slice_get ports (position_or_len (not_below k) ports) ≡ Some k → ports ≡ insert_key port_cmp ports k
there [] k e = let f : None ≡ Some k = e in cc
there (x ∷ xs) k e = go (port_cmp k x) refl (there xs k) e
  where
    some_same : {a b : Port} → Some a ≡ Some b → a ≡ b
    some_same e = cc

    go : (o : Ordering) → port_cmp k x ≡ o → (slice_get xs (position_or_len (not_below k) xs) ≡ Some k → xs ≡ insert_key port_cmp xs k)
        → slice_get (x ∷ xs) (cond (not (not (is_gt o))) (1 + position_or_len (not_below k) xs) 0) ≡ Some k → x ∷ xs ≡ match_ordering o (k ∷ x ∷ xs) (x ∷ xs) (x ∷ insert_key port_cmp xs k)
    go Less f rest e = let same : Less ≡ Equal = sym f ∙ ap (port_cmp k) (some_same e) ∙ itself k in cc
    go Equal f rest e = refl
    go Greater f rest e = ap (λ l. x ∷ l) (rest (sym (onward xs x (position_or_len (not_below k) xs)) ∙ e))

pub gap : (ports : List Port) (k : Port) → slice_get ports (position_or_len (not_below k) ports) ≢ Some k
    → take (position_or_len (not_below k) ports) ports ++ k ∷ drop (position_or_len (not_below k) ports) ports ≡ insert_key port_cmp ports k
gap [] k n = refl
gap (x ∷ xs) k n = go (port_cmp k x) refl (gap xs k) n
  where
    cut : (n : ℕ) → take (1 + n) (x ∷ xs) ++ k ∷ drop (1 + n) (x ∷ xs) ≡ x ∷ (take n xs ++ k ∷ drop n xs)
    cut n = let e : 1 + n ≡ suc n = omega arith in ap (λ m. take m (x ∷ xs) ++ k ∷ drop m (x ∷ xs)) e

    go : (o : Ordering) → port_cmp k x ≡ o
        → (slice_get xs (position_or_len (not_below k) xs) ≢ Some k → take (position_or_len (not_below k) xs) xs ++ k ∷ drop (position_or_len (not_below k) xs) xs ≡ insert_key port_cmp xs k)
        → slice_get (x ∷ xs) (cond (not (not (is_gt o))) (1 + position_or_len (not_below k) xs) 0) ≢ Some k
        → take (cond (not (not (is_gt o))) (1 + position_or_len (not_below k) xs) 0) (x ∷ xs) ++ k ∷ drop (cond (not (not (is_gt o))) (1 + position_or_len (not_below k) xs) 0) (x ∷ xs)
        ≡ match_ordering o (k ∷ x ∷ xs) (x ∷ xs) (x ∷ insert_key port_cmp xs k)
    go Less f rest n = refl
    go Equal f rest n = absurd (n (ap Some (sym (port_ties k x f))))
    go Greater f rest n =
        cut (position_or_len (not_below k) xs)
        ∙ ap (λ l. x ∷ l) (rest (λ e. n (onward xs x (position_or_len (not_below k) xs) ∙ e)))

-- a copy of the list with the port put in at the place
pub placed : (all ports : List Port) (k : Port) (i : ℕ) → all ≡ ports → i ≡ position_or_len (not_below k) ports → slice_get ports i ≢ Some k → insert all i k ≡ insert_key port_cmp ports k
placed all ports k i same is new =
    (λ j. insert (same j) (is j) k) ∙ gap ports k (λ e. new (ap (slice_get ports) is ∙ e))
