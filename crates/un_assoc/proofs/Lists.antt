-- Lists of associations by rising id, and one of them taken out.
use Rattle.std.proofs.Common.{◌≡◌, ℕ, Bool, true, false, not, ◌==◌, List, [], ◌∷◌, ◌++◌, find, Some, cond, refl, sym, ◌∙◌, ap, subst, arith, eqb-true}
use Rattle.std.proofs.lemmas.Bool.Decides.{nat_tests}
use Rattle.std.proofs.lemmas.List.Elements.{filter-append}
use Rattle.std.specs.declared.cmp.Ordering.TheVariants.{Less}
use Rattle.std.specs.Ordering.{nat_cmp}
use Rattle.std.specs.List.{filter, AllByRecursion}
use Rattle.std.specs.List.Sorted.{IsStrictlySortedBy}
use Rattle.std.specs.BTreeSet.{insert_key}
use Rattle.un_defs.specs.declared.assoc.Assoc.{Assoc}
use Rattle.un_defs.specs.Orders.{rising}
use Rattle.un_defs.proofs.Unique.{from_find}
use Rattle.un_defs.specs.Features.{by_id}
use Rattle.un_assoc.specs.Indexes.{ids_of, IsRising}

-- all but those with this id
abbrev pub others : ℕ → List Assoc → List Assoc
others id = filter (λ a. not (a.id == id))

-- ---- filters

pub filter_swapped : {A : Type 0} (p q : A → Bool) (xs : List A) → filter p (filter q xs) ≡ filter q (filter p xs)
filter_swapped p q [] = refl
filter_swapped p q (x ∷ xs) = by (p x) (q x) refl refl (filter_swapped p q xs)
  where
    by : (s t : Bool) → p x ≡ s → q x ≡ t → filter p (filter q xs) ≡ filter q (filter p xs) → filter p (cond t (x ∷ filter q xs) (filter q xs)) ≡ filter q (cond s (x ∷ filter p xs) (filter p xs))
    by true true e g ih = rw (e, g) (ap (λ l. x ∷ l) ih)
    by true false e g ih = rw g ih
    by false true e g ih = rw e ih
    by false false e g ih = ih

pub filter_twice : {A : Type 0} (p : A → Bool) (xs : List A) → filter p (filter p xs) ≡ filter p xs
filter_twice p [] = refl
filter_twice p (x ∷ xs) = by (p x) refl (filter_twice p xs)
  where
    by : (s : Bool) → p x ≡ s → filter p (filter p xs) ≡ filter p xs → filter p (cond s (x ∷ filter p xs) (filter p xs)) ≡ cond s (x ∷ filter p xs) (filter p xs)
    by true e ih = rw e (ap (λ l. x ∷ l) ih)
    by false e ih = ih

pub all_filtered : {A : Type 0} (P : A → Type 0) (p : A → Bool) (xs : List A) → AllByRecursion P xs → AllByRecursion P (filter p xs)
all_filtered P p [] h = tt
all_filtered P p (x ∷ xs) h = elim (p x) as (λ b. AllByRecursion P (cond b (x ∷ filter p xs) (filter p xs))) [ true ↦ (h.0, all_filtered P p xs h.1) | false ↦ all_filtered P p xs h.1 ]

-- one element more at the end, by whether it passes
pub filter_last : {A : Type 0} (p : A → Bool) (xs : List A) (x : A) (t : Bool) → p x ≡ t → filter p (xs ++ x ∷ []) ≡ filter p xs ++ cond t (x ∷ []) []
filter_last p xs x t e = filter-append p xs (x ∷ []) ∙ ap (λ b. filter p xs ++ cond b (x ∷ []) []) e

-- ---- one association taken out

-- the associations before one and after it; without it they are all others
pub record IsSplit (associations : List Assoc) (a : Assoc) : Type 0 where
  pub before : List Assoc
  pub after : List Assoc
  pub whole : associations ≡ before ++ a ∷ after
  pub rest : others a.id associations ≡ before ++ after

all_other : (id : ℕ) (list : List Assoc) → AllByRecursion (λ k. nat_cmp id k ≡ Less) (ids_of list) → others id list ≡ list
all_other id [] h = refl
all_other id (b ∷ bs) h =
    let other : (b.id == id) ≡ false = let below = h.0 in grind (arith, nat_tests) in
    ap (λ t. cond (not t) (b ∷ others id bs) (others id bs)) other ∙ ap (λ l. b ∷ l) (all_other id bs h.1)

pub split : (a : Assoc) (list : List Assoc) → IsRising list → find (λ b. b.id == a.id) list ≡ Some a → IsSplit list a
unfolding IsStrictlySortedBy
split a [] s e = cc
split a (b ∷ bs) s e = by (b.id == a.id) refl e (split a bs s.1)
  where
    by : (t : Bool) → (b.id == a.id) ≡ t → cond t (Some b) (find (λ b. b.id == a.id) bs) ≡ Some a → (find (λ b. b.id == a.id) bs ≡ Some a → IsSplit bs a) → IsSplit (b ∷ bs) a
    by true t e ih =
        let same : b ≡ a = cc in
        record {
          before = [];
          after = bs;
          whole = ap (λ x. x ∷ bs) same;
          rest = ap (λ u. cond (not u) (b ∷ others a.id bs) (others a.id bs)) t ∙ all_other a.id bs (subst (λ n. AllByRecursion (λ k. nat_cmp n k ≡ Less) (ids_of bs)) (ap (λ x. x.id) same) s.0);
        }
    by false t e ih =
        let r = ih e in
        record {
          before = b ∷ r.before;
          after = r.after;
          whole = ap (λ l. b ∷ l) r.whole;
          rest = ap (λ u. cond (not u) (b ∷ others a.id bs) (others a.id bs)) t ∙ ap (λ l. b ∷ l) r.rest;
        }

-- a filter that passes the association by
pub filter_passed : (p : Assoc → Bool) (list : List Assoc) (a : Assoc) → IsSplit list a → p a ≡ false → filter p (others a.id list) ≡ filter p list
filter_passed p list a s e =
    ap (filter p) s.rest ∙ filter-append p s.before s.after ∙ sym (ap (filter p) s.whole ∙ filter-append p s.before (a ∷ s.after) ∙ ap (λ b. filter p s.before ++ cond b (a ∷ filter p s.after) (filter p s.after)) e)

-- and one that takes it
pub filter_took : (p : Assoc → Bool) (list : List Assoc) (a : Assoc) (s : IsSplit list a) → p a ≡ true → filter p list ≡ filter p s.before ++ a ∷ filter p s.after
filter_took p list a s e = ap (filter p) s.whole ∙ filter-append p s.before (a ∷ s.after) ∙ ap (λ b. filter p s.before ++ cond b (a ∷ filter p s.after) (filter p s.after)) e

pub filter_rest : (p : Assoc → Bool) (list : List Assoc) (a : Assoc) (s : IsSplit list a) → filter p (others a.id list) ≡ filter p s.before ++ filter p s.after
filter_rest p list a s = ap (filter p) s.rest ∙ filter-append p s.before s.after

-- ---- a list by rising id is sorted already

above_filtered : (n : ℕ) (p : Assoc → Bool) (list : List Assoc) → AllByRecursion (λ k. nat_cmp n k ≡ Less) (ids_of list) → AllByRecursion (λ k. nat_cmp n k ≡ Less) (ids_of (filter p list))
above_filtered n p [] h = tt
above_filtered n p (a ∷ list) h =
    elim (p a) as (λ b. AllByRecursion (λ k. nat_cmp n k ≡ Less) (ids_of (cond b (a ∷ filter p list) (filter p list)))) [ true ↦ (h.0, above_filtered n p list h.1) | false ↦ above_filtered n p list h.1 ]

pub rising_filtered : (p : Assoc → Bool) (list : List Assoc) → IsRising list → IsRising (filter p list)
unfolding IsStrictlySortedBy
rising_filtered p [] s = tt
rising_filtered p (a ∷ list) s =
    elim (p a) as (λ b. IsRising (cond b (a ∷ filter p list) (filter p list))) [ true ↦ (above_filtered a.id p list s.0, rising_filtered p list s.1) | false ↦ rising_filtered p list s.1 ]

insert_least : (a : Assoc) (list : List Assoc) → AllByRecursion (λ k. nat_cmp a.id k ≡ Less) (ids_of list) → insert_key by_id list a ≡ a ∷ list
insert_least a [] h = refl
insert_least a (b ∷ bs) h = let first : nat_cmp a.id b.id ≡ Less = h.0 in rw first refl

pub rising_already : (list : List Assoc) → IsRising list → rising by_id list ≡ list
unfolding IsStrictlySortedBy
rising_already [] s = refl
rising_already (a ∷ list) s = ap (λ l. insert_key by_id l a) (rising_already list s.1) ∙ insert_least a list s.0

-- ---- the association with an id

pub found_id : (list : List Assoc) (id : ℕ) (a : Assoc) → find (λ b. b.id == id) list ≡ Some a → a.id ≡ id
found_id list id a e = eqb-true a.id id (from_find (λ b. b.id == id) list a e).1

pub found_own : (list : List Assoc) (id : ℕ) (a : Assoc) → find (λ b. b.id == id) list ≡ Some a → find (λ b. b.id == a.id) list ≡ Some a
found_own list id a e = subst (λ n. find (λ b. b.id == n) list ≡ Some a) (sym (found_id list id a e)) e
