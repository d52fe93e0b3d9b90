-- Lists in which the elements of one key stand together: their keys, and what is read of the elements of each key.
use Rattle.std.proofs.Common.{◌≡◌, ◌≢◌, ℕ, ◌<◌, ◌==◌, Bool, true, false, cond, List, [], ◌∷◌, ◌++◌, map, filter, inl, inr, refl, sym, ap, subst, ◌∙◌, append-nil, arith, eq-eqb, eqb-true}
use Rattle.std.specs.declared.cmp.Ordering.{Ordering}
use Rattle.std.specs.declared.cmp.Ordering.TheVariants.{Less}
use Rattle.std.specs.Ordering.{nat_cmp}
use Rattle.std.specs.List.{AllByRecursion}
use Rattle.std.specs.List.Sorted.{IsStrictlySortedBy}
use Rattle.std.specs.FinMap.{nat_cmp-IsAntisymmetric}
use Rattle.std.specs.Cmp.{nat_cmp_is}
use Rattle.std.proofs.lemmas.Cmp.{nat_cmp_total}
use Rattle.std.proofs.lemmas.List.Elements.{filter-append}
use Rattle.un_defs.specs.Orders.{rising}
use Rattle.un_defs.proofs.Rising.{Among, TiesAreOne, rising_unique, sorted-rising, among-rising, among_from-rising}
use Rattle.un_defs.proofs.Members.{among_left, among_right, among_cases, among_from-map, among-map}
use Rattle.un_defs.proofs.ListLemmas.{map-append, filter-none}

-- numbers that tie are one
pub number_ties : (xs : List ℕ) → TiesAreOne nat_cmp xs
number_ties xs x y h g e = nat_cmp-IsAntisymmetric x y e

pub less_from : (x y : ℕ) → x < y → nat_cmp x y ≡ Less
less_from x y l = sym (nat_cmp_is x y Less l)

all_end : {A : Type 0} (P : A → Type 0) (zs : List A) (y : A) → AllByRecursion P zs → P y → AllByRecursion P (zs ++ y ∷ [])
all_end P [] y all last = (last, tt)
all_end P (z ∷ zs) y all last = (all.0, all_end P zs y all.1 last)

-- a list in order stays in order with one more at its end that is above all
pub sorted_end : {A : Type 0} (cmp : A → A → Ordering) (xs : List A) (y : A) → IsStrictlySortedBy cmp xs → ((x : A) → Among xs x → cmp x y ≡ Less) → IsStrictlySortedBy cmp (xs ++ y ∷ [])
unfolding IsStrictlySortedBy
sorted_end cmp [] y h above = (tt, tt)
sorted_end cmp (x ∷ xs) y h above = (all_end (λ z. cmp x z ≡ Less) xs y h.0 (above x (inl refl)), sorted_end cmp xs y h.1 (λ z g. above z (inr g)))

module _ {A : Type 0} (key : A → ℕ) where
  -- the keys of the elements, rising
  abbrev pub keys_of : List A → List ℕ
  keys_of xs = rising nat_cmp (map key xs)

  -- the elements with a key
  abbrev pub of_key : List A → ℕ → List A
  of_key xs k = filter (λ x. key x == k) xs

  of_all : (k : ℕ) (xs : List A) → ((x : A) → Among xs x → key x ≡ k) → of_key xs k ≡ xs
  of_all k [] here = refl
  of_all k (x ∷ xs) here =
      ap (λ b. cond b (x ∷ of_key xs k) (of_key xs k)) (eq-eqb (key x) k (here x (inl refl))) ∙ ap (λ l. x ∷ l) (of_all k xs (λ y h. here y (inr h)))

  -- some elements whose keys are below one, and some more that have it
  pub record IsRunAfter (xs run : List A) (k : ℕ) : Type 0 where
    pub below : (x : A) → Among xs x → key x < k
    pub here : (x : A) → Among run x → key x ≡ k
    pub first : A
    pub some : Among run first

  differ : (x k : ℕ) → x ≢ k → (x == k) ≡ false
  differ x k apart = go (x == k) refl
    where
      go : (b : Bool) → (x == k) ≡ b → b ≡ false
      go true e = absurd (apart (eqb-true x k e))
      go false e = refl

  module _ (xs run : List A) (k : ℕ) (r : IsRunAfter xs run k) where
    pub keys_after : keys_of (xs ++ run) ≡ keys_of xs ++ k ∷ []
    keys_after =
        sym (rising_unique nat_cmp_total (map key (xs ++ run)) (keys_of xs ++ k ∷ []) (number_ties (map key (xs ++ run)))
        (sorted_end nat_cmp (keys_of xs) k (sorted-rising nat_cmp_total (map key xs))
        (λ i h. let m = among_from-map key xs i (among_from-rising nat_cmp (map key xs) i h) in
        less_from i k (subst (λ j. j < k) m.2 (r.below m.0 m.1))))
        (λ i h. elim (among_cases (keys_of xs) (k ∷ []) i h) [
          | inl g ↦ let m = among_from-map key xs i (among_from-rising nat_cmp (map key xs) i g) in
              subst (Among (map key (xs ++ run))) m.2 (among-map key (xs ++ run) m.0 (among_left xs run m.0 m.1))
          | inr g ↦ elim g [
            | inl e ↦ subst (Among (map key (xs ++ run))) (r.here r.first r.some ∙ e) (among-map key (xs ++ run) r.first (among_right xs run r.first r.some))
            | inr n ↦ absurd n
          ]
        ])
        (λ i h. let m = among_from-map key (xs ++ run) i h in elim (among_cases xs run m.0 m.1) [
          | inl g ↦ among_left (keys_of xs) (k ∷ []) i
              (among-rising nat_cmp (map key xs) (number_ties (map key xs)) i (subst (Among (map key xs)) m.2 (among-map key xs m.0 g)))
          | inr g ↦ among_right (keys_of xs) (k ∷ []) i (inl (sym (r.here m.0 g) ∙ m.2))
        ]))

    of_last : of_key (xs ++ run) k ≡ run
    of_last =
        filter-append (λ x. key x == k) xs run
        ∙ ap (λ l. l ++ of_key run k) (filter-none (λ x. key x == k) xs (λ x h. differ (key x) k (λ e. let l = r.below x h in absurd (omega (arith, l, e)))))
        ∙ of_all k run r.here

    of_before : (i : ℕ) → Among (keys_of xs) i → of_key (xs ++ run) i ≡ of_key xs i
    of_before i h =
        let m = among_from-map key xs i (among_from-rising nat_cmp (map key xs) i h) in
        let low : i < k = subst (λ j. j < k) m.2 (r.below m.0 m.1) in
        filter-append (λ x. key x == i) xs run
        ∙ ap (λ l. of_key xs i ++ l) (filter-none (λ x. key x == i) run (λ x g. let here = r.here x g in differ (key x) i (λ e. absurd (omega (arith, low, here, e)))))
        ∙ append-nil (of_key xs i)

  map_agree : {B : Type 0} (f g : ℕ → B) (is : List ℕ) → ((i : ℕ) → Among is i → f i ≡ g i) → map f is ≡ map g is
  map_agree f g [] h = refl
  map_agree f g (i ∷ is) h = λ j. h i (inl refl) j ∷ map_agree f g is (λ k m. h k (inr m)) j

  -- what is read of the elements of each key, with one run more
  pub map_runs : {B : Type 0} (read : ℕ → List A → B) (xs run : List A) (k : ℕ) → IsRunAfter xs run k
      → map (λ i. read i (of_key (xs ++ run) i)) (keys_of (xs ++ run)) ≡ map (λ i. read i (of_key xs i)) (keys_of xs) ++ read k run ∷ []
  map_runs read xs run k r =
      ap (map (λ i. read i (of_key (xs ++ run) i))) (keys_after xs run k r)
      ∙ map-append (λ i. read i (of_key (xs ++ run) i)) (keys_of xs) (k ∷ [])
      ∙ ap (λ l. l ++ read k (of_key (xs ++ run) k) ∷ []) (map_agree _ _ (keys_of xs) (λ i h. ap (read i) (of_before xs run k r i h)))
      ∙ ap (λ l. map (λ i. read i (of_key xs i)) (keys_of xs) ++ read k l ∷ []) (of_last xs run k r)
