-- Loops over a list that gather its differences, and pages of them.
use Rattle.std.proofs.Common.{◌≡◌, ℕ, zero, suc, ◌+◌, ◌-◌, ◌<◌, ◌≤◌, slice_get, nat_lt, true, false, List, [], ◌∷◌, ◌++◌, length, get_or, take, drop, map, filter_map, Option, Some, None, refl, sym, ap, ◌∙◌, append_assoc, arith}
use Rattle.std.specs.List.{cons_option}
use Rattle.std.specs.Option.{option_map}
use Rattle.std.proofs.lemmas.List.{take_all}
use Rattle.un_geom.specs.declared.point.Point.{Point}
use Rattle.un_geom.specs.Places.{point_cmp}
use Rattle.un_pages.specs.Pairs.{past, IsOrdered}
use Rattle.un_points.proofs.Covering.{next_past}
use Rattle.un_feed.specs.declared.changes.Change.{Change}
use Rattle.un_feed.specs.Differences.{Kept, Difference, change_shown, page_of, with_difference, applied}
use Rattle.un_feed.specs.Follows.{last_place}

-- ---- one element more

module _ {A B : Type 0} (f : A → Option B) where
  joined : (o : Option B) (l m : List B) → cons_option o (l ++ m) ≡ cons_option o l ++ m
  joined None l m = refl
  joined (Some y) l m = refl

  front_more : (xs : List A) (i : ℕ) (d : A) → i < length xs → filter_map f (take (suc i) xs) ≡ filter_map f (take i xs) ++ cons_option (f (get_or xs i d)) []
  front_more [] i d h = absurd (omega arith)
  front_more (y ∷ xs) zero d h = refl
  front_more (y ∷ xs) (suc i) d h = ap (cons_option (f y)) (front_more xs i d (omega arith)) ∙ joined (f y) (filter_map f (take i xs)) (cons_option (f (get_or xs i d)) [])

  module _ (xs : List A) (i : ℕ) (d : A) (got : List B) (is : got ≡ filter_map f (take i xs)) (h : i < length xs) where
    found_more : got ++ cons_option (f (get_or xs i d)) [] ≡ filter_map f (take (i + 1) xs)
    found_more =
        let next : suc i ≡ i + 1 = omega arith in
        ap (λ l. l ++ cons_option (f (get_or xs i d)) []) is ∙ sym (front_more xs i d h) ∙ ap (λ n. filter_map f (take n xs)) next

    -- where it gives nothing, and where it gives something
    pub found_no_more : None ≡ f (get_or xs i d) → got ≡ filter_map f (take (i + 1) xs)
    found_no_more o = sym (append_nil got) ∙ ap (λ r. got ++ cons_option r []) o ∙ found_more
      where
        append_nil : (l : List B) → l ++ [] ≡ l
        append_nil [] = refl
        append_nil (y ∷ l) = ap (λ m. y ∷ m) (append_nil l)

    pub found_one_more : (y : B) → Some y ≡ f (get_or xs i d) → got ++ y ∷ [] ≡ filter_map f (take (i + 1) xs)
    found_one_more y o = ap (λ r. got ++ cons_option r []) o ∙ found_more

  -- all that is found begins with what was found first
  pub found_rest : (xs : List A) (n : ℕ) → filter_map f xs ≡ filter_map f (take n xs) ++ filter_map f (drop n xs)
  found_rest [] n = sym (nothing n)
    where
      nothing : (n : ℕ) → filter_map f (take n []) ++ filter_map f (drop n []) ≡ []
      nothing zero = refl
      nothing (suc n) = refl
  found_rest (x ∷ xs) zero = refl
  found_rest (x ∷ xs) (suc n) = ap (cons_option (f x)) (found_rest xs n) ∙ joined (f x) (filter_map f (take n xs)) (filter_map f (drop n xs))

-- ---- pages

front : {A : Type 0} (l m : List A) (n : ℕ) → length l ≡ n → take n (l ++ m) ≡ l
front [] m zero e = refl
front [] m (suc n) e = absurd (omega arith)
front (x ∷ l) m zero e = absurd (omega arith)
front (x ∷ l) m (suc n) e = ap (λ k. x ∷ k) (front l m n (omega arith))

longer : {A : Type 0} (l m : List A) (y : A) → length l < length (l ++ y ∷ m)
longer [] m y = omega arith
longer (x ∷ l) m y = omega (arith, longer l m y)

below_is : (m n : ℕ) → m < n → nat_lt m n ≡ true
below_is m n h = grind (arith, h)

not_below_is : (m n : ℕ) → n ≤ m → nat_lt m n ≡ false
not_below_is m n h = grind (arith, h)

module _ (all : List Difference) (after : Option Point) (most : ℕ) where
  -- the page is full, and there is one more
  pub full_page : (f : Point → Option Difference) (points : List Point) (i : ℕ) (d : Point) (y : Difference) (got : List Difference)
      → filter_map f points ≡ past point_cmp after all → got ≡ filter_map f (take i points) → i < length points → Some y ≡ f (get_or points i d) → length got ≡ most
      → record { pairs = got; more = true } ≡ page_of all after most
  full_page f points i d y got found is h o n =
      let split : past point_cmp after all ≡ got ++ y ∷ filter_map f (drop (i + 1) points) =
      sym found ∙ found_rest f points (i + 1) ∙ ap (λ l. l ++ filter_map f (drop (i + 1) points)) (sym (found_one_more f points i d got is h y o)) ∙ append_assoc got (y ∷ []) (filter_map f (drop (i + 1) points)) in
      let pairs : got ≡ take most (past point_cmp after all) = sym (ap (take most) split ∙ front got (y ∷ filter_map f (drop (i + 1) points)) most n) in
      let count : length (past point_cmp after all) ≡ length (got ++ y ∷ filter_map f (drop (i + 1) points)) = ap length split in
      let more : true ≡ nat_lt most (length (past point_cmp after all)) = sym (below_is most (length (past point_cmp after all)) (omega (arith, longer got (filter_map f (drop (i + 1) points)) y, count, n))) in
      λ j. record { pairs = pairs j; more = more j }

  -- all are on the page
  pub last_page : (got : List Difference) → got ≡ past point_cmp after all → length got ≤ most → record { pairs = got; more = false } ≡ page_of all after most
  last_page got is n =
      let count : length got ≡ length (past point_cmp after all) = ap length is in
      let pairs : got ≡ take most (past point_cmp after all) = is ∙ sym (take_all most (past point_cmp after all) (omega arith)) in
      let more : false ≡ nat_lt most (length (past point_cmp after all)) = sym (not_below_is most (length (past point_cmp after all)) (omega arith)) in
      λ j. record { pairs = pairs j; more = more j }

-- what comes after the last point of a page is what the page leaves
pub after_page_is : (all : List Difference) → IsOrdered point_cmp all → (n : ℕ) (after : Option Point) (rest : List Difference) → past point_cmp after all ≡ rest → past point_cmp (last_place after (take n rest)) all ≡ drop n rest
after_page_is all s zero after rest h = h
after_page_is all s (suc n) after [] h = h
after_page_is all s (suc n) after (d ∷ rest) h = after_page_is all s n (Some d.0) rest (sym (next_past after all rest d s h))

-- ---- pairs put in

pub applied-append : (kept : Kept) (ds es : List Difference) → applied kept (ds ++ es) ≡ applied (applied kept ds) es
applied-append kept [] es = refl
applied-append kept (d ∷ ds) es = applied-append (with_difference kept d) ds es

pub applied_more : {A : Type 0} (f : A → Difference) (kept now new : Kept) (xs : List A) (i : ℕ) (x : A) → now ≡ applied kept (map f (take i xs)) → i < length xs → x ≡ get_or xs i x → new ≡ with_difference now (f x) → new ≡ applied kept (map f (take (i + 1) xs))
applied_more {A = A} f kept now new xs i x is h e put =
    let next : suc i ≡ i + 1 = omega arith in
    put ∙ ap (λ k. with_difference k (f x)) is ∙ go kept xs i h e ∙ ap (λ n. applied kept (map f (take n xs))) next
  where
    go : (kept : Kept) (xs : List A) (i : ℕ) → i < length xs → x ≡ get_or xs i x → with_difference (applied kept (map f (take i xs))) (f x) ≡ applied kept (map f (take (suc i) xs))
    go kept [] i h e = absurd (omega arith)
    go kept (y ∷ xs) zero h e = ap (λ z. with_difference kept (f z)) e
    go kept (y ∷ xs) (suc i) h e = go (with_difference kept (f y)) xs i (omega arith) e

-- ---- the last pair

pub last_change : (x : Change) (xs : List Change) (after : Option Point) (c : Change) → Some c ≡ slice_get (x ∷ xs) (length xs) → Some c.at ≡ last_place after (map change_shown (x ∷ xs))
last_change x [] after c e = ap (λ o. option_map (λ d. d.at) o) e
last_change x (y ∷ xs) after c e = last_change y xs (Some x.at) c e

pub last_is : (xs : List Change) (after : Option Point) (c : Change) → Some c ≡ slice_get xs (length xs - 1) → Some c.at ≡ last_place after (map change_shown xs)
last_is [] after c e = cc
last_is (x ∷ xs) after c e =
    let n : suc (length xs) - 1 ≡ length xs = omega arith in
    last_change x xs after c (e ∙ ap (slice_get (x ∷ xs)) n)
