-- Attributes are read back as they are shown.
use Rattle.std.proofs.Common.{◌≡◌, ℕ, suc, ◌+◌, ◌<◌, ◌≤◌, ℤ, pos, negsuc, Bool, true, false, ◌||◌, not, nat_le, if◌then◌else◌, List, [], ◌∷◌, length, map, filter_map, All, Option, None, Some, inl, inr, IsTrue, Ordering, Less, Equal, Greater, refl, ap, sym, subst, ◌∙◌, arith}
use Rattle.std.specs.Prelude.{slice_get, is_none}
use Rattle.std.specs.Ordering.{nat_cmp, match_ordering}
use Rattle.std.specs.Option.{option_map}
use Rattle.std.specs.BTreeSet.{insert_key}
use Rattle.std.specs.List.{AllByRecursion, cons_option}
use Rattle.std.specs.FinMap.{nat_cmp-IsAntisymmetric, slice_cmp-IsAntisymmetric}
use Rattle.std.specs.List.Sorted.{IsStrictlySortedBy}
use Rattle.std.specs.Cmp.{IsTotalOrder}
use Rattle.std.proofs.lemmas.Cmp.{on_total, nat_cmp_total}
use Rattle.std.proofs.lemmas.Bool.Decides.{nat_tests}
use Rattle.std.proofs.lemmas.List.{length-map}
use Rattle.std.proofs.lemmas.List.Elements.{All-from_recursion, All-head, All-tail}
use Rattle.un_attrs.specs.Attributes.{bad_from, bad_place, by_number, in_order, in_range, known, IsAttributes, RisesFrom}
use Rattle.un_schema.specs.Catalog.{Catalog, place_of}
use Rattle.un_schema.specs.Sound.{IsCatalog}
use Rattle.un_defs.specs.Orders.{rising}
use Rattle.un_defs.proofs.Rising.{Among, TiesAreOne, among_from-rising, among-rising, rising_unique}
use Rattle.un_feed_json.specs.Names.{with_name, by_name, named}
use Rattle.un_feed_json.specs.Shown as shown
use Rattle.un_values.specs.Values.{attribute, members_of}
use Rattle.un_feed_json.specs.Forms.{attrs_of, each_numbered, taken}
use Rattle.un_values.proofs.Shows.{in_order_rising}
use Rattle.un_feed_json.proofs.Sorted.{named_rises}
use Rattle.un_feed_json.proofs.NamesBack.{attribute_back, inside}
use Rattle.un_feed_json.proofs.PartsBack.{IsShort, then_some, map_some, whole_back}
use Rattle.un_feed_json.proofs.Known.{from_map}

-- ---- elements of lists that are made from others

among-map : {A B : Type 0} (f : A → B) (xs : List A) (x : A) → Among xs x → Among (map f xs) (f x)
among-map f [] x h = absurd h
among-map f (y ∷ xs) x (inl e) = inl (ap f e)
among-map f (y ∷ xs) x (inr h) = inr (among-map f xs x h)

among_from-map : {A B : Type 0} (f : A → B) (xs : List A) (z : B) → Among (map f xs) z → (x : A) × Among xs x × (f x ≡ z)
among_from-map f [] z h = absurd h
among_from-map f (y ∷ xs) z (inl e) = (y, inl refl, e)
among_from-map f (y ∷ xs) z (inr h) = let found = among_from-map f xs z h in (found.0, inr found.1, found.2)

kept_among : {B : Type 0} (o : Option B) (ys : List B) (y : B) → Among ys y → Among (cons_option o ys) y
kept_among None ys y h = h
kept_among (Some w) ys y h = inr h

among-filter_map : {A B : Type 0} (f : A → Option B) (xs : List A) (x : A) (y : B) → Among xs x → f x ≡ Some y → Among (filter_map f xs) y
among-filter_map f [] x y h is = absurd h
among-filter_map f (z ∷ xs) x y (inl e) is = subst (λ o. Among (cons_option o (filter_map f xs)) y) (sym (ap f e ∙ is)) (inl refl)
among-filter_map f (z ∷ xs) x y (inr h) is = kept_among (f z) (filter_map f xs) y (among-filter_map f xs x y h is)

abbrev From : {A B : Type 0} → (A → Option B) → List A → B → Type 0
From {A} f xs y = (x : A) × Among xs x × (f x ≡ Some y)

from_more : {A B : Type 0} (f : A → Option B) (z : A) (xs : List A) (y : B) → From f xs y → From f (z ∷ xs) y
from_more f z xs y found = (found.0, inr found.1, found.2)

from_kept : {A B : Type 0} (f : A → Option B) (z : A) (xs : List A) (y : B) (o : Option B) → f z ≡ o → (Among (filter_map f xs) y → From f xs y) → Among (cons_option o (filter_map f xs)) y → From f (z ∷ xs) y
from_kept f z xs y None is later h = from_more f z xs y (later h)
from_kept f z xs y (Some w) is later (inl e) = (z, inl refl, is ∙ ap Some e)
from_kept f z xs y (Some w) is later (inr h) = from_more f z xs y (later h)

pub among_from-filter_map : {A B : Type 0} (f : A → Option B) (xs : List A) (y : B) → Among (filter_map f xs) y → From f xs y
among_from-filter_map f [] y h = absurd h
among_from-filter_map f (z ∷ xs) y h = from_kept f z xs y (f z) refl (among_from-filter_map f xs y) h

pub from_all : {A : Type 0} (P : A → Type 0) (xs : List A) (x : A) → All P xs → Among xs x → P x
from_all P [] x h i = absurd i
from_all P (y ∷ xs) x h (inl e) = subst P e (All-head P y xs h)
from_all P (y ∷ xs) x h (inr i) = from_all P xs x (All-tail P y xs h) i

all_among : {A : Type 0} (P : A → Type 0) (xs : List A) → ((x : A) → Among xs x → P x) → AllByRecursion P xs
all_among P [] h = tt
all_among P (x ∷ xs) h = (h x (inl refl), all_among P xs (λ y i. h y (inr i)))

pub to_all : {A : Type 0} (P : A → Type 0) (xs : List A) → ((x : A) → Among xs x → P x) → All P xs
to_all P xs h = All-from_recursion P xs (all_among P xs h)

-- ---- attributes by number

rises_above : (least : ℕ) (attrs : List (ℕ × ℤ)) (x : ℕ × ℤ) → RisesFrom least attrs → Among attrs x → least ≤ x.0
rises_above least [] x h i = absurd i
rises_above least (p ∷ ps) x h (inl e) = subst (λ q. least ≤ q.0) e h.0
rises_above least (p ∷ ps) x h (inr i) = let above : p.0 + 1 ≤ x.0 = rises_above (p.0 + 1) ps x h.1 i in omega (arith, h.0)

one_number : (least : ℕ) (attrs : List (ℕ × ℤ)) → RisesFrom least attrs → (x y : ℕ × ℤ) → Among attrs x → Among attrs y → x.0 ≡ y.0 → x ≡ y
one_number least [] h x y i j same = absurd i
one_number least (p ∷ ps) h x y (inl e) (inl f) same = sym e ∙ f
one_number least (p ∷ ps) h x y (inl e) (inr j) same =
    let above : p.0 + 1 ≤ y.0 = rises_above (p.0 + 1) ps y h.1 j in
    let first : p.0 ≡ x.0 = ap (λ q. q.0) e in
    absurd (omega arith)
one_number least (p ∷ ps) h x y (inr i) (inl f) same =
    let above : p.0 + 1 ≤ x.0 = rises_above (p.0 + 1) ps x h.1 i in
    let first : p.0 ≡ y.0 = ap (λ q. q.0) f in
    absurd (omega arith)
one_number least (p ∷ ps) h x y (inr i) (inr j) same = one_number (p.0 + 1) ps h.1 x y i j same

number_less : (m n : ℕ) → m < n → nat_cmp m n ≡ Less
number_less m n l = grind (arith, nat_tests)

less_all : (p : ℕ × ℤ) (least : ℕ) (ps : List (ℕ × ℤ)) → p.0 < least → RisesFrom least ps → AllByRecursion (λ y. by_number p y ≡ Less) ps
less_all p least [] l h = tt
less_all p least (q ∷ ps) l h = (number_less p.0 q.0 (omega (arith, h.0)), less_all p (q.0 + 1) ps (omega (arith, h.0)) h.1)

sorted_numbers : (least : ℕ) (attrs : List (ℕ × ℤ)) → RisesFrom least attrs → IsStrictlySortedBy by_number attrs
unfolding IsStrictlySortedBy
sorted_numbers least [] h = tt
sorted_numbers least (p ∷ ps) h = (less_all p (p.0 + 1) ps (omega arith) h.1, sorted_numbers (p.0 + 1) ps h.1)

rising_is : (pairs : List (ℕ × ℤ)) → in_order pairs ≡ rising by_number pairs
rising_is [] = refl
rising_is (p ∷ ps) = ap (λ l. insert_key by_number l p) (rising_is ps)

by_number_total : IsTotalOrder by_number
by_number_total = on_total (λ p. p.0) nat_cmp_total

-- ---- their names

abbrev back_of : Catalog → List ℕ × ℤ → Option ℕ × ℤ
back_of S q = (place_of q.0 S.attributes, q.1)

abbrev number_in : Option ℕ × ℤ → Option (ℕ × ℤ)
number_in pair = option_map (λ n. (n, pair.1)) pair.0

pub true_is : {b : Bool} → IsTrue b → b ≡ true
true_is h = h

short : (z : ℤ) → in_range z ≡ true → IsShort z
short (pos n) h = grind (arith, nat_tests, h)
short (negsuc n) h = tt

-- ---- lengths

length-cons_option : {B : Type 0} (o : Option B) (ys : List B) → length (cons_option o ys) ≤ suc (length ys)
length-cons_option None ys = omega arith
length-cons_option (Some y) ys = omega arith

length-filter_map : {A B : Type 0} (f : A → Option B) (xs : List A) → length (filter_map f xs) ≤ length xs
length-filter_map f [] = omega arith
length-filter_map f (x ∷ xs) = omega (arith, length-cons_option (f x) (filter_map f xs), length-filter_map f xs)

length-inserted : {A : Type 0} (o : Ordering) (k y : A) (ys zs : List A) → length zs ≤ suc (length ys) → length (match_ordering o (k ∷ y ∷ ys) (y ∷ ys) (y ∷ zs)) ≤ suc (suc (length ys))
length-inserted Less k y ys zs h = omega arith
length-inserted Equal k y ys zs h = omega arith
length-inserted Greater k y ys zs h = omega arith

length-insert_key : {A : Type 0} (cmp : A → A → Ordering) (ys : List A) (k : A) → length (insert_key cmp ys k) ≤ suc (length ys)
length-insert_key cmp [] k = omega arith
length-insert_key cmp (y ∷ ys) k = length-inserted (cmp k y) k y ys (insert_key cmp ys k) (length-insert_key cmp ys k)

length-rising : {A : Type 0} (cmp : A → A → Ordering) (xs : List A) → length (rising cmp xs) ≤ length xs
length-rising cmp [] = omega arith
length-rising cmp (x ∷ xs) = omega (arith, length-insert_key cmp (rising cmp xs) x, length-rising cmp xs)

-- ---- a list without a bad pair

all_false : (x y z : Bool) → x ≡ false → y ≡ true → z ≡ false → (x || not y || z) ≡ false
all_false x y z a b c = rw (a, b, c) refl

early : (i : ℕ) → i < 8 → nat_le 8 i ≡ false
early i l = grind (arith, nat_tests)

good_from : (i : ℕ) (ps : List (Option ℕ × ℤ)) → ((p : Option ℕ × ℤ) → Among ps p → (is_none p.0 ≡ false) × (in_range p.1 ≡ true)) → i + length ps ≤ 8 → bad_from i ps ≡ None
good_from i [] good few = refl
good_from i (p ∷ ps) good few =
    let here = good p (inl refl) in
    ap (λ b. if b then Some i else bad_from (i + 1) ps) (all_false (is_none p.0) (in_range p.1) (nat_le 8 i) here.0 here.1 (early i (omega arith)))
    ∙ good_from (i + 1) ps (λ q j. good q (inr j)) (omega arith)

module _ (S : Catalog) (catalog : IsCatalog S) (attrs : List (ℕ × ℤ)) (rules : IsAttributes attrs) (have : All (λ pair. pair.0 < length S.attributes) attrs) where
  abbrev names : List (List ℕ × ℤ)
  names = filter_map (with_name S) attrs

  abbrev pairs : List (Option ℕ × ℤ)
  pairs = map (back_of S) (named S attrs)

  -- an attribute with its name
  name_of_pair : (x : ℕ × ℤ) → Among attrs x → (q : List ℕ × ℤ) × (with_name S x ≡ Some q)
  name_of_pair x i =
      let found = inside S.attributes x.0 (from_all (λ pair. pair.0 < length S.attributes) attrs x have i) in
      ((found.0, x.1), map_some (λ name. (name, x.1)) (slice_get S.attributes x.0) found.0 found.1)

  -- a name leads back to the attribute
  back_from_name : (x : ℕ × ℤ) (q : List ℕ × ℤ) → with_name S x ≡ Some q → back_of S q ≡ (Some x.0, x.1)
  back_from_name x q is =
      let found = from_map (λ name. (name, x.1)) (slice_get S.attributes x.0) q is in
      subst (λ r. back_of S r ≡ (Some x.0, x.1)) found.2 (ap (λ o. (o, x.1)) (attribute_back S catalog x.0 found.0 found.1))

  ties_of_names : TiesAreOne by_name names
  ties_of_names q r i j e =
      let x = among_from-filter_map (with_name S) attrs q i in
      let y = among_from-filter_map (with_name S) attrs r j in
      let same_name : q.0 ≡ r.0 = slice_cmp-IsAntisymmetric nat_cmp-IsAntisymmetric q.0 r.0 e in
      let numbers : Some x.0.0 ≡ Some y.0.0 =
      ap (λ p. p.0) (sym (back_from_name x.0 q x.2)) ∙ ap (λ n. place_of n S.attributes) same_name ∙ ap (λ p. p.0) (back_from_name y.0 r y.2) in
      let number : x.0.0 ≡ y.0.0 = cc in
      let one : x.0 ≡ y.0 = one_number 0 attrs rules.rising x.0 y.0 x.1 y.1 number in
      let both : Some q ≡ Some r = sym x.2 ∙ ap (with_name S) one ∙ y.2 in
      cc

  to_pairs : (x : ℕ × ℤ) → Among attrs x → Among (known pairs) x
  to_pairs x i =
      let q = name_of_pair x i in
      let kept : Among (named S attrs) q.0 = among-rising by_name names ties_of_names q.0 (among-filter_map (with_name S) attrs x q.0 i q.1) in
      among-filter_map number_in pairs (back_of S q.0) x (among-map (back_of S) (named S attrs) q.0 kept) (ap number_in (back_from_name x q.0 q.1))

  from_pairs : (x : ℕ × ℤ) → Among (known pairs) x → Among attrs x
  from_pairs x h =
      let p = among_from-filter_map number_in pairs x h in
      let q = among_from-map (back_of S) (named S attrs) p.0 p.1 in
      let y = among_from-filter_map (with_name S) attrs q.0 (among_from-rising by_name names q.0 q.1) in
      let same : Some y.0 ≡ Some x = ap number_in (sym (back_from_name y.0 q.0 y.2) ∙ q.2) ∙ p.2 in
      let one : y.0 ≡ x = cc in
      subst (Among attrs) one y.1

  ties_of_pairs : TiesAreOne by_number (known pairs)
  ties_of_pairs x y i j e = one_number 0 attrs rules.rising x y (from_pairs x i) (from_pairs y j) (nat_cmp-IsAntisymmetric x.0 y.0 e)

  pub numbers_back : in_order (known pairs) ≡ attrs
  numbers_back =
      rising_is (known pairs)
      ∙ sym (rising_unique by_number_total (known pairs) attrs ties_of_pairs (sorted_numbers 0 attrs rules.rising) to_pairs from_pairs)

  -- the value of each is in range
  pub in_range_named : (q : List ℕ × ℤ) → Among (named S attrs) q → in_range q.1 ≡ true
  in_range_named q i =
      let y = among_from-filter_map (with_name S) attrs q (among_from-rising by_name names q i) in
      let same : y.0.1 ≡ q.1 = ap (λ p. p.1) (sym (back_from_name y.0 q y.2)) in
      subst (λ z. in_range z ≡ true) same (true_is (from_all (λ pair. IsTrue (in_range pair.1)) attrs y.0 rules.values y.1))

  -- none is bad
  pub none_bad : bad_place pairs ≡ None
  none_bad =
      good_from 0 pairs good
      (let few : length pairs ≡ length (named S attrs) = length-map (named S attrs) (back_of S) in
      omega (arith, few, length-rising by_name names, length-filter_map (with_name S) attrs, rules.few))
    where
      good : (p : Option ℕ × ℤ) → Among pairs p → (is_none p.0 ≡ false) × (in_range p.1 ≡ true)
      good p i =
          let q = among_from-map (back_of S) (named S attrs) p i in
          let y = among_from-filter_map (with_name S) attrs q.0 (among_from-rising by_name names q.0 q.1) in
          (ap (λ r. is_none r.0) (sym q.2 ∙ back_from_name y.0 q.0 y.2), subst (λ r. in_range r.1 ≡ true) q.2 (in_range_named q.0 q.1))

  each_named : (ps : List (List ℕ × ℤ)) → ((q : List ℕ × ℤ) → Among ps q → in_range q.1 ≡ true) → each_numbered S (members_of (map attribute ps)) ≡ Some (map (back_of S) ps)
  each_named [] h = refl
  each_named (p ∷ ps) h =
      then_some (λ pair. option_map (λ xs. pair ∷ xs) (each_numbered S (members_of (map attribute ps)))) _ (back_of S p) (map (back_of S) (p ∷ ps))
      (map_some (λ z. (place_of p.0 S.attributes, z)) _ p.1 (whole_back p.1 (short p.1 (h p (inl refl)))))
      (map_some (λ xs. back_of S p ∷ xs) _ (map (back_of S) ps) (each_named ps (λ q i. h q (inr i))))

  -- so the attributes are read back
  pub attrs_back : attrs_of S (shown.attributes S attrs) ≡ Some attrs
  attrs_back =
      then_some taken _ pairs attrs
      (ap (each_numbered S) (in_order_rising (named S attrs) (named_rises S attrs)) ∙ each_named (named S attrs) in_range_named)
      (ap (λ b. if b then Some (in_order (known pairs)) else None) (ap is_none none_bad) ∙ ap Some numbers_back)
