-- Attributes in the byte order of their names.
use Rattle.std.proofs.Common.{◌≡◌, ℕ, ◌+◌, ◌-◌, ◌<◌, ◌≤◌, suc, ℤ, List, [], ◌∷◌, ◌++◌, map, filter_map, length, drop, get_or, Option, Some, None, Ordering, Less, Equal, Greater, refl, sym, ap, ◌∙◌, append_assoc, arith, rules}
use Rattle.std.specs.Ordering.{nat_cmp, match_ordering}
use Rattle.std.specs.Cmp.{IsTotalOrder}
use Rattle.std.specs.Cmp.Lexicographic.{slice_cmp}
use Rattle.std.specs.BTreeSet.{insert_key}
use Rattle.std.specs.Option.{option_map}
use Rattle.std.specs.List.{AllByRecursion, cons_option}
use Rattle.std.specs.List.Sorted.{IsStrictlySortedBy}
use Rattle.std.proofs.lemmas.Cmp.{on_total, nat_list_cmp_total}
use Rattle.std.proofs.Math.Seq.{drop-cons}
use Rattle.json.specs.Token.{Token}
use Rattle.json.specs.Tree.{json_tokens, members_tokens}
use Rattle.serde_json.specs.Written.{outline, members_outline}
use Rattle.un_schema.specs.Catalog.{Catalog}
use Rattle.un_defs.specs.Orders.{rising}
use Rattle.un_defs.proofs.Rising.{sorted-rising}
use Rattle.un_feed_json.specs.contracts.named.NamedValueOrd.TheImpl as order
use Rattle.un_feed_json.specs.declared.named.NamedValue.{NamedValue}
use Rattle.un_feed_json.specs.Names.{by_name, named, with_name}
use Rattle.un_feed_json.specs.Sorting.{pair_of}
use Rattle.un_values.specs.Values.{whole, members_of, attribute}
use Rattle.un_values.proofs.Shows.{in_order_rising}
use Rattle.un_feed_json.specs.Shown.{attributes}

-- sorting by what a map gives
module _ {A B : Type 0} (f : A → B) (on_a : A → A → Ordering) (on_b : B → B → Ordering) (same : (x y : A) → on_b (f x) (f y) ≡ on_a x y) where
  map-insert_key : (ys : List A) (k : A) → insert_key on_b (map f ys) (f k) ≡ map f (insert_key on_a ys k)
  map-insert_key [] k = refl
  map-insert_key (y ∷ ys) k =
      (λ i. match_ordering (same k y i) (f k ∷ f y ∷ map f ys) (f y ∷ map f ys) (f y ∷ map-insert_key ys k i))
      ∙ by_order (on_a k y)
    where
      by_order : (o : Ordering) → match_ordering o (f k ∷ f y ∷ map f ys) (f y ∷ map f ys) (f y ∷ map f (insert_key on_a ys k)) ≡ map f (match_ordering o (k ∷ y ∷ ys) (y ∷ ys) (y ∷ insert_key on_a ys k))
      by_order Less = refl
      by_order Equal = refl
      by_order Greater = refl

  pub rising-map : (xs : List A) → rising on_b (map f xs) ≡ map f (rising on_a xs)
  rising-map [] = refl
  rising-map (x ∷ xs) = ap (λ l. insert_key on_b l (f x)) (rising-map xs) ∙ map-insert_key (rising on_a xs) x

-- ---- the names rise

by_name_total : IsTotalOrder by_name
by_name_total = on_total (λ p. p.0) nat_list_cmp_total

names_above : (x : List ℕ × ℤ) (xs : List (List ℕ × ℤ)) → AllByRecursion (λ y. by_name x y ≡ Less) xs
    → AllByRecursion (λ n. slice_cmp nat_cmp x.0 n ≡ Less) (map (λ pair. pair.0) xs)
names_above x [] h = tt
names_above x (y ∷ xs) h = (h.0, names_above x xs h.1)

names_rise : (xs : List (List ℕ × ℤ)) → IsStrictlySortedBy by_name xs → IsStrictlySortedBy (slice_cmp nat_cmp) (map (λ pair. pair.0) xs)
unfolding IsStrictlySortedBy
names_rise [] h = tt
names_rise (x ∷ xs) h = (names_above x xs h.0, names_rise xs h.1)

pub named_rises : (S : Catalog) (attrs : List (ℕ × ℤ)) → IsStrictlySortedBy (slice_cmp nat_cmp) (map (λ pair. pair.0) (named S attrs))
named_rises S attrs = names_rise (named S attrs) (sorted-rising by_name_total (filter_map (with_name S) attrs))

-- ---- as code sorts them

alike : (x y : NamedValue) → by_name (pair_of x) (pair_of y) ≡ order.ghosts.cmp x y
alike x y = search rules

-- in order by their names, the same pairs
pub sorted_by_name : (S : Catalog) (attrs : List (ℕ × ℤ)) (all : List NamedValue) → map pair_of all ≡ filter_map (with_name S) attrs
    → map pair_of (rising order.ghosts.cmp all) ≡ named S attrs
sorted_by_name S attrs all same = sym (rising-map pair_of order.ghosts.cmp by_name alike all) ∙ ap (rising by_name) same

-- one attribute more, if it has a name
pub one_more : (S : Catalog) (attrs : List (ℕ × ℤ)) (d : ℕ × ℤ) (count done : ℕ) → count ≡ length attrs → done < count
    → (all : List NamedValue) (new : Option NamedValue) → map pair_of all ≡ filter_map (with_name S) (drop (count - done) attrs)
    → option_map pair_of new ≡ with_name S (get_or attrs (count - 1 - done) d)
    → map pair_of (cons_option new all) ≡ filter_map (with_name S) (drop (count - (done + 1)) attrs)
one_more S attrs d count done is below all new before pair =
    let i : ℕ = count - 1 - done in
    let here : count - (done + 1) ≡ i = omega arith in
    let next : suc i ≡ count - done = omega (arith, below) in
    let inside : i < length attrs = omega (arith, is, below) in
    mapped new ∙ (λ k. cons_option (pair k) (before k))
    ∙ ap (λ n. cons_option (with_name S (get_or attrs i d)) (filter_map (with_name S) (drop n attrs))) (sym next)
    ∙ ap (filter_map (with_name S)) (sym (drop-cons attrs i d inside))
    ∙ ap (λ n. filter_map (with_name S) (drop n attrs)) (sym here)
  where
    mapped : (o : Option NamedValue) → map pair_of (cons_option o all) ≡ cons_option (option_map pair_of o) (map pair_of all)
    mapped None = refl
    mapped (Some v) = refl

-- all attributes
pub all_named : (S : Catalog) (attrs : List (ℕ × ℤ)) (done : ℕ) → length attrs ≤ done → (all : List NamedValue)
    → map pair_of all ≡ filter_map (with_name S) (drop (length attrs - done) attrs) → map pair_of (rising order.ghosts.cmp all) ≡ named S attrs
all_named S attrs done over all same =
    let none : length attrs - done ≡ 0 = omega (arith, over) in
    sorted_by_name S attrs all (same ∙ ap (λ n. filter_map (with_name S) (drop n attrs)) none)

-- ---- as code writes them

-- what is written of attributes as the members of an object
abbrev pub pairs_tokens : List NamedValue → List Token
pairs_tokens pairs = members_tokens (members_outline (members_of (map attribute (map pair_of pairs))))

-- the attributes are written but for these
pub record AreWrittenBut (start : List Token) (rest all : List NamedValue) (out : List Token) : Type 0 where
  pub same : out ++ pairs_tokens rest ≡ start ++ pairs_tokens all

pub attribute_one : (start : List Token) (x : NamedValue) (rest all : List NamedValue) (out name more : List Token) → AreWrittenBut start (x ∷ rest) all out
    → name ≡ out ++ Token.key x.name.now ∷ [] → more ≡ name ++ json_tokens (outline (whole x.value)) → AreWrittenBut start rest all more
attribute_one start x rest all out name more h one two =
    let behind = pairs_tokens rest in
    let value = json_tokens (outline (whole x.value)) in
    record {
      same = ap (λ t. t ++ behind) (two ∙ ap (λ t. t ++ value) one) ∙ append_assoc (out ++ Token.key x.name.now ∷ []) value behind
          ∙ append_assoc out (Token.key x.name.now ∷ []) (value ++ behind) ∙ h.same;
    }

pub attribute_all : (start : List Token) (all : List NamedValue) (out : List Token) → AreWrittenBut start [] all out → out ++ Token.end_object ∷ [] ≡ start ++ pairs_tokens all
attribute_all start all out h = h.same

pub attributes_steps : (S : Catalog) (attrs : List (ℕ × ℤ)) (start a b c : List Token) (pairs : List (List ℕ × ℤ)) → pairs ≡ named S attrs
    → a ≡ start ++ Token.begin_object ∷ [] → b ++ Token.end_object ∷ [] ≡ a ++ members_tokens (members_outline (members_of (map attribute pairs))) → c ≡ b ++ Token.end_object ∷ []
    → c ≡ start ++ json_tokens (outline (attributes S attrs))
attributes_steps S attrs start a b c pairs is one two three =
    three ∙ two ∙ ap (λ t. t ++ members_tokens (members_outline (members_of (map attribute pairs)))) one
    ∙ append_assoc start (Token.begin_object ∷ []) (members_tokens (members_outline (members_of (map attribute pairs))))
    ∙ ap (λ ps. start ++ Token.begin_object ∷ members_tokens (members_outline (members_of (map attribute ps)))) is
    ∙ ap (λ ms. start ++ Token.begin_object ∷ members_tokens (members_outline ms)) (sym (in_order_rising (named S attrs) (named_rises S attrs)))
