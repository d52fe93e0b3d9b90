-- Values that are written as tokens.
use Rattle.std.proofs.Common.{◌≡◌, ℕ, ℤ, pos, negsuc, List, [], ◌∷◌, ◌++◌, map, Result, Ok, Err, OnOk, refl, ap, sym, ◌∙◌, append_assoc}
use Rattle.std.specs.declared.cmp.Ordering.TheVariants.{Less}
use Rattle.std.specs.Ordering.{nat_cmp}
use Rattle.std.specs.Cmp.Lexicographic.{slice_cmp}
use Rattle.std.specs.Fmt.{signed_decimal}
use Rattle.std.specs.List.{AllByRecursion}
use Rattle.std.specs.List.Sorted.{IsStrictlySortedBy}
use Rattle.json.specs.Token.{Token, number}
use Rattle.json.specs.Tree.{json_tokens, items_tokens}
use Rattle.json.specs.Print.{print}
use Rattle.serde_json.proofs.Texts.{print-outline}
use Rattle.serde_json.specs.Data.{Data, member, put}
use Rattle.serde_json.specs.Find.{of_integer}
use Rattle.serde_json.specs.Written.{compact_text, outline, items_outline, number_text}
use Rattle.un_values.specs.Values.{whole, items_of, list, in_order, members_of, attribute}

-- a whole number's text is its digits
pub whole_text : (z : ℤ) → number_text (of_integer z) ≡ signed_decimal z
whole_text (pos n) = refl
whole_text (negsuc n) = refl

pub whole_tokens : (z : ℤ) → number (signed_decimal z) ∷ [] ≡ json_tokens (outline (whole z))
whole_tokens z = ap (λ t. number t ∷ []) (sym (whole_text z))

-- ---- lists

-- the values are written but for these
pub record IsWrittenBut {A : Type 0} (f : A → Data) (start : List Token) (rest all : List A) (out : List Token) : Type 0 where
  pub same : out ++ items_tokens (items_outline (items_of f rest)) ≡ start ++ items_tokens (items_outline (items_of f all))

-- one more is written
pub show_one : {A : Type 0} (f : A → Data) (start : List Token) (x : A) (rest all : List A) (out more : List Token) → IsWrittenBut f start (x ∷ rest) all out → more ≡ out ++ json_tokens (outline (f x)) → IsWrittenBut f start rest all more
show_one f start x rest all out more h e = record {
  same = ap (λ t. t ++ items_tokens (items_outline (items_of f rest))) e ∙ append_assoc out (json_tokens (outline (f x))) (items_tokens (items_outline (items_of f rest))) ∙ h.same;
}

-- all are written
pub show_all : {A : Type 0} (f : A → Data) (start : List Token) (all : List A) (out : List Token) → IsWrittenBut f start [] all out → out ++ Token.end_array ∷ [] ≡ start ++ items_tokens (items_outline (items_of f all))
show_all f start all out h = h.same

-- a list in its brackets
pub list_steps : {A : Type 0} (f : A → Data) (start a b c : List Token) (xs : List A)
    → a ≡ start ++ Token.begin_array ∷ [] → b ++ Token.end_array ∷ [] ≡ a ++ items_tokens (items_outline (items_of f xs)) → c ≡ b ++ Token.end_array ∷ []
    → c ≡ start ++ json_tokens (outline (list f xs))
list_steps f start a b c xs one two three =
    three ∙ two ∙ ap (λ t. t ++ items_tokens (items_outline (items_of f xs))) one ∙ append_assoc start (Token.begin_array ∷ []) (items_tokens (items_outline (items_of f xs)))

-- ---- members

-- names that rise stand in order already
put_first : (k : List ℕ) (d : Data) (pairs : List (List ℕ × ℤ)) → AllByRecursion (λ l. slice_cmp nat_cmp k l ≡ Less) (map (λ pair. pair.0) pairs)
    → put k d (members_of (map attribute pairs)) ≡ member k d (members_of (map attribute pairs))
put_first k d [] h = refl
put_first k d (p ∷ ps) h = rw h.0

pub in_order_rising : (pairs : List (List ℕ × ℤ)) → IsStrictlySortedBy (slice_cmp nat_cmp) (map (λ pair. pair.0) pairs) → in_order (map attribute pairs) ≡ members_of (map attribute pairs)
unfolding IsStrictlySortedBy
in_order_rising [] h = refl
in_order_rising (p ∷ ps) h = ap (put p.0 (whole p.1)) (in_order_rising ps h.1) ∙ put_first p.0 (whole p.1) ps h.0

-- ---- pieces behind one another

pub piece : (start a end x rest : List Token) → a ≡ start ++ x → end ≡ a ++ rest → end ≡ start ++ (x ++ rest)
piece start a end x rest first others = others ∙ ap (λ t. t ++ rest) first ∙ append_assoc start x rest

pub on_ok : {E : Type 0} (r : Result (Unit {0}) E) (P Q : Type 0) → OnOk r P → (P → Q) → OnOk r Q
on_ok (Ok u) P Q h f = f h
on_ok (Err e) P Q h f = h

-- the tokens of a value are printed as its compact text
pub text_of : (d : Data) (ts : List Token) → ts ≡ [] ++ json_tokens (outline d) → print ts ≡ compact_text d
text_of d ts e = ap print e ∙ print-outline d
