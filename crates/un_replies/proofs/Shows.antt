-- Values of replies that are written as tokens.
use Rattle.std.proofs.Common.{◌≡◌, ◌<◌, ◌^◌, ℕ, ℤ, List, [], ◌∷◌, ◌++◌, map, decimal, ap, sym, ◌∙◌, append_assoc, arith}
use Rattle.std.specs.Fmt.{signed_decimal}
use Rattle.std.specs.List.Sorted.{IsStrictlySortedBy}
use Rattle.json.specs.Token.{Token}
use Rattle.json.specs.Tree.{json_tokens, items_tokens, members_tokens}
use Rattle.json.specs.Print.{IsNumber}
use Rattle.serde_json.specs.Written.{compact_text, outline, items_outline, members_outline}
use Rattle.un_defs.specs.NamedAttributes.{IsNamedAttrs}
use Rattle.un_geom.specs.Rectangle.{Rectangle}
use Rattle.un_values.specs.Values.{whole, items_of, object_of, members_of, attribute}
use Rattle.un_values.proofs.Digits.{number_decimal}
use Rattle.un_values.proofs.Shows.{whole_text, in_order_rising}
use Rattle.un_replies.specs.Replies.{area}

-- a whole number is printed as its digits
pub whole_printed : (z : ℤ) → signed_decimal z ≡ compact_text (whole z)
whole_printed z = sym (whole_text z)

-- ---- the digits of a number of 128 bits are a number of JSON

pub number_of_count : (n : ℕ) → n < 2 ^ 128 → IsNumber (decimal n)
number_of_count n h = number_decimal n (omega arith)

-- ---- areas

-- an area with its number
pub area_steps : (start a b c d : List Token) (n : ℕ) (r : Rectangle) (sides : List ℤ) → sides ≡ r.x0 ∷ r.y0 ∷ r.x1 ∷ r.y1 ∷ []
    → a ≡ start ++ Token.begin_array ∷ [] → b ≡ a ++ Token.number (decimal n) ∷ [] → c ++ Token.end_array ∷ [] ≡ b ++ items_tokens (items_outline (items_of whole sides))
    → d ≡ c ++ Token.end_array ∷ [] → d ≡ start ++ json_tokens (outline (area (n, r)))
area_steps start a b c d n r sides are one two three four =
    let rest = items_tokens (items_outline (items_of whole (r.x0 ∷ r.y0 ∷ r.x1 ∷ r.y1 ∷ []))) in
    four ∙ three ∙ ap (λ s. b ++ items_tokens (items_outline (items_of whole s))) are
    ∙ ap (λ t. t ++ rest) (two ∙ ap (λ t. t ++ Token.number (decimal n) ∷ []) one)
    ∙ append_assoc (start ++ Token.begin_array ∷ []) (Token.number (decimal n) ∷ []) rest ∙ append_assoc start (Token.begin_array ∷ []) (Token.number (decimal n) ∷ rest)

-- ---- attributes

-- the attributes are written but for these
pub record AreWrittenBut (start : List Token) (rest all : List (List ℕ × ℤ)) (out : List Token) : Type 0 where
  pub same : out ++ members_tokens (members_outline (members_of (map attribute rest))) ≡ start ++ members_tokens (members_outline (members_of (map attribute all)))

pub attribute_one : (start : List Token) (x : List ℕ × ℤ) (rest all : List (List ℕ × ℤ)) (out name more : List Token) → AreWrittenBut start (x ∷ rest) all out
    → name ≡ out ++ Token.key x.0 ∷ [] → more ≡ name ++ json_tokens (outline (whole x.1)) → AreWrittenBut start rest all more
attribute_one start x rest all out name more h one two =
    let behind = members_tokens (members_outline (members_of (map attribute rest))) in
    let value = json_tokens (outline (whole x.1)) in
    record {
      same = ap (λ t. t ++ behind) (two ∙ ap (λ t. t ++ value) one) ∙ append_assoc (out ++ Token.key x.0 ∷ []) value behind ∙ append_assoc out (Token.key x.0 ∷ []) (value ++ behind) ∙ h.same;
    }

pub attribute_all : (start : List Token) (all : List (List ℕ × ℤ)) (out : List Token) → AreWrittenBut start [] all out → out ++ Token.end_object ∷ [] ≡ start ++ members_tokens (members_outline (members_of (map attribute all)))
attribute_all start all out h = h.same

pub attributes_steps : (start a b c : List Token) (pairs : List (List ℕ × ℤ)) → IsNamedAttrs pairs
    → a ≡ start ++ Token.begin_object ∷ [] → b ++ Token.end_object ∷ [] ≡ a ++ members_tokens (members_outline (members_of (map attribute pairs))) → c ≡ b ++ Token.end_object ∷ []
    → c ≡ start ++ json_tokens (outline (object_of (map attribute pairs)))
attributes_steps start a b c pairs h one two three =
    three ∙ two ∙ ap (λ t. t ++ members_tokens (members_outline (members_of (map attribute pairs)))) one
    ∙ append_assoc start (Token.begin_object ∷ []) (members_tokens (members_outline (members_of (map attribute pairs))))
    ∙ ap (λ ms. start ++ Token.begin_object ∷ members_tokens (members_outline ms)) (sym (in_order_rising pairs h.rising))

-- ---- pieces behind one another

-- an object that begins with two values, and what comes behind them
pub two_lists : (start a end c m rest : List Token) (k l : List ℕ) → a ≡ start ++ Token.begin_object ∷ Token.key k ∷ (c ++ Token.key l ∷ m) → end ≡ a ++ rest
    → end ≡ start ++ Token.begin_object ∷ Token.key k ∷ (c ++ Token.key l ∷ (m ++ rest))
two_lists start a end c m rest k l first others =
    others ∙ ap (λ t. t ++ rest) first ∙ append_assoc start (Token.begin_object ∷ Token.key k ∷ (c ++ Token.key l ∷ m)) rest
    ∙ ap (λ t. start ++ Token.begin_object ∷ Token.key k ∷ t) (append_assoc c (Token.key l ∷ m) rest)

-- a single attribute
pub one_named : (pairs : List (List ℕ × ℤ)) (pair : List ℕ × ℤ) → pairs ≡ pair ∷ [] → IsNamedAttrs pairs
unfolding IsStrictlySortedBy
one_named pairs pair is = rw is (record { rising = (tt, tt) })
