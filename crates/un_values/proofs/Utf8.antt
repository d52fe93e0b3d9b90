-- The text of a value is UTF-8 where the texts in the value are.
use Rattle.std.proofs.Common.{◌≡◌, ℕ, suc, ℤ, pos, negsuc, List, [], ◌∷◌, ◌++◌, map, All, Bool, true, false, Ordering, Less, Equal, Greater, nat_cmp, IsUtf8, refl, arith}
use Rattle.std.proofs.lemmas.Str.{IsUtf8-append, IsUtf8-nil}
use Rattle.std.proofs.lemmas.List.Elements.{All-head, All-tail}
use Rattle.std.proofs.DigitsParse.{digits-IsUtf8}
use Rattle.std.specs.Prelude.{⊤}
use Rattle.std.specs.Cmp.Lexicographic.{slice_cmp}
use Rattle.std.specs.Ordering.{match_ordering}
use Rattle.json.specs.Print.{quoted}
use Rattle.json.proofs.Printed.Utf8.{are_ascii, IsUtf8-are_ascii, IsUtf8-quoted, IsUtf8-boolean}
use Rattle.serde_json.specs.Data.{Num, unsigned, negative, float, Data, null, boolean, number, string, array, object, Items, no_items, item, Members, no_members, member, put}
use Rattle.serde_json.specs.Written.{number_text, comma_if, compact_text, items_text, members_text}
use Rattle.un_values.specs.Values.{count, counts, list, in_order, object_of, attribute}
use Rattle.un_values.specs.ReadBack.{EachText, EachItemText, EachMemberText, Utf8Law}

-- ---- the compact text of a value

pub ascii : {s : List ℕ} → are_ascii s ≡ true → IsUtf8 s
ascii {s} e = IsUtf8-are_ascii s e

number_utf8 : (n : Num) → IsUtf8 (number_text n)
number_utf8 (unsigned n) = digits-IsUtf8 10 false n (omega arith) (omega arith)
number_utf8 (negative (pos n)) = digits-IsUtf8 10 false n (omega arith) (omega arith)
number_utf8 (negative (negsuc n)) = IsUtf8-append (45 ∷ []) _ (ascii refl) (digits-IsUtf8 10 false (suc n) (omega arith) (omega arith))
number_utf8 (float x) = IsUtf8-nil

comma_utf8 : (later : Bool) → IsUtf8 (comma_if later)
comma_utf8 true = ascii refl
comma_utf8 false = IsUtf8-nil

mutual
  pub compact_text_utf8 : Utf8Law
  compact_text_utf8 null h = ascii refl
  compact_text_utf8 (boolean b) h = IsUtf8-boolean b
  compact_text_utf8 (number n) h = number_utf8 n
  compact_text_utf8 (string s) h = IsUtf8-quoted s h
  compact_text_utf8 (array ds) h = IsUtf8-append (91 ∷ []) _ (ascii refl) (items_text_utf8 false ds h)
  compact_text_utf8 (object ms) h = IsUtf8-append (123 ∷ []) _ (ascii refl) (members_text_utf8 false ms h)

  items_text_utf8 : (later : Bool) (ds : Items) → EachItemText IsUtf8 ds → IsUtf8 (items_text later ds)
  items_text_utf8 later no_items h = ascii refl
  items_text_utf8 later (item d ds) h = IsUtf8-append (comma_if later) _ (comma_utf8 later) (IsUtf8-append (compact_text d) _ (compact_text_utf8 d h.0) (items_text_utf8 true ds h.1))

  members_text_utf8 : (later : Bool) (ms : Members) → EachMemberText IsUtf8 ms → IsUtf8 (members_text later ms)
  members_text_utf8 later no_members h = ascii refl
  members_text_utf8 later (member k d ms) h =
      let value = IsUtf8-append (compact_text d) _ (compact_text_utf8 d h.1.0) (members_text_utf8 true ms h.1.1) in
      IsUtf8-append (comma_if later) _ (comma_utf8 later) (IsUtf8-append (quoted k) _ (IsUtf8-quoted k h.0) (IsUtf8-append (58 ∷ []) _ (ascii refl) value))

-- ---- parts

pub of_list : {A : Type 0} (f : A → Data) → ((x : A) → EachText IsUtf8 (f x)) → (xs : List A) → EachText IsUtf8 (list f xs)
of_list f h [] = tt
of_list f h (x ∷ xs) = (h x, of_list f h xs)

pub of_each : {A : Type 0} (Q : A → Type 0) (f : A → Data) → ((x : A) → Q x → EachText IsUtf8 (f x)) → (xs : List A) → All Q xs → EachText IsUtf8 (list f xs)
of_each Q f h [] all = tt
of_each Q f h (x ∷ xs) all = (h x (All-head Q x xs all), of_each Q f h xs (All-tail Q x xs all))

pub of_counts : (xs : List ℕ) → EachText IsUtf8 (counts xs)
of_counts = of_list count (λ x. tt)

-- ---- members put in order

put_utf8_at : (o : Ordering) (k l : List ℕ) (d e : Data) (ms : Members) → IsUtf8 k → EachText IsUtf8 d → EachMemberText IsUtf8 (member l e ms) → EachMemberText IsUtf8 (put k d ms)
    → EachMemberText IsUtf8 (match_ordering o (member k d (member l e ms)) (member l d ms) (member l e (put k d ms)))
put_utf8_at Less k l d e ms key value h later = (key, (value, h))
put_utf8_at Equal k l d e ms key value h later = (h.0, (value, h.1.1))
put_utf8_at Greater k l d e ms key value h later = (h.0, (h.1.0, later))

put_utf8 : (k : List ℕ) (d : Data) (ms : Members) → IsUtf8 k → EachText IsUtf8 d → EachMemberText IsUtf8 ms → EachMemberText IsUtf8 (put k d ms)
put_utf8 k d no_members key value h = (key, (value, tt))
put_utf8 k d (member l e ms) key value h = put_utf8_at (slice_cmp nat_cmp k l) k l d e ms key value h (put_utf8 k d ms key value h.1.1)

abbrev pub AreUtf8 : List (List ℕ × Data) → Type 0
AreUtf8 [] = ⊤
AreUtf8 (m ∷ ms) = (IsUtf8 m.0 × EachText IsUtf8 m.1) × AreUtf8 ms

pub of_object : (ms : List (List ℕ × Data)) → AreUtf8 ms → EachText IsUtf8 (object_of ms)
of_object [] h = tt
of_object (m ∷ ms) h = put_utf8 m.0 m.1 (in_order ms) h.0.0 h.0.1 (of_object ms h.1)

pub AreUtf8-append : (ms ns : List (List ℕ × Data)) → AreUtf8 ms → AreUtf8 ns → AreUtf8 (ms ++ ns)
AreUtf8-append [] ns h k = k
AreUtf8-append (m ∷ ms) ns h k = (h.0, AreUtf8-append ms ns h.1 k)

pub of_attributes : (pairs : List (List ℕ × ℤ)) → All (λ pair. IsUtf8 pair.0) pairs → AreUtf8 (map attribute pairs)
of_attributes [] h = tt
of_attributes (pair ∷ pairs) h = ((h 0 pair (omega arith), tt), of_attributes pairs (λ k d l. h (suc k) d (omega arith)))
