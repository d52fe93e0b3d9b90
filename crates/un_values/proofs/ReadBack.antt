-- The compact text of a value of that form is read back as the value.
use Rattle.std.proofs.Common.{◌≡◌, ℕ, ◌^◌, pos, negsuc, max, suc, List, [], Some, option_map, option_and_then, Less, nat_abs, refl, sym, ap, ap₂, ◌∙◌, arith, append-nil, ltb-true, leb-true}
use Rattle.std.specs.Prelude.{⊤}
use Rattle.json.specs.Token.{Token}
use Rattle.json.specs.Lex.{tokens}
use Rattle.json.specs.Json as json
use Rattle.json.specs.Print.{IsNumber}
use Rattle.json.specs.Tree as tree
use Rattle.json.proofs.Printed.Tokens.{tokens-print}
use Rattle.json.proofs.Printed.Trees.{value-json_tokens, ArePrintable-json_tokens}
use Rattle.serde_json.specs.Data.{Num, unsigned, negative, float, Data, null, boolean, number, string, array, object, Items, no_items, item, Members, no_members, member, put, depth, items_depth, members_depth}
use Rattle.serde_json.specs.Read.{number_of, of_json, of_items, of_members, max_depth}
use Rattle.serde_json.specs.Written.{number_text, outline, items_outline, members_outline, compact_text}
use Rattle.serde_json.proofs.Texts.{print-outline}
use Rattle.un_values.specs.ReadBack.{number_read, value_read, items_read, members_read, Has128Bits, Has64Bits, EachNumber, EachItemNumber, EachMemberNumber, ReadBackLaw, WideReadBackLaw}
use Rattle.un_values.specs.Formed.{IsWhole, IsBefore, IsFormed, AreFormedItems, AreFormedMembers}
use Rattle.un_values.proofs.Digits.{number_decimal, number_negative}
use Rattle.un_values.proofs.NumbersRead.{number_of-count, number_of-below}
use Rattle.un_values.proofs.Formed.{turned}

-- ---- numbers

text_is_number : (n : Num) → IsWhole n → Has128Bits n → IsNumber (number_text n)
text_is_number (unsigned n) whole few = number_decimal n (omega arith)
text_is_number (negative (pos n)) whole few = absurd whole
text_is_number (negative (negsuc n)) whole few = number_negative (suc n) (omega arith)
text_is_number (float x) whole few = absurd whole

number_is_read : (n : Num) → IsWhole n → Has128Bits n → number_of (number_text n) ≡ Some (number_read n)
number_is_read (unsigned n) whole few = number_of-count n few
number_is_read (negative (pos n)) whole few = absurd whole
number_is_read (negative (negsuc n)) whole few = number_of-below n few
number_is_read (float x) whole few = absurd whole

mutual
  has_numbers : (d : Data) → IsFormed d → EachNumber Has128Bits d → tree.HasNumbers (outline d)
  has_numbers null h few = tt
  has_numbers (boolean b) h few = tt
  has_numbers (number n) h few = text_is_number n h few
  has_numbers (string s) h few = tt
  has_numbers (array ds) h few = items_have_numbers ds h few
  has_numbers (object ms) h few = members_have_numbers ms h few

  items_have_numbers : (ds : Items) → AreFormedItems ds → EachItemNumber Has128Bits ds → tree.ItemsHaveNumbers (items_outline ds)
  items_have_numbers no_items h few = tt
  items_have_numbers (item d ds) h few = (has_numbers d h.0 few.0, items_have_numbers ds h.1 few.1)

  members_have_numbers : (ms : Members) → AreFormedMembers ms → EachMemberNumber Has128Bits ms → tree.MembersHaveNumbers (members_outline ms)
  members_have_numbers no_members h few = tt
  members_have_numbers (member k d ms) h few = (has_numbers d h.0 few.0, members_have_numbers ms h.1.1 few.1)

-- ---- levels

mutual
  depth-outline : (d : Data) → tree.depth (outline d) ≡ depth d
  depth-outline null = refl
  depth-outline (boolean b) = refl
  depth-outline (number n) = refl
  depth-outline (string s) = refl
  depth-outline (array ds) = ap suc (items_depth-outline ds)
  depth-outline (object ms) = ap suc (members_depth-outline ms)

  items_depth-outline : (ds : Items) → tree.items_depth (items_outline ds) ≡ items_depth ds
  items_depth-outline no_items = refl
  items_depth-outline (item d ds) = ap₂ max (depth-outline d) (items_depth-outline ds)

  members_depth-outline : (ms : Members) → tree.members_depth (members_outline ms) ≡ members_depth ms
  members_depth-outline no_members = refl
  members_depth-outline (member k d ms) = ap₂ max (depth-outline d) (members_depth-outline ms)

-- ---- members that are put one after another

abbrev joined : Members → Members → Members
joined no_members ms = ms
joined (member k d found) ms = member k d (joined found ms)

joined-no_members : (found : Members) → joined found no_members ≡ found
joined-no_members no_members = refl
joined-no_members (member k d found) = ap (member k d) (joined-no_members found)

joined_one : (found : Members) (k : List ℕ) (d : Data) (ms : Members) → joined (joined found (member k d no_members)) ms ≡ joined found (member k d ms)
joined_one no_members k d ms = refl
joined_one (member l e found) k d ms = ap (member l e) (joined_one found k d ms)

-- the names of the first members stand before those of the others
abbrev AreBefore : Members → Members → Type 0
AreBefore no_members ms = ⊤
AreBefore (member l e found) ms = IsBefore l ms × AreBefore found ms

put_last : (k : List ℕ) (d e : Data) (found ms : Members) → AreBefore found (member k e ms) → put k d found ≡ joined found (member k d no_members)
put_last k d e no_members ms h = refl
put_last k d e (member l f found) ms h = rw (turned l k Less h.0.0) (ap (member l f) (put_last k d e found ms h.1))

before_more : (k : List ℕ) (d e : Data) (found ms : Members) → AreBefore found (member k e ms) → IsBefore k ms → AreBefore (joined found (member k d no_members)) ms
before_more k d e no_members ms h first = (first, tt)
before_more k d e (member l f found) ms h first = (h.0.1, before_more k d e found ms h.1 first)

mutual
  of_json-outline : (d : Data) → IsFormed d → EachNumber Has128Bits d → of_json (outline d) ≡ Some (value_read d)
  of_json-outline null h few = refl
  of_json-outline (boolean b) h few = refl
  of_json-outline (number n) h few = ap (option_map number) (number_is_read n h few)
  of_json-outline (string s) h few = refl
  of_json-outline (array ds) h few = ap (option_map array) (of_items-outline ds h few)
  of_json-outline (object ms) h few = ap (option_map object) (of_members-outline ms no_members tt h few)

  of_items-outline : (ds : Items) → AreFormedItems ds → EachItemNumber Has128Bits ds → of_items (items_outline ds) ≡ Some (items_read ds)
  of_items-outline no_items h few = refl
  of_items-outline (item d ds) h few =
      ap (option_and_then (λ e. option_map (item e) (of_items (items_outline ds)))) (of_json-outline d h.0 few.0)
      ∙ ap (option_map (item (value_read d))) (of_items-outline ds h.1 few.1)

  of_members-outline : (ms found : Members) → AreBefore found ms → AreFormedMembers ms → EachMemberNumber Has128Bits ms → of_members (members_outline ms) found ≡ Some (joined found (members_read ms))
  of_members-outline no_members found first h few = ap Some (sym (joined-no_members found))
  of_members-outline (member k d ms) found first h few =
      let e = value_read d in
      ap (option_and_then (λ c. of_members (members_outline ms) (put k c found))) (of_json-outline d h.0 few.0)
      ∙ ap (of_members (members_outline ms)) (put_last k e d found ms first)
      ∙ of_members-outline ms (joined found (member k e no_members)) (before_more k e d found ms first h.1.0) h.1.1 few.1
      ∙ ap Some (joined_one found k e (members_read ms))

-- ---- the text of a value

tokens-compact_text : (d : Data) → tree.HasNumbers (outline d) → tokens (compact_text d) ≡ tree.json_tokens (outline d)
tokens-compact_text d h = ap tokens (sym (print-outline d)) ∙ tokens-print _ (ArePrintable-json_tokens (outline d) h)

pub wide_read_back : WideReadBackLaw
wide_read_back d h few =
    let last = option_and_then (λ (p : json.Json × List Token). json.if_last p.0 p.1) in
    ap (λ ts. option_and_then of_json (last (json.value max_depth ts))) (tokens-compact_text d (has_numbers d h.formed few) ∙ sym (append-nil _))
    ∙ ap (λ o. option_and_then of_json (last o)) (value-json_tokens (outline d) max_depth [] (omega (arith, depth-outline d, h.shallow)))
    ∙ of_json-outline d h.formed few

-- ---- numbers of at most 64 bits

Has128Bits-Has64Bits : (n : Num) → Has64Bits n → Has128Bits n
Has128Bits-Has64Bits (unsigned n) h = omega (arith, ltb-true n (2 ^ 64) h)
Has128Bits-Has64Bits (negative z) h = omega (arith, leb-true (nat_abs z) (2 ^ 63) h)
Has128Bits-Has64Bits (float x) h = omega arith

mutual
  each_wide : (d : Data) → EachNumber Has64Bits d → EachNumber Has128Bits d
  each_wide null h = tt
  each_wide (boolean b) h = tt
  each_wide (number n) h = Has128Bits-Has64Bits n h
  each_wide (string s) h = tt
  each_wide (array ds) h = each_item_wide ds h
  each_wide (object ms) h = each_member_wide ms h

  each_item_wide : (ds : Items) → EachItemNumber Has64Bits ds → EachItemNumber Has128Bits ds
  each_item_wide no_items h = tt
  each_item_wide (item d ds) h = (each_wide d h.0, each_item_wide ds h.1)

  each_member_wide : (ms : Members) → EachMemberNumber Has64Bits ms → EachMemberNumber Has128Bits ms
  each_member_wide no_members h = tt
  each_member_wide (member k d ms) h = (each_wide d h.0, each_member_wide ms h.1)

mutual
  read_same : (d : Data) → EachNumber Has64Bits d → value_read d ≡ d
  read_same null h = refl
  read_same (boolean b) h = refl
  read_same (number n) h = rw h
  read_same (string s) h = refl
  read_same (array ds) h = ap array (items_read_same ds h)
  read_same (object ms) h = ap object (members_read_same ms h)

  items_read_same : (ds : Items) → EachItemNumber Has64Bits ds → items_read ds ≡ ds
  items_read_same no_items h = refl
  items_read_same (item d ds) h = ap₂ item (read_same d h.0) (items_read_same ds h.1)

  members_read_same : (ms : Members) → EachMemberNumber Has64Bits ms → members_read ms ≡ ms
  members_read_same no_members h = refl
  members_read_same (member k d ms) h = ap₂ (member k) (read_same d h.0) (members_read_same ms h.1)

pub read_back : ReadBackLaw
read_back d h short = wide_read_back d h (each_wide d short) ∙ ap Some (read_same d short)
