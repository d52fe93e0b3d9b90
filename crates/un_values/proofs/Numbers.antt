-- The numbers in a value, from its parts.
use Rattle.std.proofs.Common.{ℕ, ℤ, List, [], ◌∷◌, map, All, Ordering, Less, Equal, Greater, nat_cmp}
use Rattle.std.specs.Cmp.Lexicographic.{slice_cmp}
use Rattle.std.specs.Ordering.{match_ordering}
use Rattle.std.proofs.lemmas.List.Elements.{All-head, All-tail}
use Rattle.serde_json.specs.Data.{Num, Data, Members, no_members, member, put}
use Rattle.serde_json.specs.Find.{of_integer}
use Rattle.un_values.specs.Values.{list, in_order, object_of, attribute}
use Rattle.un_values.specs.ReadBack.{EachNumber, EachMemberNumber}

module _ (P : Num → Type 0) where
  pub of_list : {A : Type 0} (Q : A → Type 0) (f : A → Data) → ((x : A) → Q x → EachNumber P (f x)) → (xs : List A) → All Q xs → EachNumber P (list f xs)
  of_list Q f h [] all = tt
  of_list Q f h (x ∷ xs) all = (h x (All-head Q x xs all), of_list Q f h xs (All-tail Q x xs all))

  put_at : (o : Ordering) (k l : List ℕ) (d e : Data) (ms : Members) → EachNumber P d → EachMemberNumber P (member l e ms) → EachMemberNumber P (put k d ms)
      → EachMemberNumber P (match_ordering o (member k d (member l e ms)) (member l d ms) (member l e (put k d ms)))
  put_at Less k l d e ms value h later = (value, h)
  put_at Equal k l d e ms value h later = (value, h.1)
  put_at Greater k l d e ms value h later = (h.0, later)

  of_put : (k : List ℕ) (d : Data) (ms : Members) → EachNumber P d → EachMemberNumber P ms → EachMemberNumber P (put k d ms)
  of_put k d no_members value h = (value, tt)
  of_put k d (member l e ms) value h = put_at (slice_cmp nat_cmp k l) k l d e ms value h (of_put k d ms value h.1)

  pub of_attributes : (pairs : List (List ℕ × ℤ)) → All (λ pair. P (of_integer pair.1)) pairs → EachNumber P (object_of (map attribute pairs))
  of_attributes [] all = tt
  of_attributes (pair ∷ pairs) all =
      of_put (attribute pair).0 (attribute pair).1 (in_order (map attribute pairs)) (All-head (λ p. P (of_integer p.1)) pair pairs all) (of_attributes pairs (All-tail (λ p. P (of_integer p.1)) pair pairs all))
