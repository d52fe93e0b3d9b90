-- Values of that form, from their parts.
use Rattle.std.proofs.Common.{◌≡◌, ℕ, suc, ◌≤◌, ℤ, pos, negsuc, Bool, List, [], ◌∷◌, ◌++◌, map, Ordering, Less, Equal, Greater, refl, ap, ◌∙◌, arith, nat_cmp}
use Rattle.std.proofs.lemmas.Cmp.{nat_list_cmp_total}
use Rattle.std.specs.Prelude.{⊤}
use Rattle.std.specs.Cmp.Lexicographic.{slice_cmp}
use Rattle.std.specs.Ordering.{match_ordering, ordering_reverse}
use Rattle.serde_json.specs.Data.{Data, boolean, string, Members, no_members, member, put, depth, members_depth}
use Rattle.un_values.specs.Values.{count, counts, whole, list, tuple, in_order, object_of, attribute}
use Rattle.un_values.specs.Formed.{IsBefore, IsFormed, AreFormedMembers, IsFormedTo}

-- ---- members put in order

pub turned : (k l : List ℕ) (o : Ordering) → slice_cmp nat_cmp k l ≡ o → slice_cmp nat_cmp l k ≡ ordering_reverse o
turned k l o e = nat_list_cmp_total.antisymm l k ∙ ap ordering_reverse e

before_all : (k l : List ℕ) (ms : Members) → slice_cmp nat_cmp k l ≡ Less → IsBefore l ms → IsBefore k ms
before_all k l no_members first h = tt
before_all k l (member m d ms) first h = (nat_list_cmp_total.trans k l m first h.0, before_all k l ms first h.1)

before_put_at : (o : Ordering) (q k l : List ℕ) (d e : Data) (ms : Members) → slice_cmp nat_cmp q k ≡ Less → IsBefore q (member l e ms) → IsBefore q (put k d ms)
    → IsBefore q (match_ordering o (member k d (member l e ms)) (member l d ms) (member l e (put k d ms)))
before_put_at Less q k l d e ms first h later = (first, h)
before_put_at Equal q k l d e ms first h later = h
before_put_at Greater q k l d e ms first h later = (h.0, later)

before_put : (q k : List ℕ) (d : Data) (ms : Members) → slice_cmp nat_cmp q k ≡ Less → IsBefore q ms → IsBefore q (put k d ms)
before_put q k d no_members first h = (first, tt)
before_put q k d (member l e ms) first h = before_put_at (slice_cmp nat_cmp k l) q k l d e ms first h (before_put q k d ms first h.1)

formed_put_at : (o : Ordering) (k l : List ℕ) (d e : Data) (ms : Members) → slice_cmp nat_cmp k l ≡ o → IsFormed d → AreFormedMembers (member l e ms) → AreFormedMembers (put k d ms)
    → AreFormedMembers (match_ordering o (member k d (member l e ms)) (member l d ms) (member l e (put k d ms)))
formed_put_at Less k l d e ms is one h later = (one, ((is, before_all k l ms is h.1.0), h))
formed_put_at Equal k l d e ms is one h later = (one, h.1)
formed_put_at Greater k l d e ms is one h later = (h.0, (before_put l k d ms (turned k l Greater is) h.1.0, later))

formed_put : (k : List ℕ) (d : Data) (ms : Members) → IsFormed d → AreFormedMembers ms → AreFormedMembers (put k d ms)
formed_put k d no_members one h = (one, (tt, tt))
formed_put k d (member l e ms) one h = formed_put_at (slice_cmp nat_cmp k l) k l d e ms refl one h (formed_put k d ms one h.1.1)

shallow_at : (o : Ordering) (a b c : Members) (n : ℕ) → members_depth a ≤ n → members_depth b ≤ n → members_depth c ≤ n → members_depth (match_ordering o a b c) ≤ n
shallow_at Less a b c n p q r = p
shallow_at Equal a b c n p q r = q
shallow_at Greater a b c n p q r = r

shallow_put : (k : List ℕ) (d : Data) (ms : Members) (n : ℕ) → depth d ≤ n → members_depth ms ≤ n → members_depth (put k d ms) ≤ n
shallow_put k d no_members n one h = omega arith
shallow_put k d (member l e ms) n one h =
    shallow_at (slice_cmp nat_cmp k l) (member k d (member l e ms)) (member l d ms) (member l e (put k d ms)) n (omega arith) (omega arith) (omega (arith, shallow_put k d ms n one (omega arith)))

-- ---- parts

pub of_count : (n x : ℕ) → IsFormedTo n (count x)
of_count n x = record { formed = tt; shallow = omega arith }

pub of_whole : (n : ℕ) (z : ℤ) → IsFormedTo n (whole z)
of_whole n (pos x) = record { formed = tt; shallow = omega arith }
of_whole n (negsuc x) = record { formed = tt; shallow = omega arith }

pub of_truth : (n : ℕ) (b : Bool) → IsFormedTo n (boolean b)
of_truth n b = record { formed = tt; shallow = omega arith }

pub of_text : (n : ℕ) (s : List ℕ) → IsFormedTo n (string s)
of_text n s = record { formed = tt; shallow = omega arith }

-- a bound on the levels may be raised
pub of_less : (n m : ℕ) (d : Data) → n ≤ m → IsFormedTo n d → IsFormedTo m d
of_less n m d l h = record { formed = h.formed; shallow = omega (arith, h.shallow) }

abbrev pub AreFormedTo : ℕ → List Data → Type 0
AreFormedTo n [] = ⊤
AreFormedTo n (d ∷ ds) = IsFormedTo n d × AreFormedTo n ds

pub of_tuple : (n : ℕ) (ds : List Data) → AreFormedTo n ds → IsFormedTo (suc n) (tuple ds)
of_tuple n [] h = record { formed = tt; shallow = omega arith }
of_tuple n (d ∷ ds) h =
    let more = of_tuple n ds h.1 in
    record { formed = (h.0.formed, more.formed); shallow = omega (arith, h.0.shallow, more.shallow) }

pub of_list : {A : Type 0} (n : ℕ) (f : A → Data) → ((x : A) → IsFormedTo n (f x)) → (xs : List A) → IsFormedTo (suc n) (list f xs)
of_list n f h [] = record { formed = tt; shallow = omega arith }
of_list n f h (x ∷ xs) =
    let more = of_list n f h xs in
    let one = h x in
    record { formed = (one.formed, more.formed); shallow = omega (arith, one.shallow, more.shallow) }

pub of_counts : (n : ℕ) (xs : List ℕ) → IsFormedTo (suc n) (counts xs)
of_counts n = of_list n count (of_count n)

abbrev pub HasFormed : ℕ → List (List ℕ × Data) → Type 0
HasFormed n [] = ⊤
HasFormed n (m ∷ ms) = IsFormedTo n m.1 × HasFormed n ms

pub of_object : (n : ℕ) (ms : List (List ℕ × Data)) → HasFormed n ms → IsFormedTo (suc n) (object_of ms)
of_object n [] h = record { formed = tt; shallow = omega arith }
of_object n (m ∷ ms) h =
    let more = of_object n ms h.1 in
    record {
      formed = formed_put m.0 m.1 (in_order ms) h.0.formed more.formed;
      shallow = omega (arith, shallow_put m.0 m.1 (in_order ms) n h.0.shallow (omega (arith, more.shallow)));
    }

pub HasFormed-append : (n : ℕ) (ms ns : List (List ℕ × Data)) → HasFormed n ms → HasFormed n ns → HasFormed n (ms ++ ns)
HasFormed-append n [] ns h k = k
HasFormed-append n (m ∷ ms) ns h k = (h.0, HasFormed-append n ms ns h.1 k)

pub of_attributes : (n : ℕ) (pairs : List (List ℕ × ℤ)) → HasFormed n (map attribute pairs)
of_attributes n [] = tt
of_attributes n ((name, z) ∷ pairs) = (of_whole n z, of_attributes n pairs)
