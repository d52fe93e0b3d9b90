-- Attributes by name, as the members of an object give them one after the other.
use Rattle.std.proofs.Common.{◌≡◌, ℕ, ℤ, List, [], ◌∷◌, ◌++◌, map, Option, None, Some, option_map, option_and_then, String, string_bytes, if◌then◌else◌, Bool, true, false, refl, ap, sym, ◌∙◌, subst, append_assoc, append-nil}
use Rattle.std.specs.declared.alloc.Global.{Global}
use Rattle.std.specs.List.{AllByRecursion}
use Rattle.std.specs.List.Sorted.{IsStrictlySortedBy}
use Rattle.std.specs.declared.cmp.Ordering.TheVariants.{Less}
use Rattle.std.specs.String.{string_cmp}
use Rattle.std.specs.Ordering.{nat_cmp}
use Rattle.std.specs.Cmp.Lexicographic.{slice_cmp}
use Rattle.serde_json.specs.Data.{Data}
use Rattle.serde_json.specs.declared.value.Value.{Value}
use Rattle.serde_json.specs.View.{view, members_view}
use Rattle.un_schema.specs.Names.{is_name}
use Rattle.un_defs.specs.NamedAttributes.{IsNamedAttrs}
use Rattle.un_json.specs.Forms.{whole, attribute_of, each_attribute}

abbrev Entry : Type 0
Entry = String Global × Value

abbrev pub behind : List (List ℕ × ℤ) → Option (List (List ℕ × ℤ)) → Option (List (List ℕ × ℤ))
behind prefix rest = option_map (λ xs. prefix ++ xs) rest

-- what the members from here on are, behind what those before are, is what all are
pub record HasRead (prefix : List (List ℕ × ℤ)) (rest all : List Entry) : Type 0 where
  pub same : behind prefix (each_attribute (members_view rest)) ≡ each_attribute (members_view all)

-- one more member is read
pub read_on : (prefix : List (List ℕ × ℤ)) (k : String Global) (v : Value) (pair : List ℕ × ℤ) (rest all : List Entry) → HasRead prefix ((k, v) ∷ rest) all → Some pair ≡ attribute_of (string_bytes k) (view v) → HasRead (prefix ++ pair ∷ []) rest all
read_on prefix k v pair rest all h is = record { same = regroup (each_attribute (members_view rest)) ∙ (rw (← is) at h.same) }
  where
    regroup : (r : Option (List (List ℕ × ℤ))) → behind (prefix ++ pair ∷ []) r ≡ behind prefix (option_map (λ xs. pair ∷ xs) r)
    regroup None = refl
    regroup (Some xs) = ap Some (append_assoc prefix (pair ∷ []) xs)

-- one member is none
pub read_none : (prefix : List (List ℕ × ℤ)) (k : String Global) (v : Value) (rest all : List Entry) → HasRead prefix ((k, v) ∷ rest) all → None ≡ attribute_of (string_bytes k) (view v) → None ≡ each_attribute (members_view all)
read_none prefix k v rest all h is = rw (← is) at h.same

-- all members are read
pub read_all : (prefix : List (List ℕ × ℤ)) (all : List Entry) → HasRead prefix [] all → Some prefix ≡ each_attribute (members_view all)
read_all prefix all h = sym (ap Some (append-nil prefix)) ∙ h.same

-- an attribute has the name of its member
same_name : (name : List ℕ) (d : Data) (pair : List ℕ × ℤ) → attribute_of name d ≡ Some pair → pair.0 ≡ name
same_name name d pair is = go (is_name name) (whole d) is
  where
    go : (b : Bool) (o : Option ℤ) → (if b then option_map (λ n. (name, n)) o else None) ≡ Some pair → pair.0 ≡ name
    go false o e = cc
    go true None e = cc
    go true (Some n) e = let h : (name, n) ≡ pair = cc in sym (ap (λ p. p.0) h)

-- the names are those of the members
names_of : (ms : List Entry) (pairs : List (List ℕ × ℤ)) → each_attribute (members_view ms) ≡ Some pairs → map (λ pair. pair.0) pairs ≡ map (λ m. string_bytes m.0) ms
names_of [] pairs e = let h : pairs ≡ [] = cc in rw h refl
names_of (m ∷ ms) pairs e = go (attribute_of (string_bytes m.0) (view m.1)) (each_attribute (members_view ms)) (same_name (string_bytes m.0) (view m.1)) (names_of ms) e
  where
    go : (o : Option (List ℕ × ℤ)) (r : Option (List (List ℕ × ℤ)))
        → ((pair : List ℕ × ℤ) → o ≡ Some pair → pair.0 ≡ string_bytes m.0)
        → ((ps : List (List ℕ × ℤ)) → r ≡ Some ps → map (λ pair. pair.0) ps ≡ map (λ n. string_bytes n.0) ms)
        → option_and_then (λ pair. option_map (λ ps. pair ∷ ps) r) o ≡ Some pairs → map (λ pair. pair.0) pairs ≡ string_bytes m.0 ∷ map (λ n. string_bytes n.0) ms
    go None r one later e = cc
    go (Some pair) None one later e = cc
    go (Some pair) (Some ps) one later e =
        let h : pairs ≡ pair ∷ ps = cc in
        let first : pair.0 ≡ string_bytes m.0 = one pair refl in
        let rest : map (λ p. p.0) ps ≡ map (λ n. string_bytes n.0) ms = later ps refl in
        rw h (rw first (ap (λ xs. string_bytes m.0 ∷ xs) rest))

-- texts that rise have bytes that rise
all_less : (k : String Global) (ms : List Entry) → AllByRecursion (λ y. string_cmp k y ≡ Less) (map (λ m. m.0) ms) → AllByRecursion (λ y. slice_cmp nat_cmp (string_bytes k) y ≡ Less) (map (λ m. string_bytes m.0) ms)
all_less k [] h = h
all_less k (m ∷ ms) h = (h.0, all_less k ms h.1)

rising_bytes : (ms : List Entry) → IsStrictlySortedBy string_cmp (map (λ m. m.0) ms) → IsStrictlySortedBy (slice_cmp nat_cmp) (map (λ m. string_bytes m.0) ms)
unfolding IsStrictlySortedBy
rising_bytes [] h = h
rising_bytes (m ∷ ms) h = (all_less m.0 ms h.0, rising_bytes ms h.1)

-- so what the members of an object are stands in byte order of names
pub named : (pairs : List (List ℕ × ℤ)) (ms : List Entry) → HasRead pairs [] ms → IsStrictlySortedBy string_cmp (map (λ m. m.0) ms) → IsNamedAttrs pairs
named pairs ms h ordered = record { rising = subst (IsStrictlySortedBy (slice_cmp nat_cmp)) (sym (names_of ms pairs (sym (read_all pairs ms h)))) (rising_bytes ms ordered) }

-- no attributes
pub none_named : (pairs : List (List ℕ × ℤ)) → pairs ≡ [] → IsNamedAttrs pairs
unfolding IsStrictlySortedBy
none_named pairs is = rw is (record { rising = tt })
