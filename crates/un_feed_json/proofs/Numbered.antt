-- Attributes by number, as the members of an object give them one after the other.
use Rattle.std.proofs.Common.{◌≡◌, ℕ, ◌<◌, ℤ, List, [], ◌∷◌, ◌++◌, All, Option, None, Some, IfSome, option_and_then, String, string_bytes, refl, ap, sym, subst, ◌∙◌, append_assoc, append-nil}
use Rattle.std.proofs.lemmas.List.Elements.{All-nil, All-push}
use Rattle.std.specs.Option.{option_map}
use Rattle.std.specs.declared.alloc.Global.{Global}
use Rattle.serde_json.specs.declared.value.Value.{Value}
use Rattle.serde_json.specs.View.{view, members_view}
use Rattle.un_attrs.specs.Attributes.{known}
use Rattle.un_schema.specs.Catalog.{Catalog}
use Rattle.un_feed_json.specs.Forms.{each_numbered, numbered_of}

abbrev Entry : Type 0
Entry = String Global × Value

abbrev Pairs : Type 0
Pairs = List (Option ℕ × ℤ)

known-append : (xs ys : Pairs) → known (xs ++ ys) ≡ known xs ++ known ys
known-append [] ys = refl
known-append ((None, v) ∷ xs) ys = known-append xs ys
known-append ((Some n, v) ∷ xs) ys = ap (λ l. (n, v) ∷ l) (known-append xs ys)

-- what holds of the pairs that have a number
abbrev pub AreFew : List (Option ℕ × ℤ) → Type 0
AreFew pairs = All (λ pair. pair.0 < 32) (known pairs)

few_more : (pairs : Pairs) (o : Option ℕ) (v : ℤ) → AreFew pairs → IfSome o (λ n. n < 32) → AreFew (pairs ++ (o, v) ∷ [])
few_more pairs None v h few = subst (All (λ pair. pair.0 < 32)) (sym (known-append pairs ((None, v) ∷ []) ∙ append-nil (known pairs))) h
few_more pairs (Some n) v h few = subst (All (λ pair. pair.0 < 32)) (sym (known-append pairs ((Some n, v) ∷ []))) (All-push (λ pair. pair.0 < 32) (known pairs) (n, v) h few)

abbrev pub behind : List (Option ℕ × ℤ) → Option (List (Option ℕ × ℤ)) → Option (List (Option ℕ × ℤ))
behind prefix rest = option_map (λ xs. prefix ++ xs) rest

-- what the members from here on are, behind what those before are, is what all are
pub record HasRead (S : Catalog) (prefix : List (Option ℕ × ℤ)) (rest all : List (String Global × Value)) : Type 0 where
  pub same : behind prefix (each_numbered S (members_view rest)) ≡ each_numbered S (members_view all)
  pub few : AreFew prefix

-- no member is read yet
pub read_first : (S : Catalog) (all : List (String Global × Value)) → HasRead S [] all all
read_first S all = record { same = go (each_numbered S (members_view all)); few = All-nil (λ (pair : ℕ × ℤ). pair.0 < 32) }
  where
    go : (r : Option (List (Option ℕ × ℤ))) → behind [] r ≡ r
    go None = refl
    go (Some xs) = refl

-- one more member is read
pub read_on : (S : Catalog) (prefix : List (Option ℕ × ℤ)) (k : String Global) (v : Value) (pair : Option ℕ × ℤ) (rest all : List (String Global × Value))
    → HasRead S prefix ((k, v) ∷ rest) all → Some pair ≡ numbered_of S (string_bytes k) (view v) → IfSome pair.0 (λ n. n < 32)
    → HasRead S (prefix ++ pair ∷ []) rest all
read_on S prefix k v pair rest all h is few = record {
  same = regroup (each_numbered S (members_view rest))
      ∙ (ap (λ p. behind prefix (option_and_then (λ q. option_map (λ pairs. q ∷ pairs) (each_numbered S (members_view rest))) p)) is ∙ h.same);
  few = few_more prefix pair.0 pair.1 h.few few;
}
  where
    regroup : (r : Option (List (Option ℕ × ℤ))) → behind (prefix ++ pair ∷ []) r ≡ behind prefix (option_map (λ xs. pair ∷ xs) r)
    regroup None = refl
    regroup (Some xs) = ap Some (append_assoc prefix (pair ∷ []) xs)

-- one member is none
pub read_none : (S : Catalog) (prefix : List (Option ℕ × ℤ)) (k : String Global) (v : Value) (rest all : List (String Global × Value))
    → HasRead S prefix ((k, v) ∷ rest) all → None ≡ numbered_of S (string_bytes k) (view v) → None ≡ each_numbered S (members_view all)
read_none S prefix k v rest all h is =
    ap (λ p. behind prefix (option_and_then (λ q. option_map (λ pairs. q ∷ pairs) (each_numbered S (members_view rest))) p)) is ∙ h.same

-- all members are read
pub read_all : (S : Catalog) (prefix : List (Option ℕ × ℤ)) (all : List (String Global × Value)) → HasRead S prefix [] all → Some prefix ≡ each_numbered S (members_view all)
read_all S prefix all h = sym (ap Some (append-nil prefix)) ∙ h.same
