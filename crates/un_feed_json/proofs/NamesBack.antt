-- A name stands for the number of what has it.
use Rattle.std.proofs.Common.{◌≡◌, ◌≢◌, ℕ, zero, suc, ◌+◌, ◌<◌, Bool, true, false, not, cond, List, [], ◌∷◌, length, map, get_or, ltb, None, Some, refl, ap, sym, subst, ◌∙◌, arith}
use Rattle.std.specs.Prelude.{slice_get, position}
use Rattle.std.specs.List.{position_or_len}
use Rattle.std.specs.Option.{option_map_or}
use Rattle.std.proofs.lemmas.Bool.{lt-ltb}
use Rattle.std.proofs.lemmas.List.{get_or-map, length-map}
use Rattle.std.proofs.lemmas.Option.{slice_get_within, get_or_from_slice_get}
use Rattle.serde_json.specs.Data.{string}
use Rattle.un_schema.specs.Catalog.{Catalog, same_text, place_of}
use Rattle.un_schema.specs.Sound.{IsCatalog}
use Rattle.un_tiers.specs.declared.tier.Tier.{Tier}
use Rattle.un_tiers.specs.Lists.{IsTierList}
use Rattle.un_defs.proofs.SameStar.{texts}
use Rattle.un_feed_json.specs.Names.{kind_name, tier_name}
use Rattle.un_feed_json.specs.Forms.{kind_of, tier_of}

-- ---- the first that passes

first_at : {A : Type 0} (p : A → Bool) (xs : List A) (i : ℕ) (d : A) → i < length xs → p (get_or xs i d) ≡ true → ((k : ℕ) → k < i → p (get_or xs k d) ≡ false) → position_or_len p xs ≡ i
first_at p [] i d l here before = absurd (omega arith)
first_at p (x ∷ xs) zero d l here before = ap (λ b. cond (not b) (1 + position_or_len p xs) 0) here
first_at p (x ∷ xs) (suc i) d l here before =
    let rest : position_or_len p xs ≡ i = first_at p xs i d (omega arith) here (λ k lt. before (suc k) (omega arith)) in
    ap (λ b. cond (not b) (1 + position_or_len p xs) 0) (before 0 (omega arith)) ∙ omega arith

position_at : {A : Type 0} (p : A → Bool) (xs : List A) (i : ℕ) (d : A) → i < length xs → p (get_or xs i d) ≡ true → ((k : ℕ) → k < i → p (get_or xs k d) ≡ false) → position p xs ≡ Some i
position_at p xs i d l here before =
    ap (λ n. cond (ltb n (length xs)) (Some n) None) (first_at p xs i d l here before) ∙ ap (λ b. cond b (Some i) None) (lt-ltb i (length xs) l)

other_text : (a b : List ℕ) → a ≢ b → same_text a b ≡ false
other_text a b other = go (same_text a b) (texts a b).0
  where
    go : (c : Bool) → (c ≡ true → a ≡ b) → c ≡ false
    go true says = absurd (other (says refl))
    go false says = refl

-- the first that has the name of this one is this one
pub name_found : {A : Type 0} (f : A → List ℕ) (xs : List A) (i : ℕ) (x : A) → slice_get xs i ≡ Some x → ((k : ℕ) → k < i → f (get_or xs k x) ≢ f x)
    → position (λ y. same_text (f x) (f y)) xs ≡ Some i
name_found f xs i x at apart =
    position_at (λ y. same_text (f x) (f y)) xs i x (slice_get_within xs i x at)
    (subst (λ y. same_text (f x) (f y) ≡ true) (sym (get_or_from_slice_get xs i x x at)) ((texts (f x) (f x)).1 refl))
    (λ k lt. other_text (f x) (f (get_or xs k x)) (λ e. apart k lt (sym e)))

pub inside : {A : Type 0} (xs : List A) (i : ℕ) → i < length xs → (x : A) × (slice_get xs i ≡ Some x)
inside [] i l = absurd (omega arith)
inside (x ∷ xs) zero l = (x, refl)
inside (x ∷ xs) (suc i) l = inside xs i (omega arith)

-- ---- kinds, tiers and attributes

pub kind_back : (S : Catalog) → IsCatalog S → (k : ℕ) → k < length S.kinds → kind_of S (string (kind_name S k)) ≡ Some k
kind_back S h k l =
    let found = inside S.kinds k l in
    ap (λ o. position (λ kind. same_text (option_map_or (λ x. x.name) o []) kind.name) S.kinds) found.1
    ∙ name_found (λ x. x.name) S.kinds k found.0 found.1 (λ j lt e.
    let within : k < length (map (λ x. x.name) S.kinds) = omega (arith, length-map S.kinds (λ x. x.name)) in
    h.kind_names j k found.0.name lt within
    (get_or-map (λ x. x.name) S.kinds j found.0 found.0.name (omega arith) ∙ e
    ∙ sym (get_or-map (λ x. x.name) S.kinds k found.0 found.0.name l ∙ ap (λ x. x.name) (get_or_from_slice_get S.kinds k found.0 found.0 found.1))))

pub tier_back : (T : List Tier) → IsTierList T → (t : ℕ) → t < length T → tier_of T (string (tier_name T t)) ≡ Some t
tier_back T h t l =
    let found = inside T t l in
    ap (λ o. position (λ tier. same_text (option_map_or (λ x. x.name) o []) tier.name) T) found.1
    ∙ name_found (λ x. x.name) T t found.0 found.1 (λ j lt e.
    h.distinct j t found.0 lt l (e ∙ ap (λ x. x.name) (sym (get_or_from_slice_get T t found.0 found.0 found.1))))

pub attribute_back : (S : Catalog) → IsCatalog S → (n : ℕ) (name : List ℕ) → slice_get S.attributes n ≡ Some name → place_of name S.attributes ≡ Some n
attribute_back S h n name at =
    name_found (λ x. x) S.attributes n name at (λ j lt e.
    h.attributes.distinct j n name lt (slice_get_within S.attributes n name at) (e ∙ sym (get_or_from_slice_get S.attributes n name name at)))
