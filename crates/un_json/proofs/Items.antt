-- Lists of values, as the code reads them one after the other.
use Rattle.std.proofs.Common.{◌≡◌, ◌≢◌, ◌==◌, ℕ, suc, ℤ, List, [], ◌∷◌, ◌++◌, length, Option, None, Some, option_map, option_and_then, refl, ap, sym, ◌∙◌, arith, append_assoc, append-nil}
use Rattle.serde_json.specs.declared.value.Value.{Value}
use Rattle.serde_json.specs.Data.{Data}
use Rattle.serde_json.specs.View.{view, items_view}
use Rattle.serde_json.specs.Find.{as_array}
use Rattle.un_json.specs.Forms.{each_item, kept, whole, numbers_of, pair_of, count_from_to, id_of, port, ends_of, port_of}

-- if each of the values is something, there is one for each
pub each-length : {A : Type 0} (f : Data → Option A) (vs : List Value) (xs : List A) → each_item f (items_view vs) ≡ Some xs → length xs ≡ length vs
each-length f [] xs e = let h : xs ≡ [] = cc in rw h refl
each-length {A = A} f (v ∷ vs) xs e = go (f (view v)) (each_item f (items_view vs)) (each-length f vs) e
  where
    go : (o : Option A) (r : Option (List A)) → ((ys : List A) → r ≡ Some ys → length ys ≡ length vs) → option_and_then (λ x. option_map (λ ys. x ∷ ys) r) o ≡ Some xs → length xs ≡ suc (length vs)
    go None r later e = cc
    go (Some x) None later e = cc
    go (Some x) (Some ys) later e = let h : xs ≡ x ∷ ys = cc in rw h (ap suc (later ys refl))

-- a list of another length is none of this one
pub wrong_length : (n : ℕ) (vs : List Value) → length vs ≢ n → kept (λ xs. length xs == n) (each_item whole (items_view vs)) ≡ None
wrong_length n vs other = go (each_item whole (items_view vs)) (each-length whole vs)
  where
    go : (r : Option (List ℤ)) → ((xs : List ℤ) → r ≡ Some xs → length xs ≡ length vs) → kept (λ xs. length xs == n) r ≡ None
    go None same = refl
    go (Some xs) same = let h : length xs ≢ n = (λ e. other (sym (same xs refl) ∙ e)) in grind arith

-- an array of another length is no such numbers
pub not_numbers : (n : ℕ) (d : Data) (vs : List Value) → Some (items_view vs) ≡ as_array d → length vs ≢ n → None ≡ numbers_of n d
not_numbers n d vs is other = rw (← is) (sym (wrong_length n vs other))

-- an array of another length is no pair
pub not_pair : {A B C : Type 0} (make : A → B → C) (f : Data → Option A) (g : Data → Option B) (d : Data) (vs : List Value) → Some (items_view vs) ≡ as_array d → length vs ≢ 2 → None ≡ option_and_then (pair_of make f g) (as_array d)
not_pair make f g d vs is other = rw (← is) (sym (go vs other))
  where
    go : (ws : List Value) → length ws ≢ 2 → pair_of make f g (items_view ws) ≡ None
    go [] other = refl
    go (v ∷ []) other = refl
    go (v ∷ w ∷ []) other = absurd (other refl)
    go (v ∷ w ∷ u ∷ rest) other = refl

pub not_ends : (d : Data) (vs : List Value) → Some (items_view vs) ≡ as_array d → length vs ≢ 2 → None ≡ ends_of d
not_ends d vs is other = not_pair (λ a b. a ∷ b ∷ []) (count_from_to 0 8) (count_from_to 0 8) d vs is other

pub not_port : (d : Data) (vs : List Value) → Some (items_view vs) ≡ as_array d → length vs ≢ 2 → None ≡ port_of d
not_port d vs is other = not_pair port id_of (count_from_to 0 63) d vs is other

-- with these elements before
abbrev pub behind : {A : Type 0} → List A → Option (List A) → Option (List A)
behind prefix rest = option_map (λ xs. prefix ++ xs) rest

-- what the values from here on are, behind what those before are, is what all are
pub record HasRead {A : Type 0} (f : Data → Option A) (prefix : List A) (rest all : List Value) : Type 0 where
  pub same : behind prefix (each_item f (items_view rest)) ≡ each_item f (items_view all)

-- one more value is read
pub read_on : {A : Type 0} (f : Data → Option A) (prefix : List A) (v : Value) (x : A) (rest all : List Value) → HasRead f prefix (v ∷ rest) all → f (view v) ≡ Some x → HasRead f (prefix ++ x ∷ []) rest all
read_on f prefix v x rest all h is = record { same = regroup (each_item f (items_view rest)) ∙ (rw is at h.same) }
  where
    regroup : (r : Option (List _)) → behind (prefix ++ x ∷ []) r ≡ behind prefix (option_map (λ xs. x ∷ xs) r)
    regroup None = refl
    regroup (Some xs) = ap Some (append_assoc prefix (x ∷ []) xs)

-- one value is nothing, so all are nothing
pub read_none : {A : Type 0} (f : Data → Option A) (prefix : List A) (v : Value) (rest all : List Value) → HasRead f prefix (v ∷ rest) all → f (view v) ≡ None → each_item f (items_view all) ≡ None
read_none f prefix v rest all h is = sym (rw is at h.same)

-- all values are read
pub read_all : {A : Type 0} (f : Data → Option A) (prefix : List A) (all : List Value) → HasRead f prefix [] all → each_item f (items_view all) ≡ Some prefix
read_all f prefix all h = sym h.same ∙ ap Some (append-nil prefix)
