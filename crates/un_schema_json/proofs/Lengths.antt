-- Lists that have not the length of a form.
use Rattle.std.proofs.Common.{◌≡◌, ◌≢◌, ◌≤◌, ◌<◌, ℕ, ◌&&◌, nat_le, List, [], ◌∷◌, length, get_or, Option, None, Some, option_and_then, refl, sym, arith}
use Rattle.std.proofs.lemmas.Bool.Decides.{nat_tests}
use Rattle.serde_json.specs.declared.value.Value.{Value}
use Rattle.serde_json.specs.Data.{Data}
use Rattle.serde_json.specs.View.{view, items_view}
use Rattle.serde_json.specs.Find.{as_array, as_str}
use Rattle.un_json.specs.Forms.{kept, each_item, list_of, list_from_to, terminal_of}
use Rattle.un_json.proofs.Items.{each-length, not_pair}
use Rattle.un_schema_json.specs.Parts.{terminals_of, path, path_of, config_of, config_from, kind_of, kind_from, kind_parts, marks_of, tier_of, tier_from}

-- of a longer list there is nothing
pub too_long : {A : Type 0} (f : Data → Option A) (most : ℕ) (d : Data) (vs : List Value) → Some (items_view vs) ≡ as_array d → most < length vs
    → None ≡ list_from_to 0 most f d
too_long {A = A} f most d vs is long = rw (← is) (sym (go (each_item f (items_view vs)) (each-length f vs)))
  where
    go : (r : Option (List A)) → ((xs : List A) → r ≡ Some xs → length xs ≡ length vs)
        → kept (λ xs. nat_le 0 (length xs) && nat_le (length xs) most) r ≡ None
    go None same = refl
    go (Some xs) same = let h : length xs ≡ length vs = same xs refl in let over : most < length xs = rw h long in grind (arith, nat_tests)

-- a list that is not longer may have the form
pub short : {A : Type 0} (f : Data → Option A) (most : ℕ) (d : Data) (vs : List Value) → Some (items_view vs) ≡ as_array d → length vs ≤ most
    → list_from_to 0 most f d ≡ list_of f d
short {A = A} f most d vs is few = rw (← is) (go (each_item f (items_view vs)) (each-length f vs))
  where
    go : (r : Option (List A)) → ((xs : List A) → r ≡ Some xs → length xs ≡ length vs)
        → kept (λ xs. nat_le 0 (length xs) && nat_le (length xs) most) r ≡ r
    go None same = refl
    go (Some xs) same = let h : length xs ≡ length vs = same xs refl in let under : length xs ≤ most = rw h few in grind (arith, nat_tests)

pub short_items : {A : Type 0} (f : Data → Option A) (most : ℕ) (d : Data) (vs : List Value) → Some (items_view vs) ≡ as_array d → length vs ≤ most
    → list_from_to 0 most f d ≡ each_item f (items_view vs)
short_items {A = A} f most d vs is few = go (list_from_to 0 most f d) (short f most d vs is few)
  where
    go : (r : Option (List A)) → r ≡ list_of f d → r ≡ each_item f (items_view vs)
    go r same = rw (← is) at same

pub not_terminals : (d : Data) (vs : List Value) → Some (items_view vs) ≡ as_array d → length vs ≢ 2 → None ≡ terminals_of d
not_terminals d vs is other = not_pair (λ a b. a ∷ b ∷ []) terminal_of terminal_of d vs is other

pub not_path : (d : Data) (vs : List Value) → Some (items_view vs) ≡ as_array d → length vs ≢ 2 → None ≡ path_of d
not_path d vs is other = not_pair path as_str (list_of terminals_of) d vs is other

pub not_config : (d : Data) (vs : List Value) → Some (items_view vs) ≡ as_array d → length vs ≢ 4 → None ≡ config_of d
not_config d vs is other = rw (← is) (sym (go vs other))
  where
    go : (ws : List Value) → length ws ≢ 4 → config_from (items_view ws) ≡ None
    go [] other = refl
    go (a ∷ []) other = refl
    go (a ∷ b ∷ []) other = refl
    go (a ∷ b ∷ c ∷ []) other = refl
    go (a ∷ b ∷ c ∷ e ∷ []) other = absurd (other refl)
    go (a ∷ b ∷ c ∷ e ∷ f ∷ rest) other = refl

pub not_tier : (d : Data) (vs : List Value) → Some (items_view vs) ≡ as_array d → length vs ≢ 3 → None ≡ tier_of d
not_tier d vs is other = rw (← is) (sym (go vs other))
  where
    go : (ws : List Value) → length ws ≢ 3 → tier_from (items_view ws) ≡ None
    go [] other = refl
    go (a ∷ []) other = refl
    go (a ∷ b ∷ []) other = refl
    go (a ∷ b ∷ c ∷ []) other = absurd (other refl)
    go (a ∷ b ∷ c ∷ e ∷ rest) other = refl

pub not_kind : (d : Data) (vs : List Value) → Some (items_view vs) ≡ as_array d → length vs ≢ 8 → None ≡ kind_of d
not_kind d vs is other = rw (← is) (sym (go vs other))
  where
    go : (ws : List Value) → length ws ≢ 8 → kind_from (items_view ws) ≡ None
    go [] other = refl
    go (a ∷ []) other = refl
    go (a ∷ b ∷ []) other = refl
    go (a ∷ b ∷ c ∷ []) other = refl
    go (a ∷ b ∷ c ∷ e ∷ []) other = refl
    go (a ∷ b ∷ c ∷ e ∷ f ∷ []) other = refl
    go (a ∷ b ∷ c ∷ e ∷ f ∷ g ∷ []) other = refl
    go (a ∷ b ∷ c ∷ e ∷ f ∷ g ∷ h ∷ []) other = refl
    go (a ∷ b ∷ c ∷ e ∷ f ∷ g ∷ h ∷ i ∷ []) other = absurd (other refl)
    go (a ∷ b ∷ c ∷ e ∷ f ∷ g ∷ h ∷ i ∷ j ∷ rest) other = refl

-- what a list of eight is as a kind
pub of_eight : (d : Data) (vs : List Value) (a b c e f g h i : Value) → Some (items_view vs) ≡ as_array d → length vs ≡ 8
    → a ≡ get_or vs 0 a → b ≡ get_or vs 1 b → c ≡ get_or vs 2 c → e ≡ get_or vs 3 e → f ≡ get_or vs 4 f → g ≡ get_or vs 5 g → h ≡ get_or vs 6 h → i ≡ get_or vs 7 i
    → kind_of d ≡ option_and_then (λ m. kind_parts m (view a) (view g) (view h)) (marks_of (view b) (view c) (view e) (view f) (view i))
of_eight d vs a b c e f g h i is eight ia ib ic ie jf ig ih ii = rw (← is) (go vs eight ia ib ic ie jf ig ih ii)
  where
    go : (ws : List Value) → length ws ≡ 8
        → a ≡ get_or ws 0 a → b ≡ get_or ws 1 b → c ≡ get_or ws 2 c → e ≡ get_or ws 3 e → f ≡ get_or ws 4 f → g ≡ get_or ws 5 g → h ≡ get_or ws 6 h → i ≡ get_or ws 7 i
        → kind_from (items_view ws) ≡ option_and_then (λ m. kind_parts m (view a) (view g) (view h)) (marks_of (view b) (view c) (view e) (view f) (view i))
    go [] n ja jb jc je jf jg jh ji = absurd (omega arith)
    go (s ∷ []) n ja jb jc je jf jg jh ji = absurd (omega arith)
    go (s ∷ t ∷ []) n ja jb jc je jf jg jh ji = absurd (omega arith)
    go (s ∷ t ∷ u ∷ []) n ja jb jc je jf jg jh ji = absurd (omega arith)
    go (s ∷ t ∷ u ∷ v ∷ []) n ja jb jc je jf jg jh ji = absurd (omega arith)
    go (s ∷ t ∷ u ∷ v ∷ w ∷ []) n ja jb jc je jf jg jh ji = absurd (omega arith)
    go (s ∷ t ∷ u ∷ v ∷ w ∷ x ∷ []) n ja jb jc je jf jg jh ji = absurd (omega arith)
    go (s ∷ t ∷ u ∷ v ∷ w ∷ x ∷ y ∷ []) n ja jb jc je jf jg jh ji = absurd (omega arith)
    go (s ∷ t ∷ u ∷ v ∷ w ∷ x ∷ y ∷ z ∷ []) n ja jb jc je jf jg jh ji =
        let ka : a ≡ s = ja in let kb : b ≡ t = jb in let kc : c ≡ u = jc in let ke : e ≡ v = je in
        let kf : f ≡ w = jf in let kg : g ≡ x = jg in let kh : h ≡ y = jh in let ki : i ≡ z = ji in
        rw (ka, kb, kc, ke, kf, kg, kh, ki) refl
    go (s ∷ t ∷ u ∷ v ∷ w ∷ x ∷ y ∷ z ∷ q ∷ rest) n ja jb jc je jf jg jh ji = absurd (omega arith)
