-- One more tier after those that are kept.
use Rattle.std.proofs.Common.{◌≡◌, ◌≢◌, ℕ, ◌+◌, ◌<◌, nat_lt, Bool, true, false, cond, not, ◌&&◌, List, [], ◌∷◌, ◌++◌, length, map, take, drop, get_or, Some, refl, sym, ap, ◌∙◌, arith, length-append}
use Rattle.std.specs.List.{list_any}
use Rattle.std.proofs.lemmas.Bool.Decides.{nat_tests}
use Rattle.std.proofs.lemmas.Cmp.{nat_list_eq_equiv}
use Rattle.std.proofs.lemmas.List.{map_more, map-append, at_drop_more}
use Rattle.std.proofs.lemmas.List.Folds.{list_any_at}
use Rattle.std.proofs.lemmas.List.Quantifiers.{all_pairs_push}
use Rattle.un_conds.specs.Names.{same_text}
use Rattle.un_schema.specs.Names.{is_name}
use Rattle.un_tiers.specs.declared.raw.RawTier.{RawTier}
use Rattle.un_tiers.specs.declared.tier.Tier.{Tier}
use Rattle.un_tiers.specs.Raw.{WrittenTier, written_tier, resolves, is_good, tier_from, first_bad}
use Rattle.un_tiers.specs.Lists.{IsTierList}

both_true : (a b : Bool) → (a && b) ≡ true → (a ≡ true) × (b ≡ true)
both_true true b e = (refl, e)
both_true false b e = cc

not_true : (a : Bool) → not a ≡ true → a ≡ false
not_true true e = cc
not_true false e = refl

step_true : {X : Type 0} (b : Bool) (x y : X) → b ≡ true → cond b x y ≡ x
step_true true x y e = refl
step_true false x y e = cc

-- the first i + 1 as they are written
taken_more : (raws : List RawTier) (i : ℕ) (item : RawTier) → i < length raws → item ≡ get_or raws i item
    → map written_tier (take (i + 1) raws) ≡ map written_tier (take i raws) ++ written_tier item ∷ []
taken_more raws i item within is = let e = map_more written_tier raws i item within in cc

pub kept_more : (f : WrittenTier → Tier) (raws : List RawTier) (i : ℕ) (tiers : List Tier) (item : RawTier) (own : Tier) → i < length raws
    → item ≡ get_or raws i item → tiers ≡ map f (map written_tier (take i raws)) → own ≡ f (written_tier item)
    → tiers ++ own ∷ [] ≡ map f (map written_tier (take (i + 1) raws))
kept_more f raws i tiers item own within is kept own_is =
    rw (taken_more raws i item within is, map-append f (map written_tier (take i raws)) (written_tier item ∷ []), kept, own_is) refl

pub first_more : (A C : List (List ℕ)) (before : List Tier) (raws : List RawTier) (i : ℕ) (item : RawTier) (own : Tier) → i < length raws
    → item ≡ get_or raws i item → is_good A C before (written_tier item) ≡ true → own ≡ tier_from A C (written_tier item)
    → first_bad A C before (map written_tier (drop i raws)) ≡ first_bad A C (before ++ own ∷ []) (map written_tier (drop (i + 1) raws))
first_more A C before raws i item own within is good own_is =
    let rest = drop (i + 1) raws in
    let e : drop i raws ≡ item ∷ rest = at_drop_more (λ (l : List RawTier). l) raws i item within ∙ ap (λ (x : RawTier). x ∷ rest) (sym is) in
    ap (λ (l : List RawTier). first_bad A C before (map written_tier l)) e
    ∙ (step_true (is_good A C before (written_tier item)) (first_bad A C (before ++ tier_from A C (written_tier item) ∷ []) (map written_tier rest)) (Some (length before)) good
    ∙ ap (λ (t : Tier). first_bad A C (before ++ t ∷ []) (map written_tier rest)) (sym own_is))

unlike : (name : List ℕ) (tiers : List Tier) → list_any (λ t. same_text name t.name) tiers ≡ false → (k : ℕ) (d : Tier) → k < length tiers
    → (get_or tiers k d).name ≢ name
unlike name tiers none k d within same =
    let found : same_text name (get_or tiers k d).name ≡ true = rw same (nat_list_eq_equiv.refl name) in
    let any : list_any (λ t. same_text name t.name) tiers ≡ true = list_any_at (λ t. same_text name t.name) tiers k d within found in
    cc

pub list_more : (A C : List (List ℕ)) (tiers : List Tier) (item : WrittenTier) (own : Tier) → IsTierList tiers → is_good A C tiers item ≡ true
    → own ≡ tier_from A C item → IsTierList (tiers ++ own ∷ [])
list_more A C tiers item own list good own_is =
    let named = list_any (λ other. same_text item.name other.name) tiers in
    let a = both_true ((nat_lt (length tiers) 16 && not named) && is_name item.name) (resolves A C item.barrier) good in
    let b = both_true (nat_lt (length tiers) 16 && not named) (is_name item.name) a.0 in
    let c = both_true (nat_lt (length tiers) 16) (not named) b.0 in
    let lower : nat_lt (length tiers) 16 ≡ true = c.0 in
    let room : length tiers < 16 = grind (arith, nat_tests) in
    let none : list_any (λ other. same_text item.name other.name) tiers ≡ false = not_true named c.1 in
    let name_is : own.name ≡ item.name = ap (λ (t : Tier). t.name) own_is in
    record {
      few = omega (arith, length-append tiers (own ∷ []), room);
      distinct = all_pairs_push (λ x y. x.name ≢ y.name) tiers own list.distinct (λ k d within same. unlike item.name tiers none k d within (same ∙ name_is));
    }
