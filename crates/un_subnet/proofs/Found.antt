-- The first row of a subnetwork is found along the numbers of its name.
use Rattle.std.proofs.Common.{◌≡◌, ℕ, ◌==◌, true, List, ◌∷◌, inl, Option, Some, cond, refl, sym, ◌∙◌, ap, subst, Bool, false, None}
use Rattle.std.specs.Ordering.{nat_cmp}
use Rattle.std.specs.Option.{option_map_or}
use Rattle.std.specs.Map.{lookup}
use Rattle.std.specs.BTreeMap.{is_at}
use Rattle.un_pages.specs.Pairs.{IsOrdered}
use Rattle.un_ask.specs.declared.stored.StoredSubnet.{StoredSubnet}
use Rattle.un_conds.specs.Names.{same_text}
use Rattle.un_defs.proofs.LinkCases.{both_true}
use Rattle.un_defs.proofs.Members.{list_any_from_among}
use Rattle.un_subnet.specs.declared.row_index.Key.{Key}
use Rattle.un_subnet.specs.Outcome.{is_row_of}
use Rattle.un_subnet.specs.RowIndex.{same_subject, subnet_subject, subjects, concerns, numbers_at, numbers_with, found_row, IsIndex}
use Rattle.un_subnet.proofs.Keys.{key_cmp, subject_itself}
use Rattle.un_subnet.proofs.Numbered.{found_in, found_along, named_in, named_along, lookups_own}
use Rattle.un_subnet.proofs.Indexed.{numbers_are, same_number}
use Rattle.un_defs.proofs.SameStar.{texts}

-- its name concerns it
own_name : (tier : ℕ) (subnet : List ℕ) (row : StoredSubnet) → is_row_of tier subnet row ≡ true → concerns (subnet_subject tier subnet) row ≡ true
own_name tier subnet row e =
    let parts = both_true (row.tier == tier) (same_text subnet row.subnet) e in
    let tiers : row.tier ≡ tier = same_number row.tier tier parts.0 in
    let names : subnet ≡ row.subnet = (texts subnet row.subnet).0 parts.1 in
    let one : subnet_subject tier subnet ≡ subnet_subject row.tier row.subnet = ap (λ t. subnet_subject t subnet) (sym tiers) ∙ ap (subnet_subject row.tier) names in
    list_any_from_among (same_subject (subnet_subject tier subnet)) (subjects row) (subnet_subject row.tier row.subnet) (inl refl)
    (subst (λ s. same_subject (subnet_subject tier subnet) s ≡ true) one (subject_itself (subnet_subject tier subnet)))

pub found_first : (tier : ℕ) (subnet : List ℕ) (rows : List (ℕ × StoredSubnet)) (keys : List (Key × Unit {0})) → IsIndex rows keys → IsOrdered nat_cmp rows → IsOrdered key_cmp keys
    → found_in (is_row_of tier subnet) rows (numbers_at keys (subnet_subject tier subnet)) ≡ found_row rows tier subnet
found_first tier subnet rows keys index a b =
    ap (found_in (is_row_of tier subnet) rows) (numbers_are (subnet_subject tier subnet) rows keys index a b)
    ∙ found_along (is_row_of tier subnet) (concerns (subnet_subject tier subnet)) (own_name tier subnet) rows rows (lookups_own rows a)

-- one number along
pub found_step : (tier : ℕ) (subnet : List ℕ) (rows : List (ℕ × StoredSubnet)) (n : ℕ) (ns : List ℕ) (o : Option StoredSubnet) → o ≡ lookup (is_at (nat_cmp n)) rows
    → found_in (is_row_of tier subnet) rows (n ∷ ns)
    ≡ option_map_or (λ v. cond (is_row_of tier subnet v) (Some (n, v)) (found_in (is_row_of tier subnet) rows ns)) o (found_in (is_row_of tier subnet) rows ns)
found_step tier subnet rows n ns o e =
    ap (λ o. option_map_or (λ v. cond (is_row_of tier subnet v) (Some (n, v)) (found_in (is_row_of tier subnet) rows ns)) o (found_in (is_row_of tier subnet) rows ns)) (sym e)

-- ---- all of them

pub named_all : (tier : ℕ) (subnet : List ℕ) (rows : List (ℕ × StoredSubnet)) (keys : List (Key × Unit {0})) → IsIndex rows keys → IsOrdered nat_cmp rows → IsOrdered key_cmp keys
    → named_in (is_row_of tier subnet) rows (numbers_at keys (subnet_subject tier subnet)) ≡ numbers_with (is_row_of tier subnet) rows
named_all tier subnet rows keys index a b =
    ap (named_in (is_row_of tier subnet) rows) (numbers_are (subnet_subject tier subnet) rows keys index a b)
    ∙ named_along (is_row_of tier subnet) (concerns (subnet_subject tier subnet)) (own_name tier subnet) rows rows (lookups_own rows a)

-- one number along
pub named_step : (tier : ℕ) (subnet : List ℕ) (rows : List (ℕ × StoredSubnet)) (n : ℕ) (ns : List ℕ) (b : Bool) → b ≡ option_map_or (is_row_of tier subnet) (lookup (is_at (nat_cmp n)) rows) false
    → named_in (is_row_of tier subnet) rows (n ∷ ns) ≡ cond b (n ∷ named_in (is_row_of tier subnet) rows ns) (named_in (is_row_of tier subnet) rows ns)
named_step tier subnet rows n ns b e = by (lookup (is_at (nat_cmp n)) rows) ∙ ap (λ b. cond b (n ∷ named_in (is_row_of tier subnet) rows ns) (named_in (is_row_of tier subnet) rows ns)) (sym e)
  where
    by : (o : Option StoredSubnet) → option_map_or (λ v. cond (is_row_of tier subnet v) (n ∷ named_in (is_row_of tier subnet) rows ns) (named_in (is_row_of tier subnet) rows ns)) o (named_in (is_row_of tier subnet) rows ns)
        ≡ cond (option_map_or (is_row_of tier subnet) o false) (n ∷ named_in (is_row_of tier subnet) rows ns) (named_in (is_row_of tier subnet) rows ns)
    by None = refl
    by (Some v) = refl
