-- The kind of a row that is there, and a tier by its name.
use Rattle.std.proofs.Common.{◌≡◌, ℕ, ◌<◌, Bool, not, cond, nat_lt, List, [], ◌∷◌, map, length, ◌==◌, All, Option, Some, None, refl, ap, ◌∙◌, sym, ◌+◌}
use Rattle.std.proofs.lemmas.List.{length-map}
use Rattle.std.proofs.lemmas.Option.{slice_get_within}
use Rattle.std.specs.Prelude.{slice_get}
use Rattle.std.specs.List.{position_or_len}
use Rattle.std.specs.Option.{option_map}
use Rattle.un_schema.specs.declared.kind.Kind.{Kind}
use Rattle.un_schema.specs.Catalog.{Catalog, place_of, same_text}
use Rattle.un_tiers.specs.declared.tier.Tier.{Tier}
use Rattle.un_tiers.specs.Lists.{tier_named}
use Rattle.un_defs.specs.declared.row.Row.{Row}
use Rattle.un_defs.specs.Features.{Features, row}
use Rattle.un_defs.specs.Sound.{FitsKind}
use Rattle.un_defs.proofs.Unique.{from_find, from_all}

pub kind_within : (S : Catalog) (F : Features) (id : ℕ) (r : Row) → All (FitsKind S) F.rows → row F id ≡ Some r → r.kind < length S.kinds
kind_within S F id r fitting e = by (slice_get S.kinds r.kind) refl (fits.class)
  where
    fits : FitsKind S r
    fits = from_all (FitsKind S) F.rows fitting r (from_find (λ x. x.id == id) F.rows r e).0

    by : (o : Option Kind) → slice_get S.kinds r.kind ≡ o → option_map (λ k. k.class) o ≡ Some r.class → r.kind < length S.kinds
    by None is e = cc
    by (Some k) is e = slice_get_within S.kinds r.kind k is

place-map : (test : List ℕ → Bool) (tiers : List Tier) → position_or_len test (map (λ t. t.name) tiers) ≡ position_or_len (λ t. test t.name) tiers
place-map test [] = refl
place-map test (t ∷ more) = ap (λ n. cond (not (test t.name)) (1 + n) 0) (place-map test more)

pub tier_place : (name : List ℕ) (tiers : List Tier) → tier_named tiers name ≡ place_of name (map (λ t. t.name) tiers)
tier_place name tiers =
    ap (λ n. cond (nat_lt n (length tiers)) (Some n) None) (sym (place-map (same_text name) tiers))
    ∙ ap (λ n. cond (nat_lt (position_or_len (same_text name) (map (λ t. t.name) tiers)) n) (Some (position_or_len (same_text name) (map (λ t. t.name) tiers))) None) (sym (length-map tiers (λ t. t.name)))
