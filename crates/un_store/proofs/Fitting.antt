-- An insert for which no refusal is due makes a row that fits its kind.
use Rattle.std.proofs.Common.{◌≡◌, ℕ, ◌≤◌, ℤ, List, ◌∷◌, length, Option, Some, None, IfSome, IsSome, IsSomeAnd, refl, sym, ap, ◌∙◌, arith}
use Rattle.std.specs.Prelude.{slice_get, option_and_then}
use Rattle.std.specs.Option.{option_map, option_map_or}
use Rattle.un_geom.specs.Places.{bad_place}
use Rattle.un_geom.proofs.BadPlaces.{good_count}
use Rattle.un_schema.specs.declared.kind.Class.{Class}
use Rattle.un_schema.specs.declared.kind.Kind.{Kind}
use Rattle.un_schema.specs.Catalog.{Catalog, PathSet, kind_at, config_of}
use Rattle.un_schema.specs.Sound.{IsPathSet, IsCatalog}
use Rattle.un_defs.specs.declared.edit.Edit.TheVariants as edit
use Rattle.un_defs.specs.declared.refusal.Refusal.{Refusal}
use Rattle.un_defs.specs.declared.refusal.Refusal.TheVariants as refusal
use Rattle.un_defs.specs.Sound.{least_points, most_points}
use Rattle.un_store.specs.Refusals.{first_refusal, no_kind, of_kind, not_plain, bad_shape}
use Rattle.un_store.specs.Fitting.{InsertFitsLaw}
use Rattle.un_store.proofs.Makings.{new_fits, all_at, some_at}

-- where nothing is due, nothing is due of the first, nor of those behind it
pub none_refused : (d : Option Refusal) (ds : List (Option Refusal)) → first_refusal (d ∷ ds) ≡ None → (d ≡ None) × (first_refusal ds ≡ None)
none_refused None ds e = (refl, e)
none_refused (Some r) ds e = let none : Some r ≡ None = e in cc

-- ---- the configuration of a kind

pub config_is : (S : Catalog) → IsCatalog S → (k : ℕ) → IfSome (config_of S k) IsPathSet
config_is S is k = of_kind_at (kind_at S k)
  where
    of_place : (n : ℕ) → (o : Option PathSet) → slice_get S.configs n ≡ o → IfSome o IsPathSet
    of_place n None e = tt
    of_place n (Some c) e = all_at IsPathSet S.configs n c is.configs e

    of_number : (o : Option ℕ) → IfSome (option_and_then (slice_get S.configs) o) IsPathSet
    of_number None = tt
    of_number (Some n) = of_place n (slice_get S.configs n) refl

    of_kind_at : (o : Option Kind) → IfSome (option_and_then (λ k. option_and_then (slice_get S.configs) k.config) o) IsPathSet
    of_kind_at None = tt
    of_kind_at (Some kind) = of_number kind.config

pub some_terminals : (o : Option PathSet) → IfSome o IsPathSet → 1 ≤ option_map_or (λ c. c.config.terminals) o 1
some_terminals None is = omega arith
some_terminals (Some c) is = omega (arith, is.config.enough)

pub has_first : (o : Option PathSet) → IfSome o IsPathSet → IfSome (option_map (λ c. 0) o) (λ path. IsSomeAnd o (λ c. IsSome (slice_get c.config.paths path)))
has_first None is = tt
has_first (Some c) is = some_at c.config.paths 0 (omega (arith, is.config.some))

-- ---- the shape

good_places : (o : Option ℕ) → option_map (λ place. refusal.BadShape place) o ≡ None → o ≡ None
good_places None e = refl
good_places (Some place) e = let none : Some (refusal.BadShape place) ≡ None = e in cc

pub shape_count : (class : Class) (points : List (List ℤ)) → bad_shape class points ≡ None → (least_points class ≤ length points) × (length points ≤ most_points class)
shape_count class points e = good_count (least_points class) (most_points class) points (good_places (bad_place (least_points class) (most_points class) points) e)

pub insert_fits : InsertFitsLaw
insert_fits S id moment rows (edit.Insert name points attrs flow ends note) is word cause = λ k named kind at.
    let behind_name = none_refused (no_kind S name) _ cause in
    let behind_plain = none_refused (of_kind S name (λ k. not_plain k.class flow ends)) _ behind_name.1 in
    let shape = none_refused (of_kind S name (λ k. bad_shape k.class points)) _ behind_plain.1 in
    let of_kind_is : of_kind S name (λ k. bad_shape k.class points) ≡ bad_shape kind.class points =
    ap (option_and_then (λ k. option_and_then (λ k. bad_shape k.class points) (kind_at S k))) named ∙ ap (option_and_then (λ k. bad_shape k.class points)) at in
    let count = shape_count kind.class points (sym of_kind_is ∙ shape.0) in
    let config = config_is S is k in
    new_fits S id moment name points attrs flow ends note k kind named at (some_terminals (config_of S k) config) (has_first (config_of S k) config) count.0 count.1 k named kind at
insert_fits S id moment rows _ is word cause = absurd word
