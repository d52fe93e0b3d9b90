-- Names in place of the numbers of the schema.
use Rattle.std.specs.Prelude.{ℕ, ℤ, List, [], filter_map, slice_get, Option}
use Rattle.std.specs.declared.cmp.Ordering.{Ordering}
use Rattle.std.specs.Ordering.{nat_cmp}
use Rattle.std.specs.Cmp.Lexicographic.{slice_cmp}
use Rattle.std.specs.Option.{option_map, option_map_or}
use Rattle.un_schema.specs.Catalog.{Catalog, kind_at}
use Rattle.un_tiers.specs.declared.tier.Tier.{Tier}
use Rattle.un_defs.specs.Orders.{rising}

-- an attribute with its name
abbrev pub with_name : Catalog → ℕ × ℤ → Option (List ℕ × ℤ)
with_name S pair = option_map (λ name. (name, pair.1)) (slice_get S.attributes pair.0)

-- named attributes compare by the bytes of their names
abbrev pub by_name : List ℕ × ℤ → List ℕ × ℤ → Ordering
by_name a b = slice_cmp nat_cmp a.0 b.0

-- the attributes with their names, in byte order of these
abbrev pub named : Catalog → List (ℕ × ℤ) → List (List ℕ × ℤ)
named S attrs = rising by_name (filter_map (with_name S) attrs)

-- the name of a kind
abbrev pub kind_name : Catalog → ℕ → List ℕ
kind_name S kind = option_map_or (λ k. k.name) (kind_at S kind) []

-- the name of a tier
abbrev pub tier_name : List Tier → ℕ → List ℕ
tier_name T tier = option_map_or (λ t. t.name) (slice_get T tier) []
