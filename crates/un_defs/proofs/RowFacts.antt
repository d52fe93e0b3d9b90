-- What holds of the rows of sound features.
use Rattle.std.proofs.Common.{◌≡◌, ℕ, ◌<◌, length, refl, Option, Some, None}
use Rattle.std.specs.Option.{option_map}
use Rattle.un_schema.specs.declared.kind.Kind.{Kind}
use Rattle.un_schema.specs.Catalog.{Catalog, kind_at}
use Rattle.un_defs.specs.declared.row.Row.{Row}
use Rattle.un_defs.specs.Features.{Features, row}
use Rattle.un_defs.specs.Sound.{IsSound, FitsKind}
use Rattle.un_defs.proofs.LinkCases.{below_length}
use Rattle.un_defs.proofs.Unique.{from_all}
use Rattle.un_defs.proofs.Standing.{from_row}

pub fits : (S : Catalog) (F : Features) → IsSound S F → (id : ℕ) (r : Row) → row F id ≡ Some r → FitsKind S r
fits S F sound id r e = from_all (FitsKind S) F.rows sound.kinds r (from_row F id r e).0

pub kind_lives : (S : Catalog) (F : Features) → IsSound S F → (id : ℕ) (r : Row) → row F id ≡ Some r → r.kind < length S.kinds
kind_lives S F sound id r e = go (kind_at S r.kind) refl (fits S F sound id r e).class
  where
    go : (o : Option Kind) → kind_at S r.kind ≡ o → option_map (λ (k : Kind). k.class) o ≡ Some r.class → r.kind < length S.kinds
    go None is e = cc
    go (Some k) is e = below_length S.kinds r.kind k is
