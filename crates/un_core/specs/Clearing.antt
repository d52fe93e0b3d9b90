-- What is to be shown of a validation.
use Rattle.std.specs.Prelude.{◌≡◌, ℕ, ◌+◌, List, [], ◌∷◌, ⊤, IsTrue, IsFalse, filter}
use Rattle.un_geom.specs.declared.point.Point.{Point}
use Rattle.un_geom.specs.Rectangle.{Rectangle}
use Rattle.un_defs.specs.declared.star.Star.{Star}
use Rattle.un_defs.specs.Star.{fresh}
use Rattle.un_ask.specs.declared.stored.StoredSubnet.{StoredSubnet}
use Rattle.un_ask.specs.declared.stored.Status.TheVariants.{Dirty}
use Rattle.un_subnet.specs.Changes.{IsMadeDirty}
use Rattle.un_index.specs.Kept.{stars_of}
use Rattle.un_core.specs.State.{State, fresh_star}
use Rattle.un_core.specs.Validation.{met, unmet, is_under, count_errors, errors_under, validated}
use Rattle.un_core.specs.Cover.{IsState}

-- Where a star changes that concerns a stored row, the row is dirty after it; else it is as it was.
pub record IsMarked (before after : Point → Star) (row left : StoredSubnet) : Type 0 where
  pub dirty : IsMadeDirty row.tier row.subnet row.points before after → left ≡ record row { status = Dirty }
  pub same : (IsMadeDirty row.tier row.subnet row.points before after → ⊥) → left ≡ row

-- each of the rows, in their order
abbrev pub AreMarked : (before after : Point → Star) → List StoredSubnet → List StoredSubnet → Type 0
AreMarked before after [] [] = ⊤
AreMarked before after (row ∷ rows) (left ∷ all_left) = IsMarked before after row left × AreMarked before after rows all_left
AreMarked before after _ _ = ⊥

-- Each area that meets the extent is gone, and no other. Each point that one of them covers, also beyond the extent, has its fresh
-- star, with its errors, and every other point keeps its star. A stored subnetwork becomes dirty exactly where a star changes at one of its
-- points, or one that has a controller of the subnetwork before or after. The features, the schema and the tiers stay.
pub record IsValidated (before : State) (extent : Rectangle) (after : State) : Type 0 where
  pub areas : after.areas ≡ unmet extent before.areas
  pub fresh : (p : Point) → IsTrue (is_under (met extent before.areas) p) → stars_of after.kept p ≡ fresh_star before p
  pub kept : (p : Point) → IsFalse (is_under (met extent before.areas) p) → stars_of after.kept p ≡ stars_of before.kept p
  pub stored : AreMarked (stars_of before.kept) (stars_of after.kept) before.stored after.stored
  pub features : after.features ≡ before.features
  pub setup : after.setup ≡ before.setup
  pub version : after.version ≡ before.version + 1

-- how many errors the stars of all features have at the points under some areas
abbrev pub fresh_errors : State → List (ℕ × Rectangle) → ℕ
fresh_errors s areas = count_errors (filter (λ pair. is_under areas pair.0) (fresh s.setup.schema s.features))

-- a validation does this, and tells of the errors that the fresh stars have
pub record Validates (s : State) (extent : Rectangle) : Type 0 where
  pub does : IsValidated s extent (validated s extent)
  pub tells : errors_under s (met extent s.areas) ≡ fresh_errors s (met extent s.areas)

abbrev pub ValidationLaw : Type 0
ValidationLaw = (s : State) (extent : Rectangle) → IsState s → Validates s extent
