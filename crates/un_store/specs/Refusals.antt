-- What is looked at before an edit of a row is made, in order, and the refusal that is due.
pub use Rattle.un_defs.specs.Refusing.{first_refusal, refused_if}
use Rattle.std.specs.Prelude.{ℕ, nat_lt, ◌==◌, ℤ, Bool, true, false, not, ◌&&◌, List, [], ◌∷◌, map, length, slice_get, Option, Some, None, is_some, option_and_then}
use Rattle.std.specs.List.{list_all}
use Rattle.std.specs.Option.{option_map, option_map_or}
use Rattle.un_geom.specs.Places.{bad_place}
use Rattle.un_attrs.specs.Attributes.{bad_place as bad_pair}
use Rattle.un_schema.specs.declared.kind.Class.{Class}
use Rattle.un_schema.specs.declared.kind.Class.TheVariants.{Device, Junction, Line, Assembly, Structure}
use Rattle.un_schema.specs.declared.kind.Kind.{Kind}
use Rattle.un_schema.specs.Catalog.{Catalog, kind_at, kind_named, path_named, place_of}
use Rattle.un_defs.specs.declared.row.Flow.{Flow}
use Rattle.un_defs.specs.declared.row.Flow.TheVariants.{With, Against, Both}
use Rattle.un_defs.specs.declared.row.Row.{Row}
use Rattle.un_defs.specs.declared.edit.Edit.{Edit}
use Rattle.un_defs.specs.declared.edit.Edit.TheVariants as edit
use Rattle.un_defs.specs.declared.refusal.Refusal.{Refusal}
use Rattle.un_defs.specs.declared.refusal.Refusal.TheVariants as refusal
use Rattle.un_defs.specs.declared.refusal.Limit.TheVariants as limit
use Rattle.un_defs.specs.Features.{is_line}
use Rattle.un_defs.specs.Sound.{least_points, most_points}
use Rattle.un_store.specs.Keyed.{row_with}

-- ---- of kinds

-- no kind has the name
abbrev pub no_kind : Catalog → List ℕ → Option Refusal
no_kind S name = option_map_or (λ k. None) (kind_named S name) (Some (refusal.NoSuchKind name))

-- what is due of the kind with this name
abbrev pub of_kind : Catalog → List ℕ → (Kind → Option Refusal) → Option Refusal
of_kind S name cause = option_and_then (λ k. option_and_then cause (kind_at S k)) (kind_named S name)

-- ---- of the members of an edit

abbrev pub is_both : Flow → Bool
is_both With = false
is_both Against = false
is_both Both = true

-- a feature that is no line has flow both ways, and no chosen terminals
abbrev pub not_plain : Class → Flow → List ℕ → Option Refusal
not_plain class flow ends =
    refused_if (not (is_line class) && not (is_both flow && list_all (λ terminal. terminal == 0) ends)) refusal.WrongKind

-- the shape has a bad place for a feature of the class
abbrev pub bad_shape : Class → List (List ℤ) → Option Refusal
bad_shape class points = option_map (λ place. refusal.BadShape place) (bad_place (least_points class) (most_points class) points)

-- the attributes by number, in the byte order of their names; none for a name that the schema has not
abbrev pub numbers_of : Catalog → List (List ℕ × ℤ) → List (Option ℕ × ℤ)
numbers_of S attrs = map (λ pair. (place_of pair.0 S.attributes, pair.1)) attrs

-- the first name that is unknown, has a value out of range, or is the ninth
abbrev pub bad_attribute : Catalog → List (List ℕ × ℤ) → Option Refusal
bad_attribute S attrs =
    option_map (λ pair. refusal.BadAttribute pair.0) (option_and_then (λ place. slice_get attrs place) (bad_pair (numbers_of S attrs)))

-- ---- of the store

-- the most live features
abbrev pub most_rows : ℕ
most_rows = 100000

-- another row would pass the greatest count
abbrev pub no_room : List Row → Option Refusal
no_room rows = refused_if (not (nat_lt (length rows) most_rows)) (refusal.Full limit.Features)

-- no row has the id, or its moment is not the base
abbrev pub no_row : List Row → ℕ → ℕ → Option Refusal
no_row rows id base =
    option_map_or (λ r. refused_if (not (r.moment == base)) (refusal.Moved r.moment)) (row_with rows id) (Some (refusal.NoSuchFeature id))

-- what is due of the row with this id
abbrev pub of_row : List Row → ℕ → (Row → Option Refusal) → Option Refusal
of_row rows id cause = option_and_then cause (row_with rows id)

-- the row is no line
abbrev pub no_line : Row → Option Refusal
no_line r = refused_if (not (is_line r.class)) refusal.WrongKind

-- two classes are one
abbrev pub same_class : Class → Class → Bool
same_class Device Device = true
same_class Junction Junction = true
same_class Line Line = true
same_class Assembly Assembly = true
same_class Structure Structure = true
same_class _ _ = false

-- the row is of another class than the kind
abbrev pub other_class : Kind → Row → Option Refusal
other_class kind r = refused_if (not (same_class kind.class r.class)) refusal.WrongKind

-- a device, which alone has paths
abbrev pub is_device : Class → Bool
is_device Device = true
is_device Junction = false
is_device Line = false
is_device Assembly = false
is_device Structure = false

-- the row is no device with a configuration that has the path
abbrev pub no_path : Catalog → List ℕ → Row → Option Refusal
no_path S path r = refused_if (not (is_device r.class && is_some (path_named S r.kind path))) refusal.BadPath

-- ---- all

-- the refusal of an edit of rows, by its word: the first in the order in which these are looked at
abbrev pub refusal_of : Catalog → List Row → Edit → Option Refusal
refusal_of S rows (edit.Insert kind points attrs flow ends note) = first_refusal (
    no_kind S kind
    ∷ of_kind S kind (λ k. not_plain k.class flow ends)
    ∷ of_kind S kind (λ k. bad_shape k.class points)
    ∷ bad_attribute S attrs
    ∷ no_room rows
    ∷ [])
refusal_of S rows (edit.Reshape id base points) = first_refusal (no_row rows id base ∷ of_row rows id (λ r. bad_shape r.class points) ∷ [])
refusal_of S rows (edit.Attrs id base attrs) = first_refusal (no_row rows id base ∷ bad_attribute S attrs ∷ [])
refusal_of S rows (edit.Kind id base kind) = first_refusal (
    no_row rows id base
    ∷ no_kind S kind
    ∷ of_kind S kind (λ k. of_row rows id (other_class k))
    ∷ [])
refusal_of S rows (edit.Path id base path) = first_refusal (no_row rows id base ∷ of_row rows id (no_path S path) ∷ [])
refusal_of S rows (edit.Flow id base flow) = first_refusal (no_row rows id base ∷ of_row rows id no_line ∷ [])
refusal_of S rows (edit.Ends id base ends) = first_refusal (no_row rows id base ∷ of_row rows id no_line ∷ [])
refusal_of S rows (edit.Note id base note) = no_row rows id base
refusal_of S rows (edit.Delete id base) = no_row rows id base
refusal_of S rows _ = None
