-- What is looked at before an edit is made, in order, and the refusal that is due.
use Rattle.std.specs.Prelude.{ℕ, ◌==◌, Bool, true, false, [], ◌∷◌, slice_get, Option, None}
use Rattle.std.specs.List.{list_any}
use Rattle.std.specs.Option.{option_map}
use Rattle.un_defs.specs.declared.edit.Edit.{Edit}
use Rattle.un_defs.specs.declared.edit.Edit.TheVariants as edit
use Rattle.un_defs.specs.declared.refusal.Refusal.{Refusal}
use Rattle.un_defs.specs.declared.refusal.Refusal.TheVariants as refusal
use Rattle.un_defs.specs.Refusing.{first_refusal, refused_if}
use Rattle.un_defs.specs.Features.{Features, associations_of}
use Rattle.un_store.specs.Refusals.{refusal_of as row_refusal}
use Rattle.un_assoc.specs.Refusals.{refusal_of as link_refusal}
use Rattle.un_facts.specs.Known.{Known, setting}

-- the edits of rows
abbrev pub is_row_edit : Edit → Bool
is_row_edit (edit.Insert kind points attrs flow ends note) = true
is_row_edit (edit.Reshape id base points) = true
is_row_edit (edit.Attrs id base attrs) = true
is_row_edit (edit.Kind id base kind) = true
is_row_edit (edit.Path id base path) = true
is_row_edit (edit.Flow id base flow) = true
is_row_edit (edit.Ends id base ends) = true
is_row_edit (edit.Note id base note) = true
is_row_edit (edit.Delete id base) = true
is_row_edit _ = false

-- the edits of rows, of associations and of controllers: all but those of rules
abbrev pub is_of_features : Edit → Bool
is_of_features (edit.Rule rule) = false
is_of_features _ = true

-- the row is an end of an association, of which the least id is told
abbrev pub has_associations : Features → ℕ → Option Refusal
has_associations F id = option_map (λ a. refusal.HasAssociations a.id) (slice_get (associations_of F id) 0)

-- a controller sits on the row
abbrev pub has_controllers : Features → ℕ → Option Refusal
has_controllers F id = refused_if (list_any (λ c. c.port.feature == id) F.controllers) refusal.HasControllers

-- what stands on a row keeps it from becoming of another kind, and from going
abbrev pub standing_refusal : Features → Edit → Option Refusal
standing_refusal F (edit.Kind id base kind) = has_controllers F id
standing_refusal F (edit.Delete id base) = first_refusal (has_associations F id ∷ has_controllers F id ∷ [])
standing_refusal F _ = None

-- the first refusal of an edit: by the row that it is of, by what stands on that row, or by associations and controllers
abbrev pub refusal_of : Known → Edit → Option Refusal
refusal_of K e = first_refusal (
    row_refusal K.setup.schema K.features.rows e
    ∷ standing_refusal K.features e
    ∷ link_refusal (setting K.setup) K.features e
    ∷ [])
