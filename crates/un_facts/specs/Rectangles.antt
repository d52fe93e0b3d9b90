-- The rectangles that an edit makes dirty, by what the code looks up: the row before the edit and after it, and other rows.
use Rattle.std.specs.Prelude.{ℕ, List, [], ◌∷◌, ◌++◌, flat_map, Option, option_to_list}
use Rattle.std.specs.Option.{option_map_or}
use Rattle.un_geom.specs.Rectangle.{Rectangle}
use Rattle.un_geom.specs.Places.{envelope}
use Rattle.un_defs.specs.declared.row.Row.{Row}
use Rattle.un_defs.specs.declared.edit.Edit.{Edit}
use Rattle.un_defs.specs.declared.edit.Edit.TheVariants as edit
use Rattle.un_defs.specs.Features.{Features, association}
use Rattle.un_defs.specs.Links.{is_connectivity}
use Rattle.un_defs.specs.Dirtied.{envelope_of, partners, any_sort}

-- the envelope of a row, if there is one
abbrev pub envelope_of_row : Option Row → List Rectangle
envelope_of_row r = option_to_list (envelope (option_map_or (λ r. r.shape) r []))

-- the rectangles of the row itself, as it was and as it is
abbrev pub own_rectangles : Edit → Option Row → Option Row → List Rectangle
own_rectangles (edit.Insert kind points attrs flow ends note) before after = envelope_of_row after
own_rectangles (edit.Reshape id base points) before after = envelope_of_row before ++ envelope_of_row after
own_rectangles (edit.Attrs id base attrs) before after = envelope_of_row before
own_rectangles (edit.Kind id base kind) before after = envelope_of_row before
own_rectangles (edit.Path id base path) before after = envelope_of_row before
own_rectangles (edit.Flow id base flow) before after = envelope_of_row before
own_rectangles (edit.Ends id base ends) before after = envelope_of_row before
own_rectangles (edit.Delete id base) before after = envelope_of_row before
own_rectangles _ before after = []

-- the rows that are the two ends of an association, if there is one
abbrev pub ends_of : Features → ℕ → List ℕ
ends_of F assoc = option_map_or (λ a. a.from.feature ∷ a.to.feature ∷ []) (association F assoc) []

-- The other rows whose envelopes become dirty: the partners of a row that moves or becomes of another kind, the two ends of an association,
-- and the row on which a controller sits.
abbrev pub other_rows : Features → Edit → List ℕ
other_rows F (edit.Reshape id base points) = partners F is_connectivity id
other_rows F (edit.Kind id base kind) = partners F any_sort id
other_rows F (edit.Connect from to) = from.feature ∷ to.feature ∷ []
other_rows F (edit.Contain container content) = container ∷ content ∷ []
other_rows F (edit.Attach structure content) = structure ∷ content ∷ []
other_rows F (edit.Detach assoc) = ends_of F assoc
other_rows F (edit.Controller id terminal tier subnet) = id ∷ []
other_rows F (edit.Uncontroller id terminal) = id ∷ []
other_rows F _ = []

-- their envelopes, in order
abbrev pub other_rectangles : Features → Edit → List Rectangle
other_rectangles F e = flat_map (envelope_of F) (other_rows F e)
