-- The rectangles that an edit makes dirty, in order.
use Rattle.std.specs.Prelude.{ℕ, ◌==◌, ℤ, Bool, true, false, ◌&&◌, ◌||◌, if◌then◌else◌, List, [], ◌∷◌, ◌++◌, map, filter, flat_map, option_to_list}
use Rattle.std.specs.Ordering.{nat_cmp}
use Rattle.std.specs.List.{list_any}
use Rattle.std.specs.Option.{option_map_or}
use Rattle.un_geom.specs.declared.point.Point.{Point}
use Rattle.un_geom.specs.Rectangle.{Rectangle}
use Rattle.un_geom.specs.Places.{envelope, point_of}
use Rattle.un_schema.specs.declared.rule.Rule.{Rule}
use Rattle.un_schema.specs.declared.rule.Rule.TheVariants.{JunctionEdge, JunctionJunction, Containment as ContainmentRule, Attachment as AttachmentRule, EdgeJunctionEdge}
use Rattle.un_defs.specs.declared.assoc.Assoc.{Assoc}
use Rattle.un_defs.specs.declared.assoc.AssocKind.{AssocKind}
use Rattle.un_defs.specs.declared.edit.Edit.{Edit}
use Rattle.un_defs.specs.declared.edit.Edit.TheVariants as edit
use Rattle.un_defs.specs.Orders.{rising}
use Rattle.un_defs.specs.Features.{Features, row, association}
use Rattle.un_defs.specs.Links.{vertices, is_connectivity, joints_at}
use Rattle.un_defs.specs.Star.{is_containment, is_attachment}

-- the points of the row with this id
abbrev pub points_of : Features → ℕ → List Point
points_of F id = option_map_or (λ r. r.shape) (row F id) []

-- the envelope of the row with this id
abbrev pub envelope_of : Features → ℕ → List Rectangle
envelope_of F id = option_to_list (envelope (points_of F id))

-- the envelope of the points that an edit gives
abbrev pub envelope_of_given : List (List ℤ) → List Rectangle
envelope_of_given points = option_to_list (envelope (map point_of points))

-- the other end of an association, if the row is one of its ends
abbrev pub other_end : ℕ → Assoc → List ℕ
other_end id a = (if a.from.feature == id then a.to.feature ∷ [] else []) ++ (if a.to.feature == id then a.from.feature ∷ [] else [])

-- the partners of a row in associations of a sort, rising
abbrev pub partners : Features → (AssocKind → Bool) → ℕ → List ℕ
partners F is_sort id = rising nat_cmp (flat_map (other_end id) (filter (λ a. is_sort a.sort) F.associations))

abbrev pub any_sort : AssocKind → Bool
any_sort sort = true

-- a row of this kind stands with its terminals at the point
abbrev pub has_joint_of : Features → ℕ → Point → Bool
has_joint_of F kind p = list_any (λ j. j.kind == kind) (joints_at F p)

-- the points at which a row of the first kind and a vertex of a line of the second stand
abbrev pub joint_points : Features → ℕ → ℕ → List Point
joint_points F junction line =
    map (λ v. v.at) (filter (λ v. (v.line.kind == line) && has_joint_of F junction v.at) (vertices F))

-- the row with this id is of this kind
abbrev pub is_of_kind : Features → ℕ → ℕ → Bool
is_of_kind F kind id = option_map_or (λ r. r.kind == kind) (row F id) false

-- all points of both rows of an association
abbrev pub points_of_ends : Features → Assoc → List Point
points_of_ends F a = points_of F a.from.feature ++ points_of F a.to.feature

-- the association is from a row of the first kind to one of the second
abbrev pub is_between : Features → ℕ → ℕ → Assoc → Bool
is_between F first second a = is_of_kind F first a.from.feature && is_of_kind F second a.to.feature

-- the points that a new rule may change
abbrev pub rule_points : Features → Rule → List Point
rule_points F (JunctionEdge junction terminal line) = joint_points F junction line
rule_points F (JunctionJunction first first_terminal second second_terminal) =
    flat_map (points_of_ends F) (filter (λ a. is_connectivity a.sort && (is_between F first second a || is_between F second first a)) F.associations)
rule_points F (ContainmentRule container content) =
    flat_map (points_of_ends F) (filter (λ a. is_containment a.sort && is_between F container content a) F.associations)
rule_points F (AttachmentRule structure content) =
    flat_map (points_of_ends F) (filter (λ a. is_attachment a.sort && is_between F structure content a) F.associations)
rule_points F (EdgeJunctionEdge line terminal junction other_line other_terminal) = joint_points F junction line

-- the rectangles that an edit makes
abbrev pub dirtied : Features → Edit → List Rectangle
dirtied F (edit.Insert kind points attrs flow ends note) = envelope_of_given points
dirtied F (edit.Reshape id base points) =
    envelope_of F id ++ envelope_of_given points ++ flat_map (envelope_of F) (partners F is_connectivity id)
dirtied F (edit.Attrs id base attrs) = envelope_of F id
dirtied F (edit.Kind id base kind) = envelope_of F id ++ flat_map (envelope_of F) (partners F any_sort id)
dirtied F (edit.Path id base path) = envelope_of F id
dirtied F (edit.Flow id base flow) = envelope_of F id
dirtied F (edit.Ends id base ends) = envelope_of F id
dirtied F (edit.Note id base note) = []
dirtied F (edit.Delete id base) = envelope_of F id
dirtied F (edit.Connect from to) = envelope_of F from.feature ++ envelope_of F to.feature
dirtied F (edit.Contain container content) = envelope_of F container ++ envelope_of F content
dirtied F (edit.Attach structure content) = envelope_of F structure ++ envelope_of F content
dirtied F (edit.Detach assoc) = option_map_or (λ a. envelope_of F a.from.feature ++ envelope_of F a.to.feature) (association F assoc) []
dirtied F (edit.Controller id terminal tier subnet) = envelope_of F id
dirtied F (edit.Uncontroller id terminal) = envelope_of F id
dirtied F (edit.Rule rule) = option_to_list (envelope (rule_points F rule))
