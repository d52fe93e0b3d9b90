-- What meets at a point, by the ports there and their rows: the devices and junctions, and the vertices of lines that may connect.
use Rattle.std.specs.Prelude.{◌≡◌, ℕ, nat_le, ◌==◌, Bool, false, not, ◌&&◌, ◌||◌, if◌then◌else◌, List, [], ◌∷◌, map, filter_map, flat_map, option_to_list, Option, Some, None, option_and_then}
use Rattle.std.specs.List.{list_any}
use Rattle.std.specs.Option.{option_map}
use Rattle.un_geom.specs.declared.point.Point.{Point}
use Rattle.un_schema.specs.declared.rule.Rule.{Rule}
use Rattle.un_schema.specs.Catalog.{Catalog}
use Rattle.un_schema.specs.Rules.{edge, through}
use Rattle.un_defs.specs.declared.port.Port.{Port}
use Rattle.un_defs.specs.declared.row.Row.{Row}
use Rattle.un_defs.specs.Orders.{same_port}
use Rattle.un_defs.specs.Features.{Features, row, is_joint, is_line}
use Rattle.un_defs.specs.Ports.{ports}
use Rattle.un_defs.specs.Links.{Vertex, end_number, is_end, may_connect, only}
use Rattle.un_star.specs.declared.meet.Standing.{Standing}
use Rattle.un_star.specs.declared.meet.Joint.{Joint}
use Rattle.un_star.specs.declared.meet.End.{End}
use Rattle.un_star.specs.declared.meet.Group.{Group}
use Rattle.un_star.specs.declared.meet.Meeting.{Meeting}

-- a port that stands at the point, with its row
abbrev pub pair_of : Standing → Port × Row
pair_of s = (s.port, s.row.now)

abbrev pub pairs_of : List Standing → List (Port × Row)
pairs_of standing = map pair_of standing

-- the port with its row, if there is one
abbrev pub stander : Features → Port → Option (Port × Row)
stander F q = option_map (λ r. (q, r)) (row F q.feature)

-- the ports at a point, with their rows
abbrev pub standers : Features → Point → List (Port × Row)
standers F p = flat_map (λ q. option_to_list (stander F q)) (ports F p)

-- what the rules ask of a device or junction
abbrev pub joint_of : Row → Joint
joint_of r = record { id = r.id; kind = r.kind; terminals = r.terminals }

-- the device or junction of a row, if the port is its first terminal
abbrev pub joint_of_port : Port → Row → Option Joint
joint_of_port q r = if is_joint r.class && (q.number == 1) then Some (joint_of r) else None

-- the device or junction of which the port is the first terminal
abbrev pub joint_here : Features → Port → Option Joint
joint_here F q = option_and_then (joint_of_port q) (row F q.feature)

-- the devices and junctions among the ports
abbrev pub joints_among : List Standing → List Joint
joints_among standing = filter_map (λ s. joint_of_port s.port s.row.now) standing

-- the devices and junctions at a point
abbrev pub joints_here : Features → Point → List Joint
joints_here F p = filter_map (joint_here F) (ports F p)

-- what the rules ask of a vertex of a line
abbrev pub end_of : Vertex → End
end_of v = record {
  port = record { feature = v.line.id; number = v.index };
  kind = v.line.kind;
  terminal = end_number v;
  outer = is_end v;
}

abbrev pub vertex_at : Point → Row → ℕ → Vertex
vertex_at p r i = record { line = r; index = i; at = p }

-- the vertex that the port of a row is, if it is one of a line and may connect
abbrev pub end_of_port : Catalog → Point → Port → Row → Option End
end_of_port S p q r = if is_line r.class && may_connect S (vertex_at p r q.number) then Some (end_of (vertex_at p r q.number)) else None

-- the vertex that the port is, if it is one of a line and may connect
abbrev pub end_here : Catalog → Features → Point → Port → Option End
end_here S F p q = option_and_then (end_of_port S p q) (row F q.feature)

-- the vertices of lines at a point that may connect
abbrev pub ends_here : Catalog → Features → Point → List End
ends_here S F p = filter_map (end_here S F p) (ports F p)

-- the terminal that an end gives, or where it is 0 the only one
abbrev pub chosen_by : End → Joint → ℕ
chosen_by e j = if (e.terminal == 0) && (j.terminals == 1) then 1 else e.terminal

-- it is one of the terminals
abbrev pub has_chosen_by : Joint → End → Bool
has_chosen_by j e = nat_le 1 (chosen_by e j) && nat_le (chosen_by e j) j.terminals

-- a rule lets an end and another one pass through
abbrev pub passes_by : List Rule → Joint → End → End → Bool
passes_by rules j e f =
    not (same_port e.port f.port) && has_chosen_by j f && through rules j.kind (e.kind, chosen_by e j) (f.kind, chosen_by f j)

-- a rule allows the end, alone or with another one
abbrev pub is_allowed_by : List Rule → Joint → List End → End → Bool
is_allowed_by rules j ends e = edge rules j.kind (chosen_by e j) e.kind || list_any (passes_by rules j e) ends

-- the end's terminal is there, and a rule allows the end
abbrev pub joins_by : List Rule → Joint → List End → End → Bool
joins_by rules j ends e = has_chosen_by j e && is_allowed_by rules j ends e

-- ---- ends that have one kind and one terminal

-- a rule lets an end pass through with one of the group, which is another end
abbrev pub passes_group : List Rule → Joint → End → Group → Bool
passes_group rules j e g =
    (not (same_port e.port g.first) || g.several) && through rules j.kind (e.kind, chosen_by e j) (g.kind, g.terminal)

-- the groups answer as the ends do
abbrev pub AreGroups : List Rule → Joint → List End → List Group → Type 0
AreGroups rules j ends groups = (e : End) → list_any (passes_group rules j e) groups ≡ list_any (passes_by rules j e) ends

-- the new groups let an end pass through where the old ones do, and with one more end
abbrev pub TakesIn : List Rule → Joint → End → List Group → List Group → Type 0
TakesIn rules j f old new =
    (e : End) → list_any (passes_group rules j e) new ≡ (list_any (passes_group rules j e) old || passes_by rules j e f)

-- what meets at the point
pub record IsMeeting (S : Catalog) (F : Features) (m : Meeting) : Type 0 where
  pub all_standing : pairs_of m.standing.items ≡ standers F m.at
  pub all_joints : m.joints.items ≡ joints_here F m.at
  pub all_ends : m.ends.items ≡ ends_here S F m.at
  pub grouped : (j : Joint) → only m.joints.items ≡ Some j → AreGroups S.rules j m.ends.items m.groups.items

-- the group with one more end
abbrev pub with_port : Group → Port → Group
with_port g port = record { kind = g.kind; terminal = g.terminal; first = g.first; several = g.several || not (same_port g.first port) }

-- the groups with one more end: in the first group of its kind and terminal, or in a new one
abbrev pub noted : List Group → ℕ → ℕ → Port → List Group
noted [] kind terminal port = record { kind = kind; terminal = terminal; first = port; several = false } ∷ []
noted (g ∷ gs) kind terminal port =
    if (g.kind == kind) && (g.terminal == terminal)
    then with_port g port ∷ gs
    else g ∷ noted gs kind terminal port
