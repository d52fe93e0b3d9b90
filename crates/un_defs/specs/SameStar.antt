-- Whether two stars are one, as a test.
use Rattle.std.specs.Prelude.{ℕ, ◌==◌, ℤ, Bool, true, false, not, ◌&&◌, Option, Some, None}
use Rattle.std.specs.Ordering.{int_eq}
use Rattle.std.specs.Cmp.Lexicographic.{pointwise}
use Rattle.un_conds.specs.Names.{same_text}
use Rattle.un_schema.specs.Classes.{same_class}
use Rattle.un_defs.specs.declared.assoc.Controller.{Controller}
use Rattle.un_defs.specs.declared.link.LinkName.{LinkName}
use Rattle.un_defs.specs.declared.link.LinkName.TheVariants.{Seg, Path, Coin, Assoc}
use Rattle.un_defs.specs.declared.link.Tie.{Tie}
use Rattle.un_defs.specs.declared.star.Spot.{Spot}
use Rattle.un_defs.specs.declared.star.Star.{Star}
use Rattle.un_defs.specs.declared.star.TopoError.{TopoError}
use Rattle.un_defs.specs.Orders.{same_port, same_node, error_rank}

abbrev pub same_flag : Bool → Bool → Bool
same_flag true b = b
same_flag false b = not b

-- ---- links

abbrev pub same_name : LinkName → LinkName → Bool
same_name (Seg line index) (Seg line2 index2) = (line == line2) && (index == index2)
same_name (Path device low high) (Path device2 low2 high2) = (device == device2) && (low == low2) && (high == high2)
same_name (Coin junction terminal line vertex) (Coin junction2 terminal2 line2 vertex2) =
    (junction == junction2) && (terminal == terminal2) && (line == line2) && (vertex == vertex2)
same_name (Assoc id) (Assoc id2) = id == id2
same_name _ _ = false

abbrev pub same_tie : Tie → Tie → Bool
same_tie s t = same_name s.name t.name && same_node s.to t.to && same_flag s.out t.out && same_flag s.back t.back

-- ---- entries

abbrev pub same_value : ℕ × ℤ → ℕ × ℤ → Bool
same_value a b = (a.0 == b.0) && int_eq a.1 b.1

abbrev pub same_controller : Controller → Controller → Bool
same_controller c d = same_port c.port d.port && (c.tier == d.tier) && same_text c.subnet d.subnet

abbrev pub same_controllers : Option Controller → Option Controller → Bool
same_controllers None None = true
same_controllers None (Some d) = false
same_controllers (Some c) None = false
same_controllers (Some c) (Some d) = same_controller c d

-- the entries are of one port, of one kind, with the same categories and attributes
abbrev pub same_head : Spot → Spot → Bool
same_head s t =
    same_port s.port t.port && (s.kind == t.kind) && same_class s.class t.class && (s.cats.0 == t.cats.0)
    && pointwise same_value s.attrs t.attrs

-- and have the same links and associations
abbrev pub same_rest : Spot → Spot → Bool
same_rest s t =
    pointwise same_tie s.ties t.ties && same_controllers s.controller t.controller && (s.container == t.container)
    && pointwise ◌==◌ s.contents t.contents && pointwise ◌==◌ s.structures t.structures

abbrev pub same_spot : Spot → Spot → Bool
same_spot s t = same_head s t && same_rest s t

-- ---- stars

abbrev pub same_error : TopoError → TopoError → Bool
same_error d e = (error_rank d.kind == error_rank e.kind) && (d.feature == e.feature) && (d.number == e.number) && (d.assoc == e.assoc)

-- the stars have the same entries and the same errors
abbrev pub same_star : Star → Star → Bool
same_star a b = pointwise same_spot a.spots b.spots && pointwise same_error a.errors b.errors
