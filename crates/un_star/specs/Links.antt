-- What a node has by links, from its own row, from what meets at its point, and from the associations of its row.
use Rattle.std.specs.Prelude.{ℕ, zero, suc, ◌==◌, nat_lt, true, ◌&&◌, ◌||◌, if◌then◌else◌, List, [], ◌∷◌, ◌++◌, flat_map, option_to_list}
use Rattle.std.specs.Option.{option_map_or}
use Rattle.un_geom.specs.declared.point.Point.{Point}
use Rattle.un_terms.specs.Config.{Config, flows}
use Rattle.un_schema.specs.declared.rule.Rule.{Rule}
use Rattle.un_schema.specs.Catalog.{Catalog}
use Rattle.un_defs.specs.declared.port.Node.{Node}
use Rattle.un_defs.specs.declared.link.LinkName.TheVariants.{Path, Coin}
use Rattle.un_defs.specs.declared.link.Tie.{Tie}
use Rattle.un_defs.specs.declared.row.Row.{Row}
use Rattle.un_defs.specs.Features.{Features, is_line, associations_of}
use Rattle.un_defs.specs.Ports.{node_of}
use Rattle.un_defs.specs.Links.{Link, link_of, segment, is_device, path_link, terminals_of, ties_by, only, association_link}
use Rattle.un_star.specs.declared.meet.Joint.{Joint}
use Rattle.un_star.specs.declared.meet.End.{End}
use Rattle.un_star.specs.Meet.{chosen_by, joins_by, joints_here, ends_here, end_here}

-- the segment of a line that ends at this vertex
abbrev pub segment_before : Row → ℕ → List Link
segment_before line zero = []
segment_before line (suc i) = segment line i

-- the two segments at a vertex
abbrev pub segment_ties : Node → Row → List Tie
segment_ties n r = if is_line r.class then flat_map (ties_by n) (segment_before r n.port.number ++ segment r n.port.number) else []

-- the path between two terminals, in whichever order they are given
abbrev pub path_between : Catalog → Row → ℕ → ℕ → List Link
path_between S r a b = if nat_lt a b then path_link S r a b else path_link S r b a

-- the paths from a terminal to each other one
abbrev pub path_ties : Catalog → Node → Row → List Tie
path_ties S n r =
    if is_device r.class then flat_map (λ b. flat_map (ties_by n) (path_between S r n.port.number b)) (terminals_of r) else []

-- the path with this number of a configuration: its links, and those that a terminal has to each other one
abbrev pub path_link_by : Config → ℕ → Row → ℕ → ℕ → List Link
path_link_by c path r a b =
    if nat_lt a b && (flows c path a b || flows c path b a)
    then link_of (Path r.id a b) (flows c path a b) (flows c path b a) (node_of r a) (node_of r b)
    else []

abbrev pub path_between_by : Config → ℕ → Row → ℕ → ℕ → List Link
path_between_by c path r a b = if nat_lt a b then path_link_by c path r a b else path_link_by c path r b a

abbrev pub path_ties_by : Config → ℕ → Node → Row → List Tie
path_ties_by c path n r = flat_map (λ b. flat_map (ties_by n) (path_between_by c path r n.port.number b)) (terminals_of r)

-- the link between an end and the device or junction at its point
abbrev pub coin_by : List Rule → Point → Joint → List End → End → List Link
coin_by rules p j ends e =
    if joins_by rules j ends e
    then record {
      name = Coin j.id (chosen_by e j) e.port.feature e.port.number;
      first = record { port = record { feature = j.id; number = chosen_by e j }; at = p };
      second = record { port = e.port; at = p };
      along = true;
      against = true;
    } ∷ []
    else []

abbrev pub coin_ties_by : List Rule → Node → Joint → List End → End → List Tie
coin_ties_by rules n j ends e = flat_map (ties_by n) (coin_by rules n.at j ends e)

-- the ends by which a node may have such a link: for the device or junction all, and for a vertex itself
abbrev pub ends_for : Catalog → Features → Node → Joint → List End
ends_for S F n j = if n.port.feature == j.id then ends_here S F n.at else option_to_list (end_here S F n.at n.port)

abbrev pub coin_ties : Catalog → Features → Node → List Tie
coin_ties S F n =
    option_map_or (λ j. flat_map (coin_ties_by S.rules n j (ends_here S F n.at)) (ends_for S F n j)) (only (joints_here F n.at)) []

-- the links by associations
abbrev pub association_ties : Features → Node → List Tie
association_ties F n = flat_map (λ a. flat_map (ties_by n) (association_link F a)) (associations_of F n.port.feature)

-- all four
abbrev pub node_ties : Catalog → Features → Node → Row → List Tie
node_ties S F n r = segment_ties n r ++ path_ties S n r ++ coin_ties S F n ++ association_ties F n
