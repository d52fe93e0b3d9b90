-- A row of four nodes, of which the first is a start and the last meets the condition: two kept nodes with a piece between them.
use Rattle.std.proofs.Common.{◌≡◌, ℕ, pos, true, false, List, [], ◌∷◌, map, None, refl}
use Rattle.un_conds.specs.Conditions.{Has}
use Rattle.un_schema.specs.declared.kind.Class.TheVariants.{Junction}
use Rattle.un_defs.specs.declared.port.Port.{Port}
use Rattle.un_defs.specs.declared.port.Node.{Node}
use Rattle.un_defs.specs.declared.link.LinkName.TheVariants.{Assoc}
use Rattle.un_defs.specs.declared.link.Tie.{Tie}
use Rattle.un_defs.specs.declared.star.Spot.{Spot}
use Rattle.un_defs.specs.declared.walk.Mode.TheVariants.{Any}
use Rattle.un_defs.specs.Ground.{Ground}
use Rattle.un_defs.specs.Reach.{leads}
use Rattle.un_ask.specs.declared.reply.Reply.TheVariants.{Diagram}
use Rattle.un_ask.specs.declared.typed.DiagramAsk.{DiagramAsk}
use Rattle.un_diagram.specs.Answer.{diagram_reply}
use Rattle.un_diagram.specs.Diagram.{is_kept, is_collapsed, passes, features_of}
use Rattle.un_diagram.specs.DiagramLists.{piece_nodes, least_nodes}

abbrev port : ℕ → Port
port f = record { feature = f; number = 1 }

abbrev node : ℕ → Node
node f = record { port = port f; at = record { x = pos 0; y = pos 0; z = pos 0 } }

-- the link of this number leads to the node of this feature
abbrev tie : ℕ → ℕ → Tie
tie id f = record { name = Assoc id; to = node f; out = true; back = true }

abbrev spot : ℕ → ℕ → List Tie → Spot
spot f cats ties = record {
  port = port f;
  kind = 0;
  class = Junction;
  cats = record { 0 = cats };
  attrs = [];
  ties = ties;
  controller = None;
  container = 0;
  contents = [];
  structures = [];
}

abbrev ground : Ground
ground = record {
  stars = λ p. record {
    spots = spot 1 0 (tie 1 2 ∷ []) ∷ spot 2 0 (tie 1 1 ∷ tie 2 3 ∷ []) ∷ spot 3 0 (tie 2 2 ∷ tie 3 4 ∷ []) ∷ spot 4 1 (tie 3 3 ∷ []) ∷ [];
    errors = [];
  };
  areas = [];
}

abbrev ask : DiagramAsk
ask = record {
  starts = node 1 ∷ [];
  keep = Has 0;
  barriers = record { request = None; of_tier = None; stops = []; tier = None; consistent = true };
}

abbrev nodes : List Node
nodes = node 1 ∷ node 2 ∷ node 3 ∷ node 4 ∷ []

the_ends_are_kept : map (is_kept ground ask) nodes ≡ true ∷ false ∷ false ∷ true ∷ []
the_ends_are_kept = refl

the_others_are_collapsed : map (is_collapsed ground ask) nodes ≡ false ∷ true ∷ true ∷ false ∷ []
the_others_are_collapsed = refl

-- from the second node a walk over collapsed nodes goes to the third alone
one_piece : map (passes ground ask (node 2)) nodes ≡ false ∷ false ∷ true ∷ false ∷ []
one_piece = refl

-- and a walk goes from the second to both its neighbours
two_edges : map (leads ground ask.barriers Any (node 2)) nodes ≡ true ∷ false ∷ true ∷ false ∷ []
two_edges = refl

two_features : features_of (node 2 ∷ node 3 ∷ []) ≡ 2 ∷ 3 ∷ []
two_features = refl

-- from each of its nodes the same piece is found, and one of them is the least
the_piece_of_the_third : piece_nodes ground ask nodes (node 3) ≡ node 2 ∷ node 3 ∷ []
the_piece_of_the_third = refl

one_is_least : least_nodes ground ask nodes ≡ node 2 ∷ []
one_is_least = refl

the_reply : diagram_reply ground ask nodes ≡ Diagram
    (record { from = port 1; to = port 2 } ∷ record { from = port 4; to = port 2 } ∷ [])
    (port 1 ∷ port 4 ∷ [])
    (record { name = port 2; nodes = 2; features = 2 } ∷ []) 0
the_reply = refl
