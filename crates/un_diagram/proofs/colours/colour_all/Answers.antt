use Rattle.std.proofs.Common.{◌≡◌, ℕ, ◌+◌, ◌++◌, List, [], ◌∷◌, length, Option, sym, ap, subst, ◌∙◌, Vec, Global, arith}
use Rattle.un_defs.specs.declared.port.Node.{Node}
use Rattle.un_ask.specs.declared.typed.DiagramAsk.{DiagramAsk}
use Rattle.un_ask.specs.declared.results.Piece.{Piece}
use Rattle.un_diagram.specs.declared.roles.Role.{Role}
use Rattle.un_diagram.specs.Diagram.{features_of}
use Rattle.un_diagram.specs.Colours.{nodes_at, IsSpread, AreColoured, ArePieces}
use Rattle.un_diagram.proofs.Colouring.{coloured_none, coloured_past, coloured_on}
use Rattle.un_diagram.proofs.Piecing.{pieces_none, pieces_past, pieces_on}
use Rattle.un_diagram.proofs.colours.colour_all.Goals as goal
use Rattle.un_diagram.proofs.colours.colour_all.Goals.{then-is_blank+in_ok-members+in_ok-piece_of+in_ok-push, else-is_blank}

pub loop-first-init : goal.loop-first-init
loop-first-init g c =
    let G = g.G.Ground.stars_and_areas c.args.over.now in
    let ask : DiagramAsk = c.args.ask.now in
    let req = c.requires in
    record {
      colours = coloured_none G ask c.args.nodes.now req.reached.net c.args.roles.now req.roles c.args.colours.now req.count req.none;
      pieces = pieces_none G ask c.args.nodes.now req.reached.net c.args.roles.now req.roles c.args.colours.now c.new-pieces.result.items c.new-pieces.ensures.items;
    }

pub loop-first-preserved : goal.loop-first-preserved
loop-first-preserved g c =
    let G = g.G.Ground.stars_and_areas c.args.over.now in
    let ask : DiagramAsk = c.args.ask.now in
    let nodes : List Node = c.args.nodes.now in
    let roles : List Role = c.args.roles.now in
    let net = c.requires.reached.net in
    let are = c.requires.roles in
    let k = c.loop-first.first in
    let old : List (Option ℕ) = c.loop-first.colours in
    let pieces : List Piece = c.loop-first.pieces.items in
    let so_far = c.loop-first.invariant.colours in
    let All : List (Option ℕ) → List Piece → Type 0 = λ (cs : List (Option ℕ)) (ps : List Piece). AreColoured G ask nodes cs (k + 1) × ArePieces G ask nodes cs (k + 1) ps in
    let all : All c.if-is_blank.colours c.if-is_blank.pieces.items = elim c.if-is_blank.branch [
      | then-is_blank+in_ok-members+in_ok-piece_of+in_ok-push w ↦
          let new : List (Option ℕ) = w.colour_piece.new.colours in
          let members : List ℕ = w.in_ok-members.members.items in
          let p : Piece = w.in_ok-piece_of.field-0 in
          let spread : IsSpread G ask nodes k old new members (length members) = w.in_ok-members.ensures in
          let value = w.as_slice.ensures.value in
          let count : p.nodes ≡ length members = w.in_ok-piece_of.ensures.nodes ∙ ap length value in
          let features : p.features ≡ length (features_of (nodes_at nodes members)) = w.in_ok-piece_of.ensures.features ∙ ap (λ (l : List ℕ). length (features_of (nodes_at nodes l))) value in
          let items : c.if-is_blank.pieces.items ≡ pieces ++ p ∷ [] = ap (λ (v : Vec Piece Global). v.items) w.pieces-is ∙ w.in_ok-push.ensures.items in
          subst (λ (cs : List (Option ℕ)). All cs c.if-is_blank.pieces.items) (sym w.colours-is) (subst (All new) (sym items) (
            coloured_on G ask nodes net roles are old k so_far new members spread,
            pieces_on G ask nodes net roles are old k so_far new members spread p w.in_ok-piece_of.ensures.name count features pieces c.loop-first.invariant.pieces,
          ))
      | else-is_blank w ↦
          let items : c.if-is_blank.pieces.items ≡ pieces = ap (λ (v : Vec Piece Global). v.items) w.pieces-is in
          subst (λ (cs : List (Option ℕ)). All cs c.if-is_blank.pieces.items) (sym w.colours-is) (subst (All old) (sym items) (
            coloured_past G ask nodes net roles are old k so_far c.loop-first-test.true w.if-is_blank.ensures,
            pieces_past G ask nodes net roles are old k so_far pieces c.loop-first.invariant.pieces,
          ))
    ] in
    record { colours = all.0; pieces = all.1 }

pub returns-clause-colours : goal.returns-clause-colours
returns-clause-colours g c =
    let G = g.G.Ground.stars_and_areas c.args.over.now in
    let is : c.loop-first.first ≡ length c.args.nodes.now = omega (arith, c.loop-first-test.false, c.loop-first.auto.first-end) in
    subst (AreColoured G c.args.ask.now c.args.nodes.now c.loop-first.colours) is c.loop-first.invariant.colours

pub returns-clause-pieces : goal.returns-clause-pieces
returns-clause-pieces g c =
    let G = g.G.Ground.stars_and_areas c.args.over.now in
    let is : c.loop-first.first ≡ length c.args.nodes.now = omega (arith, c.loop-first-test.false, c.loop-first.auto.first-end) in
    subst (λ n. ArePieces G c.args.ask.now c.args.nodes.now c.loop-first.colours n c.loop-first.pieces.items) is c.loop-first.invariant.pieces
