use Rattle.std.proofs.Common.{◌≡◌, ◌<◌, ◌≤◌, ℕ, List, [], ◌∷◌, length, length-append, Option, Some, rules, refl, ap, subst, arith, inl, inr}
use Rattle.std.specs.Prelude.{slice_get, Contains}
use Rattle.std.proofs.lemmas.Option.{slice_get_within, slice_get_read, get_or_from_slice_get}
use Rattle.un_defs.specs.declared.port.Node.{Node}
use Rattle.un_defs.proofs.Members.{among_from_contains}
use Rattle.un_ask.specs.declared.typed.DiagramAsk.{DiagramAsk}
use Rattle.un_diagram.specs.declared.roles.Role.{Role}
use Rattle.un_diagram.specs.declared.roles.Role.TheVariants.{Collapsed}
use Rattle.un_diagram.specs.Colours.{Colours, IsSpread}
use Rattle.un_diagram.proofs.Colouring.{spread_begun, spread_on}
use Rattle.un_diagram.proofs.colours.colour_piece.Goals as goal

has_at : (xs : List ℕ) (k i : ℕ) → slice_get xs k ≡ Some i → Contains xs i
has_at xs k i at = (k, slice_get_within xs k i at, get_or_from_slice_get xs k i i at)

pub colour_ends-requires-clause-inside : goal.colour_ends-requires-clause-inside
colour_ends-requires-clause-inside g c = λ j has.
    let below = slice_get_within c.args.roles.now c.args.first Collapsed c.requires.blank.collapsed in
    elim (among_from_contains (c.args.first ∷ []) j has) [ inl e ↦ subst (λ k. k < length c.args.roles.now) e below | inr h ↦ absurd h ]

pub loop-next-init : goal.loop-next-init
loop-next-init g c =
    let G = g.G.Ground.stars_and_areas c.args.over.now in
    let req = c.requires in
    record {
      within = omega arith;
      spread = spread_begun G c.args.ask.now c.args.nodes.now req.reached.net c.args.roles.now req.roles c.args.colours.now req.count req.closed c.args.first req.blank
          c.colour_ends.new.colours c.colour_ends.new.members.items
          (subst (λ (ms : List ℕ). Colours c.args.roles.now (c.args.first ∷ []) c.args.first c.args.colours.now c.colour_ends.new.colours ms c.colour_ends.new.members.items) c.new-members.ensures.items c.in_ok-colour_ends.ensures);
    }

pub ends_from-requires-clause-inside : goal.ends_from-requires-clause-inside
ends_from-requires-clause-inside g c =
    let members : List ℕ = c.loop-next.members.items in
    let place : ℕ = c.index-place.result.now in
    let below : c.loop-next.next < length members = search rules in
    let at : slice_get members c.loop-next.next ≡ Some place = slice_get_read members (length members) c.loop-next.next place refl below c.index-place.ensures in
    let spread = c.loop-next.invariant.spread in
    let inside = slice_get_within c.loop-next.colours place (Some c.args.first) (spread.coloured place (has_at members c.loop-next.next place at)) in
    omega (arith, inside, spread.count, c.requires.count)

pub colour_ends-requires-in-loop-next-clause-inside : goal.colour_ends-requires-in-loop-next-clause-inside
colour_ends-requires-in-loop-next-clause-inside g c = λ j has.
    let members : List ℕ = c.loop-next.members.items in
    let nodes : List Node = c.args.nodes.now in
    let place : ℕ = c.index-place.result.now in
    let below : c.loop-next.next < length members = search rules in
    let at : slice_get members c.loop-next.next ≡ Some place = slice_get_read members (length members) c.loop-next.next place refl below c.index-place.ensures in
    let way = c.loop-next.invariant.spread.led place (has_at members c.loop-next.next place at) in
    let end = (c.in_ok-ends.ensures way.node way.at_node).sound j (subst (λ (l : List ℕ). Contains l j) c.as_slice.ensures.value has) in
    omega (arith, slice_get_within nodes j end.0 end.1, c.requires.roles.count)

pub loop-next-preserved : goal.loop-next-preserved
loop-next-preserved g c =
    let G = g.G.Ground.stars_and_areas c.args.over.now in
    let ask : DiagramAsk = c.args.ask.now in
    let roles : List Role = c.args.roles.now in
    let nodes : List Node = c.args.nodes.now in
    let first = c.args.first in
    let members : List ℕ = c.loop-next.members.items in
    let after : List ℕ = c.colour_ends-in-loop-next.new.members.items in
    let mid : List (Option ℕ) = c.loop-next.colours in
    let new : List (Option ℕ) = c.colour_ends-in-loop-next.new.colours in
    let ends : List ℕ = c.in_ok-ends.ends.items in
    let place : ℕ = c.index-place.result.now in
    let req = c.requires in
    let below : c.loop-next.next < length members = search rules in
    let at : slice_get members c.loop-next.next ≡ Some place = slice_get_read members (length members) c.loop-next.next place refl below c.index-place.ensures in
    let way = c.loop-next.invariant.spread.led place (has_at members c.loop-next.next place at) in
    let put : Colours roles ends first mid new members after = subst (λ (l : List ℕ). Colours roles l first mid new members after) c.as_slice.ensures.value c.in_ok-colour_ends-2.ensures in
    record {
      within = omega (arith, below, ap length put.order, length-append members put.more);
      spread = spread_on G ask nodes req.reached.net roles req.roles c.args.colours.now req.count req.closed first req.blank mid new members after c.loop-next.next place c.loop-next.invariant.spread at
          way.node way.at_node ends (c.in_ok-ends.ensures way.node way.at_node) put;
    }

pub returns : goal.returns
returns g c =
    let G = g.G.Ground.stars_and_areas c.args.over.now in
    let members : List ℕ = c.loop-next.members.items in
    let done : length members ≤ c.loop-next.next = search rules in
    let is : c.loop-next.next ≡ length members = (let within = c.loop-next.invariant.within in omega arith) in
    subst (IsSpread G c.args.ask.now c.args.nodes.now c.args.first c.args.colours.now c.loop-next.colours members) is c.loop-next.invariant.spread
