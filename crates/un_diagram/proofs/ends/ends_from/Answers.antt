use Rattle.std.proofs.Common.{rules, arith, ◌≡◌, ◌<◌, length, true, false, List, Some, None, Result, Ok, Err, sym, ap, refl, subst, ◌∙◌}
use Rattle.std.specs.Prelude.{slice_get, IfOk}
use Rattle.std.specs.Option.{option_copied}
use Rattle.std.proofs.lemmas.List.{length-map}
use Rattle.std.proofs.lemmas.Option.{slice_get_read}
use Rattle.un_defs.specs.declared.port.Node.{Node}
use Rattle.un_defs.specs.declared.star.Spot.{Spot}
use Rattle.un_defs.specs.Ground.{entry}
use Rattle.un_defs.specs.Reach.{is_barrier}
use Rattle.un_walk.specs.declared.seen.Seen.{Seen}
use Rattle.un_walk.specs.Seen.{node_of}
use Rattle.un_diagram.specs.Places.{AreEnds}
use Rattle.un_diagram.proofs.Linking.{no_ends, no_entry, ends_are, barrier_is, entry_is}
use Rattle.un_diagram.proofs.Placing.{contains_at}
use Rattle.un_diagram.proofs.ends.ends_from.Goals as goal

pub bounds-seen-place : goal.bounds-seen-place
bounds-seen-place g c = omega (arith, ap length c.requires.reached.are, length-map c.args.seen.now node_of, c.requires.inside)

pub offset_bounds-seen-place : goal.offset_bounds-seen-place
offset_bounds-seen-place g c =
    let below : c.args.place < length c.args.seen.now = bounds-seen-place g c in
    search rules

pub returns-then-is_barrier : goal.returns-then-is_barrier
returns-then-is_barrier g c = λ n at_n.
    let G = g.G.Ground.stars_and_areas c.args._over.now in
    let B = c.args.barriers.now in
    let seen : List Seen = c.args.seen.now in
    let nodes : List Node = c.args.nodes.now in
    let i = c.args.place in
    let reached = c.requires.reached in
    let v : Seen = c.index-seen-place.result in
    let below : i < length seen = omega (arith, ap length reached.are, length-map seen node_of, c.requires.inside) in
    let at_v : slice_get seen i ≡ Some v = slice_get_read seen (length seen) i v refl below c.index-seen-place.is in
    let shut : is_barrier G B n ≡ true = sym (barrier_is G B seen nodes reached i v n at_v at_n) ∙ sym c.is_barrier.ensures ∙ c.if-is_barrier.true in
    subst (AreEnds G B nodes n) (sym c.new.ensures.items) (no_ends G B seen nodes reached n (contains_at nodes i n at_n) shut)

pub returns-in-None : goal.returns-in-None
returns-in-None g c = λ n at_n.
    let G = g.G.Ground.stars_and_areas c.args._over.now in
    let B = c.args.barriers.now in
    let seen : List Seen = c.args.seen.now in
    let nodes : List Node = c.args.nodes.now in
    let i = c.args.place in
    let reached = c.requires.reached in
    let v : Seen = c.index-seen-place.result in
    let below : i < length seen = omega (arith, ap length reached.are, length-map seen node_of, c.requires.inside) in
    let at_v : slice_get seen i ≡ Some v = slice_get_read seen (length seen) i v refl below c.index-seen-place.is in
    let none : entry G n ≡ None = sym (entry_is G B seen nodes reached i v n at_v at_n) ∙ ap option_copied c.in-None.is in
    subst (AreEnds G B nodes n) (sym c.new-in-None.ensures.items) (no_entry G B seen nodes reached n (contains_at nodes i n at_n) none)

pub returns-in-Some : goal.returns-in-Some
returns-in-Some g c =
    let G = g.G.Ground.stars_and_areas c.args._over.now in
    let B = c.args.barriers.now in
    let seen : List Seen = c.args.seen.now in
    let nodes : List Node = c.args.nodes.now in
    let i = c.args.place in
    let reached = c.requires.reached in
    let v : Seen = c.index-seen-place.result in
    let s : Spot = c.in-Some.spot.now in
    let below : i < length seen = omega (arith, ap length reached.are, length-map seen node_of, c.requires.inside) in
    let at_v : slice_get seen i ≡ Some v = slice_get_read seen (length seen) i v refl below c.index-seen-place.is in
    if_ok c.ends_by.result c.ends_by.ensures (λ ends by n at_n.
    let free : is_barrier G B n ≡ false = sym (barrier_is G B seen nodes reached i v n at_v at_n) ∙ sym c.is_barrier.ensures ∙ c.if-is_barrier.false in
    let known : entry G n ≡ Some s = sym (entry_is G B seen nodes reached i v n at_v at_n) ∙ ap option_copied c.in-Some.is in
    ends_are G B seen nodes reached n (contains_at nodes i n at_n) s known free ends.items by)
  where
    if_ok : {A E : Type 0} {P Q : A → Type 0} (r : Result A E) → IfOk r P → ((x : A) → P x → Q x) → IfOk r Q
    if_ok (Ok x) p f = f x p
    if_ok (Err e) p f = tt
