use Rattle.std.proofs.Common.{◌≡◌, false, List, sym, ap, subst}
use Rattle.std.specs.Prelude.{Contains}
use Rattle.std.specs.List.Sorted.{IsStrictlySortedBy}
use Rattle.un_defs.specs.declared.port.Node.{Node}
use Rattle.un_defs.specs.Ground.{is_dirty}
use Rattle.un_defs.proofs.FreshLinked.{clean}
use Rattle.un_defs.proofs.Members.{among_from_contains}
use Rattle.un_walk.specs.Found.{nodes as found_nodes}
use Rattle.un_ask.specs.declared.results.Segment.{Segment}
use Rattle.un_ask.specs.declared.reply.Reply.TheVariants.{Loops}
use Rattle.un_loops.specs.Answer.{reached_of}
use Rattle.un_loops.specs.Loops.{segment_cmp, AreLoops}
use Rattle.un_loops.proofs.Listing.{only_list}
use Rattle.un_loops.proofs.OverGround.{well_linked, loop_is}
use Rattle.un_loops.proofs.answer.loops_among.Goals as goal

pub loop_segments-requires-clause-linked : goal.loop_segments-requires-clause-linked
loop_segments-requires-clause-linked g c =
    let G = g.G.Ground.stars_and_areas c.args.over.now in
    let ask = c.args.ask.now in
    let reached : List Node = reached_of c.args.found.now in
    let is_clean : (n : Node) → Contains reached n → is_dirty G n.at ≡ false = λ n h. clean G reached c.requires.clean n (among_from_contains reached n h) in
    well_linked G ask.barriers ask.starts (found_nodes c.args.found.now) c.requires.reach is_clean c.requires.linked c.requires.over.distinct

pub returns : goal.returns
returns g c =
    let G = g.G.Ground.stars_and_areas c.args.over.now in
    let ask = c.args.ask.now in
    let reached : List Node = reached_of c.args.found.now in
    let is_clean : (n : Node) → Contains reached n → is_dirty G n.at ≡ false = λ n h. clean G reached c.requires.clean n (among_from_contains reached n h) in
    let loops = loop_is G ask.barriers ask.starts (found_nodes c.args.found.now) c.requires.reach is_clean c.requires.linked c.requires.over.distinct in
    let answer = c.in_ok-segments.ensures in
    let items = c.new.ensures in
    let listed : AreLoops G ask.barriers reached c.new.result = record {
      rising = subst (IsStrictlySortedBy segment_cmp) (sym items) answer.rising;
      exact = λ s. (
        λ has. (loops s).0 ((answer.exact s).0 (subst (λ (l : List Segment). Contains l s) items has)),
        λ loop. subst (λ (l : List Segment). Contains l s) (sym items) ((answer.exact s).1 ((loops s).1 loop)),
      );
    } in
    ap (λ segments. Loops segments 0) (only_list G ask.barriers ask.starts reached c.requires.reach c.new.result listed)
