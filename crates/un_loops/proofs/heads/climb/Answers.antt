use Rattle.std.proofs.Common.{◌≡◌, ℕ, ◌<◌, Some, List, get_or, refl, inl, inr, sym, subst, ◌∙◌, arith}
use Rattle.std.specs.Prelude.{slice_get}
use Rattle.un_loops.specs.declared.link.Link.{Link}
use Rattle.un_loops.specs.Graph.{IsJoinedBy}
use Rattle.un_loops.specs.Heads.{AreHeads, IsMarked}
use Rattle.std.proofs.lemmas.Option.{slice_get-get_or}
use Rattle.un_loops.proofs.Walks.{joined_trans, joined_allowed, joined_back}
use Rattle.un_loops.proofs.Climbing.{heads_shortened, marked_kept, joined_nth, closes_cycle, same_root}
use Rattle.un_loops.proofs.heads.climb.Goals as goal

pub find-one-requires-clause-inside : goal.find-one-requires-clause-inside
find-one-requires-clause-inside c =
    let link : Link = get_or c.args.links.now c.args.index (record { a = 0; b = 0 }) in
    let ends = c.requires.forest.ends c.args.index link (slice_get-get_or c.args.links.now c.args.index _ c.requires.inside) in
    omega (arith, ends.0, c.requires.heads.count)

pub find-other-requires-clause-inside : goal.find-other-requires-clause-inside
find-other-requires-clause-inside c =
    let link : Link = get_or c.args.links.now c.args.index (record { a = 0; b = 0 }) in
    let ends = c.requires.forest.ends c.args.index link (slice_get-get_or c.args.links.now c.args.index _ c.requires.inside) in
    omega (arith, ends.1, c.requires.heads.count, c.find-one.ensures.shortened.count)

pub find-other-requires-clause-below : goal.find-other-requires-clause-below
find-other-requires-clause-below c =
    let first = heads_shortened c.args.links.now c.args.parents.now c.args.heads.now c.find-one.new.heads c.requires.heads c.find-one.ensures.shortened in
    first.below

pub loop-one-init : goal.loop-one-init
loop-one-init c =
    let links = c.args.links.now in
    let parents = c.args.parents.now in
    let zeroth : List ℕ = c.args.heads.now in
    let first : List ℕ = c.find-one.new.heads in
    let second : List ℕ = c.find-other.new.heads in
    let link : Link = get_or links c.args.index (record { a = 0; b = 0 }) in
    let a = link.a in
    let b = link.b in
    let at : slice_get links c.args.index ≡ Some link = slice_get-get_or links c.args.index _ c.requires.inside in
    let ends = c.requires.forest.ends c.args.index link at in
    let are = c.requires.heads in
    let are_first : AreHeads links parents first = heads_shortened links parents zeroth first are c.find-one.ensures.shortened in
    let are_second : AreHeads links parents second = heads_shortened links parents first second are_first c.find-other.ensures.shortened in
    let kept_first = marked_kept links parents zeroth first are c.find-one.ensures.shortened in
    let kept_second = marked_kept links parents first second are_first c.find-other.ensures.shortened in
    let along_a : IsJoinedBy links (IsMarked parents zeroth) a c.find-one.result =
    subst (IsJoinedBy links (IsMarked parents zeroth) a) (sym c.find-one.ensures.along.1) (joined_nth links parents zeroth are c.find-one.ensures.along.0 a (omega (arith, ends.0, are.count))) in
    let along_b : IsJoinedBy links (IsMarked parents first) b c.find-other.result =
    subst (IsJoinedBy links (IsMarked parents first) b) (sym c.find-other.ensures.along.1) (joined_nth links parents first are_first c.find-other.ensures.along.0 b (omega (arith, ends.1, are_first.count))) in
    record {
      heads = are_second;
      kept = λ j m. kept_second j (kept_first j m);
      one_in = omega (arith, ends.0, are_second.count, c.find-one.ensures.above);
      other_in = omega (arith, ends.1, are_second.count, c.find-other.ensures.above);
      one_last = c.find-other.ensures.shortened.stays c.find-one.result (omega (arith, ends.0, are_first.count, c.find-one.ensures.above)) c.find-one.ensures.last;
      other_last = c.find-other.ensures.last;
      from_a = joined_allowed links (IsMarked parents zeroth) (IsMarked parents second) (λ j m. kept_second j (kept_first j m)) a c.find-one.result along_a;
      from_b = joined_allowed links (IsMarked parents first) (IsMarked parents second) kept_second b c.find-other.result along_b;
    }

pub raise-other-requires-clause-cycle : goal.raise-other-requires-clause-cycle
raise-other-requires-clause-cycle c =
    let links = c.args.links.now in
    let parents = c.args.parents.now in
    let heads = c.loop-one.heads in
    let forest = c.requires.forest in
    let link : Link = get_or links c.args.index (record { a = 0; b = 0 }) in
    let at : slice_get links c.args.index ≡ Some link = slice_get-get_or links c.args.index _ c.requires.inside in
    let i = c.loop-one.invariant in
    let roots = (forest.ends c.args.index link at).2 in
    closes_cycle links parents forest heads i.heads c.args.index link.b link.a c.loop-one.other c.loop-one.one c.requires.chord (link, at, inr (refl, refl)) i.from_b i.from_a i.other_in i.other_last c.if-one-other.true
    (sym (same_root links parents forest heads link.b c.loop-one.other i.from_b) ∙ sym roots ∙ same_root links parents forest heads link.a c.loop-one.one i.from_a)

pub loop-one-preserved-then-one-other : goal.loop-one-preserved-then-one-other
loop-one-preserved-then-one-other c =
    let links = c.args.links.now in
    let parents = c.args.parents.now in
    let link : Link = get_or links c.args.index (record { a = 0; b = 0 }) in
    let i = c.loop-one.invariant in
    let r = c.raise-other.ensures in
    let old = IsMarked parents c.loop-one.heads in
    let new = IsMarked parents c.raise-other.new.heads in
    record {
      heads = r.heads;
      kept = λ j m. r.kept j (i.kept j m);
      one_in = omega (arith, i.one_in, i.heads.count, r.heads.count);
      other_in = omega (arith, i.other_in, i.heads.count, r.heads.count, r.less);
      one_last = r.stays c.loop-one.one i.one_in c.loop-one-test.true i.one_last;
      other_last = r.last;
      from_a = joined_allowed links old new r.kept link.a c.loop-one.one i.from_a;
      from_b = joined_trans links new link.b c.loop-one.other c.raise-other.result (joined_allowed links old new r.kept link.b c.loop-one.other i.from_b) r.joined;
    }

pub raise-one-requires-clause-cycle : goal.raise-one-requires-clause-cycle
raise-one-requires-clause-cycle c =
    let links = c.args.links.now in
    let parents = c.args.parents.now in
    let heads = c.loop-one.heads in
    let forest = c.requires.forest in
    let link : Link = get_or links c.args.index (record { a = 0; b = 0 }) in
    let at : slice_get links c.args.index ≡ Some link = slice_get-get_or links c.args.index _ c.requires.inside in
    let i = c.loop-one.invariant in
    let roots = (forest.ends c.args.index link at).2 in
    let less : c.loop-one.other < c.loop-one.one = omega arith in
    closes_cycle links parents forest heads i.heads c.args.index link.a link.b c.loop-one.one c.loop-one.other c.requires.chord (link, at, inl (refl, refl)) i.from_a i.from_b i.one_in i.one_last less
    (sym (same_root links parents forest heads link.a c.loop-one.one i.from_a) ∙ roots ∙ same_root links parents forest heads link.b c.loop-one.other i.from_b)

pub loop-one-preserved : goal.loop-one-preserved
loop-one-preserved c =
    let links = c.args.links.now in
    let parents = c.args.parents.now in
    let link : Link = get_or links c.args.index (record { a = 0; b = 0 }) in
    let i = c.loop-one.invariant in
    let r = c.raise-one.ensures in
    let old = IsMarked parents c.loop-one.heads in
    let new = IsMarked parents c.raise-one.new.heads in
    record {
      heads = r.heads;
      kept = λ j m. r.kept j (i.kept j m);
      one_in = omega (arith, i.one_in, i.heads.count, r.heads.count, r.less);
      other_in = omega (arith, i.other_in, i.heads.count, r.heads.count);
      one_last = r.last;
      other_last = r.stays c.loop-one.other i.other_in (λ e. c.loop-one-test.true (sym e)) i.other_last;
      from_a = joined_trans links new link.a c.loop-one.one c.raise-one.result (joined_allowed links old new r.kept link.a c.loop-one.one i.from_a) r.joined;
      from_b = joined_allowed links old new r.kept link.b c.loop-one.other i.from_b;
    }

pub returns-clause-closed : goal.returns-clause-closed
returns-clause-closed c = λ l is.
    let links = c.args.links.now in
    let heads = c.loop-one.heads in
    let marked = IsMarked c.args.parents.now heads in
    let link : Link = get_or links c.args.index (record { a = 0; b = 0 }) in
    let at : slice_get links c.args.index ≡ Some link = slice_get-get_or links c.args.index _ c.requires.inside in
    let same : link ≡ l = cc in
    let i = c.loop-one.invariant in
    let meet : c.loop-one.one ≡ c.loop-one.other = c.loop-one-test.false in
    let walk : IsJoinedBy links marked link.a link.b =
    joined_trans links marked link.a c.loop-one.one link.b i.from_a
    (joined_back links marked link.b c.loop-one.one (subst (IsJoinedBy links marked link.b) (sym meet) i.from_b)) in
    subst (λ (k : Link). IsJoinedBy links marked k.a k.b) same walk
