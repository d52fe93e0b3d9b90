use Rattle.std.proofs.Common.{◌≡◌, ℕ, ◌<◌, ◌↔◌, Bool, true, List, length, Some, Ok, Err, Result, sym, subst, ◌∙◌}
use Rattle.std.specs.Prelude.{slice_get, Contains, IfOk}
use Rattle.std.specs.List.Sorted.{IsStrictlySortedBy}
use Rattle.un_defs.specs.declared.link.LinkName.TheVariants.{Seg}
use Rattle.un_defs.specs.Orders.{rising}
use Rattle.un_defs.proofs.Rising.{sorted-rising}
use Rattle.un_walk.specs.Found.{nodes}
use Rattle.un_ask.specs.contracts.results.SegmentOrd.TheImpl as by_segment
use Rattle.un_ask.specs.declared.results.Segment.{Segment}
use Rattle.un_loops.specs.declared.link.Link.{Link}
use Rattle.un_loops.specs.Graph.{IsOnCycle}
use Rattle.un_loops.specs.Loops.{segment_cmp}
use Rattle.un_loops.specs.Marked.{marked_segments}
use Rattle.un_loops.specs.Named.{IsOnLoop}
use Rattle.un_loops.specs.Network.{IsJoined}
use Rattle.un_loops.proofs.Listing.{segment_total}
use Rattle.un_loops.proofs.Marking.{name_of, has_marked, rising_has, rises_alike}
use Rattle.un_loops.proofs.Named.{loops_marked}
use Rattle.un_loops.proofs.segments.loop_segments.Goals as goal

if_ok_map : {T E : Type 0} (r : Result T E) (P Q : T → Type 0) → ((x : T) → P x → Q x) → IfOk r P → IfOk r Q
if_ok_map (Ok x) P Q f h = f x h
if_ok_map (Err e) P Q f h = h

pub returns-clause-exact : goal.returns-clause-exact
returns-clause-exact g c =
    let graph = c.in_ok-graph.graph in
    let net = c.in_ok-graph.ensures in
    let linked = IsJoined (g.G.Ground.stars_and_areas c.args.over.now) c.args.barriers.now (nodes c.args.found.now) in
    let marks : List Bool = c.deref-3.result.now in
    let exact : (i : ℕ) → i < length graph.links.items → (slice_get marks i ≡ Some true) ↔ IsOnCycle graph.links.items i =
    subst (λ (ms : List Bool). (i : ℕ) → i < length graph.links.items → (slice_get ms i ≡ Some true) ↔ IsOnCycle graph.links.items i) (sym c.deref-3.ensures.value)
    (subst (λ (ls : List Link). (i : ℕ) → i < length ls → (slice_get c.in_ok-marks.marks.items i ≡ Some true) ↔ IsOnCycle ls i) c.deref.ensures.value c.in_ok-marks.ensures.exact) in
    let decided = loops_marked linked c.requires.linked.mutual_links c.requires.linked.one_pair graph.links.items graph.names graph.parents.items net marks exact in
    let marked : List Segment = c.deref-4.result.now in
    let marked_are : marked ≡ marked_segments graph.names marks = c.deref-4.ensures.value ∙ c.in_ok-marked.ensures in
    if_ok_map c.rising.result (λ found. found.items ≡ rising by_segment.ghosts.cmp marked) (λ found. (s : Segment) → Contains found.items s ↔ IsOnLoop linked (Seg s.line s.index))
    (λ found items s. (
      λ has.
          let in_marked : Contains (marked_segments graph.names marks) s =
          subst (λ l. Contains l s) marked_are ((rising_has marked s).0 (subst (λ l. Contains l s) (items ∙ rises_alike marked) has)) in
          (decided (name_of s)).0 ((has_marked graph.names marks s).0 in_marked),
      λ loop.
          let in_marked : Contains marked s =
          subst (λ l. Contains l s) (sym marked_are) ((has_marked graph.names marks s).1 ((decided (name_of s)).1 loop)) in
          subst (λ l. Contains l s) (sym (items ∙ rises_alike marked)) ((rising_has marked s).1 in_marked),
    ))
    c.rising.ensures

pub returns-clause-rising : goal.returns-clause-rising
returns-clause-rising g c =
    let marked : List Segment = c.deref-4.result.now in
    if_ok_map c.rising.result (λ found. found.items ≡ rising by_segment.ghosts.cmp marked) (λ found. IsStrictlySortedBy segment_cmp found.items)
    (λ found items. subst (IsStrictlySortedBy segment_cmp) (sym (items ∙ rises_alike marked)) (sorted-rising segment_total marked))
    c.rising.ensures
