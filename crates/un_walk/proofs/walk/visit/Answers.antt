use Rattle.std.proofs.Common.{◌≡◌, ℕ, ◌&&◌, true, false, List, [], append-nil, Contains, None, is_some, OnOk, Result, Ok, Err, sym, ap, subst, ◌∙◌, true≢false}
use Rattle.std.specs.Option.{option_copied, option_map_or}
use Rattle.std.specs.List.{list_any}
use Rattle.un_defs.specs.declared.port.Node.{Node}
use Rattle.un_defs.specs.declared.link.Tie.{Tie}
use Rattle.un_defs.specs.declared.walk.Mode.{Mode}
use Rattle.un_defs.specs.declared.walk.Barriers.{Barriers}
use Rattle.un_defs.proofs.Members.{among_from_contains}
use Rattle.un_defs.specs.Ground.{Ground, entry, ties, is_dirty, least_area_at}
use Rattle.un_defs.specs.Reach.{is_open, goes_by, leads}
use Rattle.un_walk.specs.declared.found.Found.{Found}
use Rattle.un_walk.specs.declared.site.Site.{Site}
use Rattle.un_walk.specs.declared.traversal.Away.{Away}
use Rattle.un_walk.specs.Aways.{FollowsAll}
use Rattle.un_walk.specs.Entries.{entry_in}
use Rattle.un_walk.specs.Found.{nodes}
use Rattle.un_walk.specs.Site.{star_of, IsSite}
use Rattle.un_walk.proofs.DirtMet.{is_dirty_by}
use Rattle.un_walk.proofs.Following.{follows_shut}
use Rattle.un_walk.proofs.Growing.{grows_none, grows_same}
use Rattle.un_walk.proofs.LinkTests.{leads_open, shut_by_dirt, shut_by_stop, shut_by_condition, is_open_by, ties_stay}
use Rattle.un_walk.proofs.walk.visit.Goals as goal

on_ok : {T E : Type 0} (r : Result T E) (P Q : Type 0) → (P → Q) → OnOk r P → OnOk r Q
on_ok (Ok x) P Q f h = f h
on_ok (Err e) P Q f h = h

-- a node at the site is dirty where an area was found
dirty_here : (G : Ground) (s : Site) (n : Node) → IsSite G s → s.at ≡ n.at → is_some s.area ≡ is_dirty G n.at
dirty_here G s n is at = ap is_some (is.area ∙ ap (least_area_at G) at) ∙ sym (is_dirty_by G n.at)

-- where no star was found the node has no entry
no_entry : (G : Ground) (s : Site) (n : Node) → IsSite G s → s.at ≡ n.at → s.star ≡ None → entry G n ≡ None
no_entry G s n is at none =
    ap (λ star. entry_in star n.port) (ap G.stars (sym at) ∙ sym is.star ∙ ap (λ o. star_of (record s { star = o })) none)

module _ (G : Ground) (B : Barriers) (mode : Mode) (f : Found) (old : List Away) (n : Node) (p : ℕ) where
  -- nothing is followed
  stays : (is_open G B n ≡ true → (t : Tie) → Contains (ties G n) t → ⊥) → FollowsAll G B mode f f old old n p
  stays shut = record {
    aways = [];
    is = sym (append-nil old);
    of = λ a c. absurd (among_from_contains [] a c);
    follows = λ first settled at. follows_shut G B mode f n first p settled shut at;
  }

  stays_shut : is_open G B n ≡ false → FollowsAll G B mode f f old old n p
  stays_shut shut = stays (λ opened t c. true≢false (sym opened ∙ shut))

  stays_bare : entry G n ≡ None → FollowsAll G B mode f f old old n p
  stays_bare none = stays (λ opened t c. among_from_contains [] t (subst (λ o. Contains (option_map_or (λ s. s.ties) o []) t) none c))

pub returns-then-is_shut_by_dirt-clause-next : goal.returns-then-is_shut_by_dirt-clause-next
returns-then-is_shut_by_dirt-clause-next g c = grows_none (nodes c.args.found.now) (leads (g.G.Ground.stars_and_areas c.args.over.now) c.args.barriers.now c.args.mode c.args.one.now.node)

pub returns-then-stop_at-clause-next : goal.returns-then-stop_at-clause-next
returns-then-stop_at-clause-next g c = grows_none (nodes c.args.found.now) (leads (g.G.Ground.stars_and_areas c.args.over.now) c.args.barriers.now c.args.mode c.args.one.now.node)

pub returns-in_default-clause-next : goal.returns-in_default-clause-next
returns-in_default-clause-next g c = grows_none (nodes c.args.found.now) (leads (g.G.Ground.stars_and_areas c.args.over.now) c.args.barriers.now c.args.mode c.args.one.now.node)

pub returns-then-is_shut_by_barrier-clause-next : goal.returns-then-is_shut_by_barrier-clause-next
returns-then-is_shut_by_barrier-clause-next g c = grows_none (nodes c.args.found.now) (leads (g.G.Ground.stars_and_areas c.args.over.now) c.args.barriers.now c.args.mode c.args.one.now.node)

pub returns-clause-next : goal.returns-clause-next
returns-clause-next g c =
    let G = g.G.Ground.stars_and_areas c.args.over.now in
    let B = c.args.barriers.now in
    let n = c.args.one.now.node in
    let open_here : is_open G B n ≡ true = is_open_by G B c.args.mode n c.in-Some.spot.now (sym c.requires.entry ∙ ap option_copied c.in-Some.is)
    (sym c.is_shut_by_barrier.ensures ∙ c.if-is_shut_by_barrier.false) (sym c.stop_at.ensures ∙ c.if-stop_at.false)
    (ap (λ b. B.consistent && b) (sym (dirty_here G c.args.site.now n c.requires.site c.requires.at) ∙ sym c.is_some.ensures) ∙ sym c.is_shut_by_dirt.ensures ∙ c.if-is_shut_by_dirt.false) in
    on_ok c.follow.result _ _ (grows_same (nodes c.args.found.now) (nodes c.follow.new.found) (λ m. list_any (goes_by G B c.args.mode n m) (ties G n)) (leads G B c.args.mode n) (leads_open G B c.args.mode n open_here))
    c.follow.ensures.next

pub returns-clause-once : goal.returns-clause-once
returns-clause-once g c =
    let G = g.G.Ground.stars_and_areas c.args.over.now in
    let B = c.args.barriers.now in
    let n = c.args.one.now.node in
    let open_here : is_open G B n ≡ true = is_open_by G B c.args.mode n c.in-Some.spot.now (sym c.requires.entry ∙ ap option_copied c.in-Some.is)
    (sym c.is_shut_by_barrier.ensures ∙ c.if-is_shut_by_barrier.false) (sym c.stop_at.ensures ∙ c.if-stop_at.false)
    (ap (λ b. B.consistent && b) (sym (dirty_here G c.args.site.now n c.requires.site c.requires.at) ∙ sym c.is_some.ensures) ∙ sym c.is_shut_by_dirt.ensures ∙ c.if-is_shut_by_dirt.false) in
    λ once. c.follow.ensures.once (ties_stay G B n once open_here)

pub returns-then-is_shut_by_dirt-clause-follows : goal.returns-then-is_shut_by_dirt-clause-follows
returns-then-is_shut_by_dirt-clause-follows g c =
    let G = g.G.Ground.stars_and_areas c.args.over.now in
    let B = c.args.barriers.now in
    let n = c.args.one.now.node in
    stays_shut G B c.args.mode c.args.found.now c.args.aways.now.items n c.args.number (shut_by_dirt G B c.args.mode n
    (ap (λ b. B.consistent && b) (sym (dirty_here G c.args.site.now n c.requires.site c.requires.at) ∙ sym c.is_some.ensures) ∙ sym c.is_shut_by_dirt.ensures ∙ c.if-is_shut_by_dirt.true))

pub returns-then-stop_at-clause-follows : goal.returns-then-stop_at-clause-follows
returns-then-stop_at-clause-follows g c =
    let G = g.G.Ground.stars_and_areas c.args.over.now in
    let B = c.args.barriers.now in
    let n = c.args.one.now.node in
    stays_shut G B c.args.mode c.args.found.now c.args.aways.now.items n c.args.number (shut_by_stop G B c.args.mode n (sym c.stop_at.ensures ∙ c.if-stop_at.true))

pub returns-in_default-clause-follows : goal.returns-in_default-clause-follows
returns-in_default-clause-follows g c =
    let G = g.G.Ground.stars_and_areas c.args.over.now in
    let B = c.args.barriers.now in
    let n = c.args.one.now.node in
    stays_bare G B c.args.mode c.args.found.now c.args.aways.now.items n c.args.number (sym c.requires.entry ∙ ap option_copied c.in_default.is)

pub returns-then-is_shut_by_barrier-clause-follows : goal.returns-then-is_shut_by_barrier-clause-follows
returns-then-is_shut_by_barrier-clause-follows g c =
    let G = g.G.Ground.stars_and_areas c.args.over.now in
    let B = c.args.barriers.now in
    let n = c.args.one.now.node in
    stays_shut G B c.args.mode c.args.found.now c.args.aways.now.items n c.args.number (shut_by_condition G B c.args.mode n c.in-Some.spot.now (sym c.requires.entry ∙ ap option_copied c.in-Some.is)
    (sym c.is_shut_by_barrier.ensures ∙ c.if-is_shut_by_barrier.true))

pub follow-requires-clause-opened : goal.follow-requires-clause-opened
follow-requires-clause-opened g c =
    let G = g.G.Ground.stars_and_areas c.args.over.now in
    let B = c.args.barriers.now in
    let n = c.args.one.now.node in
    is_open_by G B c.args.mode n c.in-Some.spot.now (sym c.requires.entry ∙ ap option_copied c.in-Some.is)
    (sym c.is_shut_by_barrier.ensures ∙ c.if-is_shut_by_barrier.false) (sym c.stop_at.ensures ∙ c.if-stop_at.false)
    (ap (λ b. B.consistent && b) (sym (dirty_here G c.args.site.now n c.requires.site c.requires.at) ∙ sym c.is_some.ensures) ∙ sym c.is_shut_by_dirt.ensures ∙ c.if-is_shut_by_dirt.false)
