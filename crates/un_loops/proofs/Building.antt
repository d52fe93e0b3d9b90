-- The graph of the links between open nodes, while it is made and in the end.
use Rattle.std.proofs.Common.{◌≡◌, ℕ, ◌+◌, ◌<◌, ◌≤◌, inl, inr, Bool, true, false, not, ◌&&◌, cond, [], length, get_or, Option, None, Some, IsSome, refl, sym, ap, subst, ◌∙◌, true≢false, rules, arith}
use Rattle.std.specs.Prelude.{slice_get, Contains}
use Rattle.std.specs.Option.{option_map_or, option_copied}
use Rattle.std.proofs.lemmas.Bool.{cases_eq, cases_lt}
use Rattle.std.proofs.lemmas.Option.{slice_get-get_or, slice_get_within, get_or_from_slice_get}
use Rattle.un_defs.specs.declared.link.LinkName.{LinkName}
use Rattle.un_defs.specs.declared.link.Tie.{Tie}
use Rattle.un_defs.specs.declared.star.Spot.{Spot}
use Rattle.un_defs.specs.declared.walk.Mode.TheVariants.{Any}
use Rattle.un_defs.specs.declared.walk.Barriers.{Barriers}
use Rattle.un_defs.specs.Ground.{Ground, entry, is_dirty}
use Rattle.un_defs.specs.Reach.{is_barrier}
use Rattle.un_defs.proofs.LinkCases.{some_same, both_true}
use Rattle.un_defs.proofs.Members.{among_from_contains}
use Rattle.un_walk.specs.declared.found.Chord.{Chord}
use Rattle.un_walk.specs.declared.found.Found.{Found}
use Rattle.un_walk.specs.Found.{nodes}
use Rattle.un_walk.specs.Traced.{chords, GoesBy, IsOrigin, IsStart, IsTraced}
use Rattle.un_loops.specs.declared.link.Link.{Link}
use Rattle.un_loops.specs.declared.graph.Parent.{Parent}
use Rattle.un_loops.specs.declared.graph.Graph.{Graph}
use Rattle.un_loops.specs.Forest.{parent_at, IsParentLink}
use Rattle.un_loops.specs.Network.{is_passable, IsJoined, AreWellLinked, IsNetwork, root_by, IsGraphOver, AddsLink, AddsChild, AddsRoot, IsTaken, AddsChordLink}
use Rattle.un_loops.proofs.OverGround.{passable_at}
use Rattle.un_loops.proofs.Pushing.{contains_at, pushed_before, pushed_old, pushed_new, pushed_cases, pushed_count, pushed_has, pushed_last}

abbrev no_parent : Option Parent
no_parent = None

cond_same : (b : Bool) (x y : ℕ) → x ≡ y → cond b x y ≡ y
cond_same true x y e = e
cond_same false x y e = refl

has_entry : (o : Option Spot) (t : Tie) → Contains (option_map_or (λ s. s.ties) o []) t → IsSome o
has_entry None t h = absurd (among_from_contains [] t h)
has_entry (Some s) t h = search rules

-- a place is found by one link, or it is a start
one_origin : (f : Found) (p q r : ℕ) (t u : Tie) → IsOrigin f p r t → IsOrigin f q r u → t ≡ u
one_origin f p q r t u o h =
    let same : o.item ≡ h.item = some_same o.item h.item (sym o.at ∙ h.at) in
    some_same t u (sym o.via ∙ (λ i. option_copied (same i).via) ∙ h.via)

start_or_origin : (f : Found) (p q : ℕ) (t : Tie) → IsStart f q → IsOrigin f p q t → ⊥
start_or_origin f p q t s o =
    let same : s.item ≡ o.item = some_same s.item o.item (sym s.at ∙ o.at) in
    let both : None ≡ Some t = sym s.via ∙ (λ i. option_copied (same i).via) ∙ o.via in
    cc

module _ (G : Ground) (B : Barriers) (f : Found) where
  abbrev passes : ℕ → Bool
  passes = is_passable G B (nodes f)

  -- a walk goes on from places that are passable
  from_passable : (p q : ℕ) (t : Tie) → GoesBy G B Any (nodes f) p q t → passes p ≡ true
  from_passable p q t g =
      passable_at G B (nodes f) p g.one g.at_one
      ∙ (both_true (not (is_barrier G B g.one)) (not (B.consistent && is_dirty G g.one.at)) g.opened).0

  end_within : (p q : ℕ) (t : Tie) → GoesBy G B Any (nodes f) p q t → q < length (nodes f)
  end_within p q t g = slice_get_within (nodes f) q g.other g.at_other

  same_root_by : (root : ℕ → ℕ) (p q : ℕ) → passes p ≡ true → passes q ≡ true → root p ≡ root q → root_by G B (nodes f) root p ≡ root_by G B (nodes f) root q
  same_root_by root p q one other e = ap (λ b. cond b (root p) p) one ∙ e ∙ sym (ap (λ b. cond b (root q) q) other)

  joined_by : (p q : ℕ) (t : Tie) → GoesBy G B Any (nodes f) p q t → passes q ≡ true → IsJoined G B (nodes f) t.name p q
  joined_by p q t goes passable = record { tie = t; named = refl; goes = goes; passable = passable }

  pub empty_graph : (g : Graph) → IsTraced G B Any f → g.links.items ≡ [] → g.names ≡ [] → g.parents.items ≡ [] → g.opened.items ≡ [] → IsGraphOver G B f g 0
  empty_graph g traced links names parents opened = record {
    traced = traced;
    count = ap length parents;
    names = ap length names ∙ sym (ap length links);
    opened = λ v b at. let none : None ≡ Some b = sym (ap (λ l. slice_get l v) opened) ∙ at in absurd (cc);
    all_opened = ap length opened;
    sound = λ j l at. let none : None ≡ Some l = sym (ap (λ l. slice_get l j) links) ∙ at in absurd (cc);
    parent = λ v u at. let none : None ≡ Some (Some u) = sym (ap (λ l. slice_get l v) parents) ∙ at in absurd (cc);
    top = λ v at. let none : None ≡ Some no_parent = sym (ap (λ l. slice_get l v) parents) ∙ at in absurd (cc);
    own = λ v u j l x up at from to one two. let none : None ≡ Some l = sym (ap (λ l. slice_get l j) links) ∙ at in absurd (cc);
    origins = λ p q t low. absurd (omega arith);
  }

  -- ---- one place more

  module _ (old new : Graph) (k : ℕ) (h : IsGraphOver G B f old k) where
    pub child : passes k ≡ true → AddsChild f old new k → IsGraphOver G B f new (k + 1)
    child passable a =
        let p = a.place in
        let t = a.tie in
        let u : Parent = record { place = p; link = length old.links.items } in
        let m : Link = record { a = p; b = k } in
        let way = h.traced.origins p k t a.origin in
        let low : p < k = way.0 in
        let link_cases = pushed_cases old.links.items new.links.items m a.adds.links in
        let parent_cases = pushed_cases old.parents.items new.parents.items (Some u) a.parents in
        let name_old = pushed_old old.names new.names t.name a.adds.names in
        let name_before = pushed_before old.names new.names t.name a.adds.names in
        record {
          traced = h.traced;
          count = omega (arith, pushed_count old.parents.items new.parents.items (Some u) a.parents, h.count);
          names = omega (arith, pushed_count old.names new.names t.name a.adds.names, pushed_count old.links.items new.links.items m a.adds.links, h.names);
          opened = λ v b at. elim (pushed_cases old.opened.items new.opened.items true a.opened v b at) [
            | inl before ↦ h.opened v b before
            | inr last ↦ ap passes (last.0 ∙ h.all_opened) ∙ passable ∙ last.1
          ];
          all_opened = omega (arith, pushed_count old.opened.items new.opened.items true a.opened, h.all_opened);
          sound = λ j l at. elim (link_cases j l at) [
            | inl before ↦ let s = h.sound j l before in (s.0, omega (arith, s.1), s.2, (s.3.0, name_old j s.3.0 s.3.1, s.3.2))
            | inr last ↦ subst (λ (n : Link). (n.a ≤ n.b) × (n.b < k + 1) × (root_by G B (nodes f) h.traced.root n.a ≡ root_by G B (nodes f) h.traced.root n.b)
                × ((x : LinkName) × (slice_get new.names j ≡ Some x) × IsJoined G B (nodes f) x n.a n.b)) last.1 (
                  omega (arith, low),
                  omega arith,
                  same_root_by h.traced.root p k (from_passable p k t way.2) passable way.1,
                  (t.name, ap (slice_get new.names) (last.0 ∙ sym h.names) ∙ pushed_new old.names new.names t.name a.adds.names, joined_by p k t way.2 passable),
                )
          ];
          parent = λ v w at. elim (parent_cases v (Some w) at) [
            | inl before ↦ let s = h.parent v w before in (s.0, pushed_old old.links.items new.links.items m a.adds.links w.link (record { a = w.place; b = v }) s.1)
            | inr last ↦
                let here : v ≡ k = last.0 ∙ h.count in
                let same : u ≡ w = some_same u w last.1 in
                subst (λ (z : Parent). (z.place < v) × (slice_get new.links.items z.link ≡ Some (record { a = z.place; b = v }))) same (
                  omega (arith, low, here),
                  pushed_new old.links.items new.links.items m a.adds.links ∙ ap (λ n. Some (record { a = p; b = n })) (sym here),
                )
          ];
          top = λ v at. elim (parent_cases v None at) [
            | inl before ↦ h.top v before
            | inr last ↦ absurd (let both : Some u ≡ None = last.1 in cc)
          ];
          own = λ v w j l x up at from to one two. elim (parent_cases v (Some w) up) [
            | inl before ↦
                let s = h.parent v w before in
                let w_in = slice_get_within old.links.items w.link (record { a = w.place; b = v }) s.1 in
                let below : v < k = omega (arith, slice_get_within old.parents.items v (Some w) before, h.count) in
                elim (link_cases j l at) [
                  | inl at_old ↦
                      h.own v w j l x before at_old from to (name_before w.link x (omega (arith, w_in, h.names)) one)
                      (name_before j x (omega (arith, slice_get_within old.links.items j l at_old, h.names)) two)
                  | inr last ↦ let there : k ≡ l.b = ap (λ (n : Link). n.b) last.1 in absurd (omega (arith, there, to, below))
                ]
            | inr last ↦
                let here : v ≡ k = last.0 ∙ h.count in
                let same : u ≡ w = some_same u w last.1 in
                elim (link_cases j l at) [
                  | inl at_old ↦ let low_end = (h.sound j l at_old).1 in absurd (omega (arith, low_end, to, here))
                  | inr at_last ↦ at_last.0 ∙ ap (λ (z : Parent). z.link) same
                ]
          ];
          origins = λ r q v low_q origin passable_q. elim (cases_eq q k) [
            | inl same ↦
                let one : t ≡ v = one_origin f p r k t v a.origin (subst (λ n. IsOrigin f r n v) same origin) in
                subst (Contains new.names) (ap (λ (z : Tie). z.name) one) (pushed_last old.names new.names t.name a.adds.names)
            | inr other ↦ pushed_has old.names new.names t.name a.adds.names v.name (h.origins r q v (omega (arith, low_q, other)) origin passable_q)
          ];
        }

    pub root_place : (b : Bool) → passes k ≡ b → AddsRoot f old new k b → IsGraphOver G B f new (k + 1)
    root_place b is a =
        let link_old : (j : ℕ) (l : Link) → slice_get new.links.items j ≡ Some l → slice_get old.links.items j ≡ Some l = λ j l at. ap (λ ls. slice_get ls j) (sym a.links) ∙ at in
        let name_old : (j : ℕ) (x : LinkName) → slice_get new.names j ≡ Some x → slice_get old.names j ≡ Some x = λ j x at. ap (λ xs. slice_get xs j) (sym a.names) ∙ at in
        let parent_cases = pushed_cases old.parents.items new.parents.items None a.parents in
        record {
          traced = h.traced;
          count = omega (arith, pushed_count old.parents.items new.parents.items None a.parents, h.count);
          names = ap length a.names ∙ h.names ∙ sym (ap length a.links);
          opened = λ v c at. elim (pushed_cases old.opened.items new.opened.items b a.opened v c at) [
            | inl before ↦ h.opened v c before
            | inr last ↦ ap passes (last.0 ∙ h.all_opened) ∙ is ∙ last.1
          ];
          all_opened = omega (arith, pushed_count old.opened.items new.opened.items b a.opened, h.all_opened);
          sound = λ j l at. let s = h.sound j l (link_old j l at) in (s.0, omega (arith, s.1), s.2, (s.3.0, ap (λ xs. slice_get xs j) a.names ∙ s.3.1, s.3.2));
          parent = λ v w at. elim (parent_cases v (Some w) at) [
            | inl before ↦ let s = h.parent v w before in (s.0, ap (λ ls. slice_get ls w.link) a.links ∙ s.1)
            | inr last ↦ absurd (let both : None ≡ Some w = last.1 in cc)
          ];
          top = λ v at. elim (parent_cases v None at) [
            | inl before ↦ h.top v before
            | inr last ↦ subst (λ n. root_by G B (nodes f) h.traced.root n ≡ n) (sym (last.0 ∙ h.count)) (elim a.why [
              | inl off ↦ ap (λ c. cond c (h.traced.root k) k) (is ∙ off)
              | inr start ↦ cond_same (passes k) (h.traced.root k) k (h.traced.starts k start)
            ])
          ];
          own = λ v w j l x up at from to one two. elim (parent_cases v (Some w) up) [
            | inl before ↦ h.own v w j l x before (link_old j l at) from to (name_old w.link x one) (name_old j x two)
            | inr last ↦ absurd (let both : None ≡ Some w = last.1 in cc)
          ];
          origins = λ r q v low_q origin passable_q. elim (cases_eq q k) [
            | inl same ↦ elim a.why [
              | inl off ↦ absurd (true≢false (sym passable_q ∙ ap passes same ∙ is ∙ off))
              | inr start ↦ absurd (start_or_origin f r k v start (subst (λ n. IsOrigin f r n v) same origin))
            ]
            | inr other ↦ subst (λ xs. Contains xs v.name) (sym a.names) (h.origins r q v (omega (arith, low_q, other)) origin passable_q)
          ];
        }

    -- ---- one chord more

    parents_within : (v : ℕ) (w : Parent) → slice_get old.parents.items v ≡ Some (Some w) → w.link < length old.names
    parents_within v w up = omega (arith, slice_get_within old.links.items w.link (record { a = w.place; b = v }) (h.parent v w up).1, h.names)

    -- the parent link of a place has a name
    pub link_within : (v : ℕ) (w : Parent) → v < k → parent_at old.parents.items v ≡ Some w → w.link < length old.names
    link_within v w low up = parents_within v w (slice_get-get_or old.parents.items v no_parent (omega (arith, low, h.count)) ∙ ap Some up)

    module _ (c : Chord) (stands : Contains (chords f) c) (all : k ≡ length (nodes f)) where
      abbrev called : LinkName
      called = c.tie.now.name

      goes : GoesBy G B Any (nodes f) c.from c.to c.tie.now
      goes = (h.traced.chords c stands).2

      pub end_inside : c.to < k
      end_inside = omega (arith, end_within c.from c.to c.tie.now goes, all)

      chord_taken : IsTaken old c → AddsLink old new (record { a = c.from; b = c.to }) called → new.parents.items ≡ old.parents.items → new.opened.items ≡ old.opened.items → IsGraphOver G B f new k
      chord_taken taken a parents opened =
          let m : Link = record { a = c.from; b = c.to } in
          let passable : passes c.to ≡ true = h.opened c.to true taken.opened in
          let link_cases = pushed_cases old.links.items new.links.items m a.links in
          let name_old = pushed_old old.names new.names called a.names in
          let name_before = pushed_before old.names new.names called a.names in
          let parent_old : (v : ℕ) (o : Option Parent) → slice_get new.parents.items v ≡ Some o → slice_get old.parents.items v ≡ Some o = λ v o at. ap (λ ps. slice_get ps v) (sym parents) ∙ at in
          record {
            traced = h.traced;
            count = ap length parents ∙ h.count;
            names = omega (arith, pushed_count old.names new.names called a.names, pushed_count old.links.items new.links.items m a.links, h.names);
            opened = λ v b at. h.opened v b (ap (λ bs. slice_get bs v) (sym opened) ∙ at);
            all_opened = ap length opened ∙ h.all_opened;
            sound = λ j l at. elim (link_cases j l at) [
              | inl before ↦ let s = h.sound j l before in (s.0, s.1, s.2, (s.3.0, name_old j s.3.0 s.3.1, s.3.2))
              | inr last ↦ subst (λ (n : Link). (n.a ≤ n.b) × (n.b < k) × (root_by G B (nodes f) h.traced.root n.a ≡ root_by G B (nodes f) h.traced.root n.b)
                  × ((x : LinkName) × (slice_get new.names j ≡ Some x) × IsJoined G B (nodes f) x n.a n.b)) last.1 (
                    (h.traced.chords c stands).0,
                    end_inside,
                    same_root_by h.traced.root c.from c.to (from_passable c.from c.to c.tie.now goes) passable (h.traced.chords c stands).1,
                    (called, ap (slice_get new.names) (last.0 ∙ sym h.names) ∙ pushed_new old.names new.names called a.names, joined_by c.from c.to c.tie.now goes passable),
                  )
            ];
            parent = λ v w at. let s = h.parent v w (parent_old v (Some w) at) in (s.0, pushed_old old.links.items new.links.items m a.links w.link (record { a = w.place; b = v }) s.1);
            top = λ v at. h.top v (parent_old v None at);
            own = λ v w j l x up at from to one two.
                let before = parent_old v (Some w) up in
                let named : slice_get old.names w.link ≡ Some x = name_before w.link x (parents_within v w before) one in
                elim (link_cases j l at) [
                  | inl at_old ↦ h.own v w j l x before at_old from to named (name_before j x (omega (arith, slice_get_within old.links.items j l at_old, h.names)) two)
                  | inr last ↦
                      let ends : c.to ≡ v = ap (λ (n : Link). n.b) last.1 ∙ to in
                      let same : called ≡ x = some_same called x (sym (pushed_new old.names new.names called a.names) ∙ ap (slice_get new.names) (h.names ∙ sym last.0) ∙ two) in
                      absurd (taken.other (record {
                        parent = w;
                        at = get_or_from_slice_get old.parents.items c.to (Some w) no_parent (ap (slice_get old.parents.items) ends ∙ before);
                        from = sym from ∙ sym (ap (λ (n : Link). n.a) last.1);
                        named = named ∙ ap Some (sym same);
                      }))
                ];
            origins = λ p q t low origin passable_q. pushed_has old.names new.names called a.names t.name (h.origins p q t low origin passable_q);
          }

      chord_left_out : new.links.items ≡ old.links.items → new.names ≡ old.names → new.parents.items ≡ old.parents.items → new.opened.items ≡ old.opened.items → IsGraphOver G B f new k
      chord_left_out links names parents opened =
          let link_old : (j : ℕ) (l : Link) → slice_get new.links.items j ≡ Some l → slice_get old.links.items j ≡ Some l = λ j l at. ap (λ ls. slice_get ls j) (sym links) ∙ at in
          let name_old : (j : ℕ) (x : LinkName) → slice_get new.names j ≡ Some x → slice_get old.names j ≡ Some x = λ j x at. ap (λ xs. slice_get xs j) (sym names) ∙ at in
          let parent_old : (v : ℕ) (o : Option Parent) → slice_get new.parents.items v ≡ Some o → slice_get old.parents.items v ≡ Some o = λ v o at. ap (λ ps. slice_get ps v) (sym parents) ∙ at in
          record {
            traced = h.traced;
            count = ap length parents ∙ h.count;
            names = ap length names ∙ h.names ∙ sym (ap length links);
            opened = λ v b at. h.opened v b (ap (λ bs. slice_get bs v) (sym opened) ∙ at);
            all_opened = ap length opened ∙ h.all_opened;
            sound = λ j l at. let s = h.sound j l (link_old j l at) in (s.0, s.1, s.2, (s.3.0, ap (λ xs. slice_get xs j) names ∙ s.3.1, s.3.2));
            parent = λ v w at. let s = h.parent v w (parent_old v (Some w) at) in (s.0, ap (λ ls. slice_get ls w.link) links ∙ s.1);
            top = λ v at. h.top v (parent_old v None at);
            own = λ v w j l x up at from to one two. h.own v w j l x (parent_old v (Some w) up) (link_old j l at) from to (name_old w.link x one) (name_old j x two);
            origins = λ p q t low origin passable_q. subst (λ xs. Contains xs t.name) (sym names) (h.origins p q t low origin passable_q);
          }

      pub chord : AddsChordLink old new c → IsGraphOver G B f new k
      chord a = elim a.adds [
        | inl adds ↦ chord_taken adds.0 adds.1 a.parents a.opened
        | inr left ↦ chord_left_out left.1 left.2 a.parents a.opened
      ]

      -- the chord's name is there then, where it leads to an open node
      pub has_chord : AddsChordLink old new c → passes c.to ≡ true → Contains new.names called
      has_chord a passable = elim a.adds [
        | inl adds ↦ pushed_last old.names new.names called adds.1.names
        | inr left ↦
            let b : Bool = get_or old.opened.items c.to false in
            let at : slice_get old.opened.items c.to ≡ Some b = slice_get-get_or old.opened.items c.to false (omega (arith, end_inside, h.all_opened)) in
            let on : b ≡ true = sym (h.opened c.to b at) ∙ passable in
            let parent = left.0 (at ∙ ap Some on) in
            subst (λ xs. Contains xs called) (sym left.2) (contains_at old.names parent.parent.link called parent.named)
      ]

  pub keeps_names : (old new : Graph) (c : Chord) → AddsChordLink old new c → (x : LinkName) → Contains old.names x → Contains new.names x
  keeps_names old new c a x has = elim a.adds [
    | inl adds ↦ pushed_has old.names new.names c.tie.now.name adds.1.names x has
    | inr left ↦ subst (λ xs. Contains xs x) (sym left.2) has
  ]

  -- ---- all chords

  module _ (g : Graph) (h : IsGraphOver G B f g (length (nodes f))) (linked : AreWellLinked G B (nodes f))
      (done : (i : ℕ) (c : Chord) → slice_get (chords f) i ≡ Some c → passes c.to ≡ true → Contains g.names c.tie.now.name) where
    -- a link to the same or a later place, which has an entry since it has the link too
    whole_up : (x : LinkName) (i j : ℕ) → IsJoined G B (nodes f) x i j → IsJoined G B (nodes f) x j i → i ≤ j → Contains g.names x
    whole_up x i j is back up =
        let go = is.goes in
        let same : back.goes.one ≡ go.other = some_same back.goes.one go.other (sym back.goes.at_one ∙ go.at_other) in
        let known : IsSome (entry G go.other) = subst (λ n. IsSome (entry G n)) same (has_entry (entry G back.goes.one) back.tie back.goes.stands) in
        let inside : i < length (nodes f) = slice_get_within (nodes f) i go.one go.at_one in
        subst (Contains g.names) is.named (elim (h.traced.whole i j is.tie inside up go known) [
          | inl origin ↦ h.origins i j is.tie (end_within i j is.tie go) origin is.passable
          | inr is_chord ↦
              let c : Chord = is_chord.chord in
              let place : ℕ = is_chord.stands.0 in
              let at : slice_get (chords f) place ≡ Some c = slice_get-get_or (chords f) place c is_chord.stands.1 ∙ ap Some is_chord.stands.2 in
              subst (λ (t : Tie). Contains g.names t.name) is_chord.tie
              (done place c at (ap passes is_chord.to ∙ is.passable))
        ])

    whole : (x : LinkName) (i j : ℕ) → IsJoined G B (nodes f) x i j → Contains g.names x
    whole x i j is = elim (cases_lt j i) [
      | inl low ↦ whole_up x j i (linked.mutual_links x i j is) is (omega (arith, low))
      | inr high ↦ whole_up x i j is (linked.mutual_links x i j is) (omega (arith, high))
    ]

    abbrev root : ℕ → ℕ
    root = root_by G B (nodes f) h.traced.root

    parent_is : (v : ℕ) (u : Parent) → v < length g.parents.items → parent_at g.parents.items v ≡ Some u → slice_get g.parents.items v ≡ Some (Some u)
    parent_is v u low up = slice_get-get_or g.parents.items v no_parent low ∙ ap Some up

    -- no other link has the name of a parent link
    apart : (j k : ℕ) (x : LinkName) → IsParentLink g.parents.items j → slice_get g.names j ≡ Some x → slice_get g.names k ≡ Some x → j ≡ k
    apart j k x (v, u, low, up, is) one two =
        let before = parent_is v u low up in
        let way = h.parent v u before in
        let lower : u.place < v = way.0 in
        let m : Link = record { a = u.place; b = v } in
        let own = (h.sound u.link m way.1).3 in
        let named : slice_get g.names u.link ≡ Some x = ap (slice_get g.names) is ∙ one in
        let first : IsJoined G B (nodes f) x u.place v = subst (λ y. IsJoined G B (nodes f) y u.place v) (some_same own.0 x (sym own.1 ∙ named)) own.2 in
        let l : Link = get_or g.links.items k (record { a = 0; b = 0 }) in
        let at : slice_get g.links.items k ≡ Some l = slice_get-get_or g.links.items k (record { a = 0; b = 0 }) (omega (arith, slice_get_within g.names k x two, h.names)) in
        let other = h.sound k l at in
        let second : IsJoined G B (nodes f) x l.a l.b = subst (λ y. IsJoined G B (nodes f) y l.a l.b) (some_same other.3.0 x (sym other.3.1 ∙ two)) other.3.2 in
        elim (linked.one_pair x u.place v l.a l.b first second) [
          | inl e ↦ let same : k ≡ u.link = h.own v u k l x before at (sym e.0) (sym e.1) named two in sym is ∙ sym same
          | inr e ↦ absurd (omega (arith, lower, other.0, e.0, e.1))
        ]

    pub network : IsNetwork (IsJoined G B (nodes f)) g.links.items g.names g.parents.items
    network = record {
      forest = record {
        root = root;
        parent = λ v u low up.
            let way = h.parent v u (parent_is v u low up) in
            (way.0, (record { a = u.place; b = v }, way.1, inr (refl, refl)), (h.sound u.link (record { a = u.place; b = v }) way.1).2);
        top = λ v low up. h.top v (slice_get-get_or g.parents.items v no_parent low ∙ ap Some up);
        ends = λ j l at. let s = h.sound j l at in (omega (arith, s.0, s.1, h.count), omega (arith, s.1, h.count), s.2);
      };
      count = h.names;
      sound = λ j l at. (h.sound j l at).3;
      whole = whole;
      apart = apart;
    }
