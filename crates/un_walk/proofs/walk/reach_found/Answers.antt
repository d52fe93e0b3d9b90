use Rattle.std.proofs.Common.{◌≡◌, ◌⊎◌, ℕ, zero, suc, ◌<◌, ◌≤◌, pos, List, [], ◌∷◌, ◌++◌, length, get_or, take, take_all, option_to_list, Contains, inl, length-append, append-nil, add-one, refl, sym, ap, subst, subst₂, ◌∙◌, arith, rules}
use Rattle.un_defs.specs.declared.port.Node.{Node}
use Rattle.un_defs.specs.Orders.{node_cmp, rising}
use Rattle.un_defs.specs.Ground.{least_area_at}
use Rattle.un_defs.specs.Reach.{IsReach, leads}
use Rattle.un_defs.proofs.Members.{among_right, contains_from_among}
use Rattle.un_defs.proofs.Rising.{Among}
use Rattle.std.proofs.lemmas.Option.{slice_get_within}
use Rattle.un_walk.specs.declared.found.Found.{Found}
use Rattle.un_walk.specs.declared.traversal.Away.{Away}
use Rattle.un_walk.specs.Found.{nodes}
use Rattle.un_walk.specs.Growth.{GrowsBy, with_node}
use Rattle.un_walk.proofs.FoundOver.{with_longer}
use Rattle.un_walk.proofs.Growing.{taken, taken_kept, taken_last}
use Rattle.un_walk.proofs.Once.{node_in_order, node_from_order, count_in_order}
use Rattle.un_walk.proofs.Walked.{take_at}
use Rattle.un_walk.proofs.Walking.{IsWalking, with_is, walking_none, walking_visit, walking_away, walking_start, walking_traced, walking_reach}
use Rattle.un_walk.proofs.DirtMet.{IsDirtOf, dirt_step, dirt_moved, dirt_is}
use Rattle.un_walk.proofs.walk.reach_found.Goals as goal

-- what a read past the end would give
abbrev no_node : Node
no_node = record { port = record { feature = 0; number = 0 }; at = record { x = pos 0; y = pos 0; z = pos 0 } }

-- what is put at the end of a list changes none of those before
take_longer : (ns more : List Node) (k : ℕ) → k ≤ length ns → take k (ns ++ more) ≡ take k ns
take_longer ns more zero l = refl
take_longer [] more (suc k) l = absurd (omega (arith, l))
take_longer (m ∷ ns) more (suc k) l = ap (λ l. m ∷ l) (take_longer ns more k (omega (arith, l)))

take_with : (ns : List Node) (s : Node) (k : ℕ) → k ≡ length ns → take k (with_node ns s) ≡ take k ns
take_with ns s k all = let w = with_is ns s in ap (take k) w.1 ∙ take_longer ns w.0 k (omega (arith, all))

none_if_zero : {A : Type 0} (xs : List A) → length xs ≡ 0 → xs ≡ []
none_if_zero [] e = refl
none_if_zero (x ∷ xs) e = absurd (omega (arith, e))

pub loop-begun-init : goal.loop-begun-init
loop-begun-init g c = record {
  within = omega arith;
  left = omega arith;
  over = c.new-found.ensures.over (g.G.Ground.stars_and_areas c.args.over.now);
  walking = walking_none (g.G.Ground.stars_and_areas c.args.over.now) c.args.barriers.now c.args.mode c.new-found.result c.new-aways.result.items [] c.new-found.ensures.empty c.new-found.ensures.no_chords c.new-aways.ensures.items refl;
  dirt = search rules;
  rises = omega arith;
  counted = λ _. omega arith;
}

pub loop-begun-preserved-then-next-len-2 : goal.loop-begun-preserved-then-next-len-2
loop-begun-preserved-then-next-len-2 g c =
    let G = g.G.Ground.stars_and_areas c.args.over.now in
    let B = c.args.barriers.now in
    let starts : List Node = take c.loop-begun.begun c.args.starts.now in
    let k = c.loop-begun.next in
    let old : List Node = nodes c.loop-begun.found in
    let new : List Node = nodes c.visit.new.found in
    let n : Node = c.at.result.0.node in
    let grown : GrowsBy old new (leads G B c.args.mode n) = c.in_ok-visit.ensures.next in
    let walking : IsWalking G B c.args.mode starts c.visit.new.found c.visit.new.aways.items (suc k) =
    walking_visit G B c.args.mode starts c.loop-begun.found c.visit.new.found c.loop-begun.aways.items c.visit.new.aways.items k n grown c.at.ensures.node c.in_ok-visit.ensures.follows c.loop-begun.invariant.walking in
    let area : least_area_at G n.at ≡ c.at.result.1.area = ap (least_area_at G) (sym c.at.ensures.at) ∙ sym c.at.ensures.site.area in
    let done : take (suc k) new ≡ take k old ++ n ∷ [] = ap (take (suc k)) grown.is ∙ take_at old grown.more k n c.at.ensures.node in
    let dirt : IsDirtOf G (take (suc k) new) c.dirt_after-least.result =
    subst₂ (IsDirtOf G) (sym done) (sym c.dirt_after-least.ensures)
    (dirt_step G (take k old) n c.loop-begun.least c.at.result.1.area area c.loop-begun.invariant.dirt) in
    let inside : k < length old = slice_get_within old k n c.at.ensures.node in
    record {
      within = omega (arith, ap length grown.is, length-append old grown.more, inside);
      left = c.loop-begun.invariant.left;
      over = c.in_ok-visit.ensures.over;
      walking = subst (IsWalking G B c.args.mode starts c.visit.new.found c.visit.new.aways.items) (sym (add-one k)) walking;
      dirt = rw (add-one k) dirt;
      rises = omega (arith, c.loop-begun.invariant.rises, c.visit.ensures.never_falls);
      counted = λ once. omega (arith, c.loop-begun.invariant.counted once, c.in_ok-visit.ensures.once once);
    }

pub add_far-requires-clause-from : goal.add_far-requires-clause-from
add_far-requires-clause-from g c =
    let a : Away = c.in-Some.field-0 in
    let rest : List Away = c.pop.new.self.items in
    let last : c.loop-begun.aways.items ≡ rest ++ a ∷ [] = c.pop.ensures.items ∙ ap (λ o. rest ++ option_to_list o) c.in-Some.is in
    let pending = c.loop-begun.invariant.walking.pending a (subst (λ l. Contains l a) (sym last) (contains_from_among (rest ++ a ∷ []) a (among_right rest (a ∷ []) a (inl refl)))) in
    omega (arith, slice_get_within (nodes c.loop-begun.found) a.from pending.one pending.at)

pub loop-begun-preserved-in-Continue-branch-2 : goal.loop-begun-preserved-in-Continue-branch-2
loop-begun-preserved-in-Continue-branch-2 g c =
    let G = g.G.Ground.stars_and_areas c.args.over.now in
    let B = c.args.barriers.now in
    let starts : List Node = take c.loop-begun.begun c.args.starts.now in
    let k = c.loop-begun.next in
    let f : Found = c.loop-begun.found in
    let h : Found = c.add_far.new.self in
    let a : Away = c.in-Some.field-0 in
    let rest : List Away = c.pop.new.self.items in
    let last : c.loop-begun.aways.items ≡ rest ++ a ∷ [] = c.pop.ensures.items ∙ ap (λ o. rest ++ option_to_list o) c.in-Some.is in
    let passed : k ≡ length (nodes f) = omega (arith, c.if-next-len-2.false, c.len-in-loop-begun.ensures, c.loop-begun.invariant.within) in
    let nodes_are : nodes h ≡ with_node (nodes f) a.to = c.in_ok-add_far.ensures.nodes in
    let long : length (nodes f) ≤ length (with_node (nodes f) a.to) = with_longer (nodes f) a.to in
    record {
      within = omega (arith, passed, long, ap length nodes_are);
      left = c.loop-begun.invariant.left;
      over = c.in_ok-add_far.ensures.over;
      walking = walking_away G B c.args.mode starts f h a c.loop-begun.aways.items rest k last passed nodes_are c.in_ok-add_far.ensures.over.distinct c.in_ok-add_far.ensures.adds c.loop-begun.invariant.walking;
      dirt = subst (λ ns. IsDirtOf G ns c.loop-begun.least) (sym (ap (take k) nodes_are ∙ take_with (nodes f) a.to k passed)) c.loop-begun.invariant.dirt;
      rises = omega (arith, c.loop-begun.invariant.rises, c.add_far.ensures.never_falls);
      counted = λ once. omega (arith, c.loop-begun.invariant.counted once, c.in_ok-add_far.ensures.once);
    }

pub loop-begun-preserved : goal.loop-begun-preserved
loop-begun-preserved g c =
    let G = g.G.Ground.stars_and_areas c.args.over.now in
    let B = c.args.barriers.now in
    let starts : List Node = c.args.starts.now in
    let k = c.loop-begun.next in
    let j = c.loop-begun.begun in
    let f : Found = c.loop-begun.found in
    let h : Found = c.add_far-in_default.new.self in
    let s : Node = get_or starts j no_node in
    let rest : List Away = c.pop.new.self.items in
    let same : c.loop-begun.aways.items ≡ rest = c.pop.ensures.items ∙ ap (λ o. rest ++ option_to_list o) c.in_default.is ∙ append-nil rest in
    let none : rest ≡ [] = none_if_zero rest (search rules) in
    let passed : k ≡ length (nodes f) = omega (arith, c.if-next-len-2.false, c.len-in-loop-begun.ensures, c.loop-begun.invariant.within) in
    let inside : j < length starts = search rules in
    let kept : (n : Node) → Among (take j starts) n → Among (take (suc j) starts) n = taken_kept starts j in
    let there : Among (take (suc j) starts) s = taken_last starts j no_node inside in
    let cases : (n : Node) → Among (take (suc j) starts) n → Among (take j starts) n ⊎ (n ≡ s) = taken starts j no_node in
    let nodes_are : nodes h ≡ with_node (nodes f) s = c.in_ok-add_far-2.ensures.nodes in
    let long : length (nodes f) ≤ length (with_node (nodes f) s) = with_longer (nodes f) s in
    let walking : IsWalking G B c.args.mode (take (suc j) starts) h rest k =
    walking_start G B c.args.mode (take j starts) f h (take (suc j) starts) s rest k none passed nodes_are c.in_ok-add_far-2.ensures.over.distinct c.in_ok-add_far-2.ensures.adds
    kept cases there (subst (λ l. IsWalking G B c.args.mode (take j starts) f l k) same c.loop-begun.invariant.walking) in
    record {
      within = omega (arith, passed, long, ap length nodes_are);
      left = omega (arith, inside);
      over = c.in_ok-add_far-2.ensures.over;
      walking = subst (λ i. IsWalking G B c.args.mode (take i starts) h rest k) (sym (add-one j)) walking;
      dirt = subst (λ ns. IsDirtOf G ns c.loop-begun.least) (sym (ap (take k) nodes_are ∙ take_with (nodes f) s k passed)) c.loop-begun.invariant.dirt;
      rises = omega (arith, c.loop-begun.invariant.rises, c.add_far-in_default.ensures.never_falls);
      counted = λ once. omega (arith, c.loop-begun.invariant.counted once, c.in_ok-add_far-2.ensures.once);
    }

pub returns-clause-nodes : goal.returns-clause-nodes
returns-clause-nodes g c =
    let G = g.G.Ground.stars_and_areas c.args.over.now in
    let B = c.args.barriers.now in
    let f : Found = c.loop-begun.found in
    let far : length (nodes f) ≤ c.loop-begun.next = search rules in
    let none : c.loop-begun.aways.items ≡ [] = none_if_zero c.loop-begun.aways.items (search rules) in
    let begun : take c.loop-begun.begun c.args.starts.now ≡ c.args.starts.now = take_all c.loop-begun.begun c.args.starts.now (search rules) in
    subst (λ ss. IsReach (leads G B c.args.mode) ss (rising node_cmp (nodes f))) begun
    (walking_reach G B c.args.mode (take c.loop-begun.begun c.args.starts.now) f c.loop-begun.aways.items c.loop-begun.next none (omega (arith, far, c.loop-begun.invariant.within)) c.loop-begun.invariant.walking)

pub returns-clause-traced : goal.returns-clause-traced
returns-clause-traced g c =
    let G = g.G.Ground.stars_and_areas c.args.over.now in
    let B = c.args.barriers.now in
    let f : Found = c.loop-begun.found in
    let far : length (nodes f) ≤ c.loop-begun.next = search rules in
    let none : c.loop-begun.aways.items ≡ [] = none_if_zero c.loop-begun.aways.items (search rules) in
    walking_traced G B c.args.mode (take c.loop-begun.begun c.args.starts.now) f c.loop-begun.aways.items c.loop-begun.next none (omega (arith, far, c.loop-begun.invariant.within)) c.loop-begun.invariant.walking

pub returns-clause-dirt : goal.returns-clause-dirt
returns-clause-dirt g c =
    let G = g.G.Ground.stars_and_areas c.args.over.now in
    let ns : List Node = nodes c.loop-begun.found in
    let out : List Node = rising node_cmp ns in
    let all : take c.loop-begun.next ns ≡ ns = take_all c.loop-begun.next ns (search rules) in
    dirt_is G (g.met.G.Ground.numbered c.args.over.now) out c.loop-begun.least
    (dirt_moved G ns out (node_in_order ns) (node_from_order ns) c.loop-begun.least (subst (λ l. IsDirtOf G l c.loop-begun.least) all c.loop-begun.invariant.dirt))

pub returns-clause-ticks : goal.returns-clause-ticks
returns-clause-ticks g c = λ once.
    omega (arith, c.loop-begun.invariant.counted once, count_in_order (nodes c.loop-begun.found) c.loop-begun.invariant.over.distinct)
