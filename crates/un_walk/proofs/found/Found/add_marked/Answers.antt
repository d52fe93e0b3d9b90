use Rattle.std.proofs.Common.{◌≡◌, ◌∙◌, ℕ, zero, suc, ◌+◌, ◌-◌, ◌≤◌, Result, Ok, Err, OnOk, SomeIff, inr, refl, sym, ap, subst, arith}
use Rattle.un_defs.specs.declared.port.Node.{Node}
use Rattle.un_defs.specs.Ground.{Ground}
use Rattle.un_walk.specs.declared.found.Found.{Found}
use Rattle.un_walk.specs.Seen.{nodes_of}
use Rattle.un_walk.specs.Visits.{IsMarkedAt, WasMarkedAt}
use Rattle.un_walk.specs.Found.{seens_of, nodes}
use Rattle.un_walk.proofs.FoundOver.{marked_inside, marked_node, marked_new, marked_twice, marked_place, nodes_end_items, same_found, with_new, with_old}
use Rattle.un_walk.proofs.found.Found.add_marked.Goals as goal
use Rattle.un_walk.proofs.found.Found.add_marked.Goals.{In-Some, In-None}

on_ok : {T E : Type 0} (r : Result T E) (P Q : Type 0) → (P → Q) → OnOk r P → OnOk r Q
on_ok (Ok x) P Q f h = f h
on_ok (Err e) P Q f h = h

always : {T E : Type 0} (r : Result T E) (P : Type 0) → P → OnOk r P
always (Ok x) P h = h
always (Err e) P h = tt

is_none : (k : ℕ) → (1 ≤ k → ⊥) → k ≡ 0
is_none zero h = refl
is_none (suc k) h = absurd (h (omega arith))

pub put_mark-old-requires : goal.put_mark-old-requires
put_mark-old-requires g c =
    marked_inside (g.G.Ground.stars_and_areas c.args._over.now) c.args.self.now c.requires.over c.args.item.seen.node c.args.item.number c.args.place c.requires.item.number c.requires.place

pub returns-in-Some-clause-over : goal.returns-in-Some-clause-over
returns-in-Some-clause-over g c =
    let f : Found = c.args.self.now in
    let facts = subst (λ o. SomeIff o (1 ≤ c.put_mark-old.result) (c.put_mark-old.result - 1)) c.in-Some.is c.checked_sub.ensures in
    let visited : c.add_chord.new.self.visited ≡ f.visited = c.add_chord.ensures.visited ∙ (c.put_mark-old.ensures.old facts.0).0 in
    always c.add_chord.result _
    (same_found (g.G.Ground.stars_and_areas c.args._over.now) f c.add_chord.new.self c.requires.over c.add_chord.ensures.points visited c.add_chord.ensures.strays (ap (λ v. v.items) c.add_chord.ensures.items))

pub returns-in-Some-clause-nodes : goal.returns-in-Some-clause-nodes
returns-in-Some-clause-nodes g c =
    let G : Ground = g.G.Ground.stars_and_areas c.args._over.now in
    let f : Found = c.args.self.now in
    let n : Node = c.args.item.seen.node in
    let facts = subst (λ o. SomeIff o (1 ≤ c.put_mark-old.result) (c.put_mark-old.result - 1)) c.in-Some.is c.checked_sub.ensures in
    let was : WasMarkedAt f.visited c.args.item.number c.args.place (c.in-Some.there + 1) =
    subst (WasMarkedAt f.visited c.args.item.number c.args.place) (omega (arith, facts.0, facts.1)) (c.put_mark-old.ensures.old facts.0).1 in
    always c.add_chord.result _
    (ap (λ v. nodes_of (seens_of v.items)) c.add_chord.ensures.items
    ∙ sym (with_old (nodes f) n (marked_twice G f c.requires.over n c.args.item.number c.args.place c.in-Some.there c.requires.item.number c.requires.place was)))

pub returns-in-Some-clause-adds : goal.returns-in-Some-clause-adds
returns-in-Some-clause-adds g c =
    let G : Ground = g.G.Ground.stars_and_areas c.args._over.now in
    let f : Found = c.args.self.now in
    let n : Node = c.args.item.seen.node in
    let facts = subst (λ o. SomeIff o (1 ≤ c.put_mark-old.result) (c.put_mark-old.result - 1)) c.in-Some.is c.checked_sub.ensures in
    let was : WasMarkedAt f.visited c.args.item.number c.args.place (c.in-Some.there + 1) =
    subst (WasMarkedAt f.visited c.args.item.number c.args.place) (omega (arith, facts.0, facts.1)) (c.put_mark-old.ensures.old facts.0).1 in
    on_ok c.add_chord.result _ _ (λ more. inr (record {
      place = c.in-Some.there;
      at = marked_place G f c.requires.over n c.args.item.number c.args.place c.in-Some.there c.requires.item.number c.requires.place was;
      items = ap (λ v. v.items) c.add_chord.ensures.items;
      chords = more;
    })) c.add_chord.ensures.chords

pub returns-in-None-clause-over : goal.returns-in-None-clause-over
returns-in-None-clause-over g c =
    let G : Ground = g.G.Ground.stars_and_areas c.args._over.now in
    let f : Found = c.args.self.now in
    let none = subst (λ o. SomeIff o (1 ≤ c.put_mark-old.result) (c.put_mark-old.result - 1)) c.in-None.is c.checked_sub.ensures in
    let mark : IsMarkedAt f.visited c.put_mark-old.new.self c.args.item.number c.args.place c.in_ok-mark.mark = c.put_mark-old.ensures.new (is_none c.put_mark-old.result none) in
    on_ok c.push.result _ _ (λ more. (marked_node G f c.requires.over c.args.item c.args.place c.requires.item c.requires.place c.put_mark-old.new.self c.in_ok-mark.mark
    (c.in_ok-mark.ensures ∙ ap (λ k. k + 1) (c.len.ensures ∙ f.items.ok.0)) mark _ refl refl refl more).0) c.push.ensures

pub returns-in-None-clause-nodes : goal.returns-in-None-clause-nodes
returns-in-None-clause-nodes g c =
    let G : Ground = g.G.Ground.stars_and_areas c.args._over.now in
    let f : Found = c.args.self.now in
    let n : Node = c.args.item.seen.node in
    let none = subst (λ o. SomeIff o (1 ≤ c.put_mark-old.result) (c.put_mark-old.result - 1)) c.in-None.is c.checked_sub.ensures in
    let mark : IsMarkedAt f.visited c.put_mark-old.new.self c.args.item.number c.args.place c.in_ok-mark.mark = c.put_mark-old.ensures.new (is_none c.put_mark-old.result none) in
    on_ok c.push.result _ _ (λ more. ap (λ l. nodes_of (seens_of l)) more ∙ nodes_end_items f.items.items c.args.item
    ∙ sym (with_new (nodes f) n (marked_new G f c.requires.over n c.args.item.number c.args.place c.in_ok-mark.mark c.requires.item.number c.requires.place c.put_mark-old.new.self mark))) c.push.ensures
