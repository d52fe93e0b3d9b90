use Rattle.std.proofs.Common.{◌≡◌, ◌+◌, ◌≤◌, length, Result, Ok, Err, OnOk, sym, ap, subst, ◌∙◌, arith}
use Rattle.un_walk.specs.declared.found.Found.{Found}
use Rattle.un_walk.specs.Found.{seens_of, nodes}
use Rattle.un_walk.specs.Seen.{nodes_of}
use Rattle.un_walk.specs.Growth.{with_node}
use Rattle.un_walk.proofs.FoundOver.{add_counts}
use Rattle.un_walk.proofs.Tracing.{adds_to}
use Rattle.un_walk.proofs.found.Found.add.Goals as goal

on_ok : {T E : Type 0} (r : Result T E) (P Q : Type 0) → (P → Q) → OnOk r P → OnOk r Q
on_ok (Ok x) P Q f h = f h
on_ok (Err e) P Q f h = h

pub add_at-requires-clause-from : goal.add_at-requires-clause-from
add_at-requires-clause-from g c = omega (arith, c.requires.from, ap (λ l. length (nodes_of (seens_of l.items))) c.in_ok-number.ensures.items)

pub returns-clause-nodes : goal.returns-clause-nodes
returns-clause-nodes g c = on_ok c.add_at.result _ _ (λ e. e ∙ ap (λ l. with_node (nodes_of (seens_of l.items)) c.args.node) c.in_ok-number.ensures.items) c.add_at.ensures.nodes

pub returns-clause-once : goal.returns-clause-once
returns-clause-once g c =
    let f : Found = c.args.self.now in
    let same : nodes c.number_from.new.self ≡ nodes f = ap (λ l. nodes_of (seens_of l.items)) c.in_ok-number.ensures.items in
    on_ok c.add_at.result _ _ (λ e. subst (λ ns. c.number_from.new.steps + length (nodes f) ≤ c.args.steps.now + length ns) (sym (e ∙ ap (λ ns. with_node ns c.args.node) same))
    (add_counts (g.G.Ground.stars_and_areas c.args.over.now) f c.requires.over c.args.node c.args.steps.now c.number_from.new.steps c.in_ok-number.ensures.once)) c.add_at.ensures.nodes

pub returns-clause-adds : goal.returns-clause-adds
returns-clause-adds g c =
    on_ok c.add_at.result _ _ (λ adds. adds_to (g.G.Ground.stars_and_areas c.args.over.now) c.args.self.now c.number_from.new.self c.add_at.new.self c.args.node c.args.from c.args.via
    (ap (λ v. v.items) c.in_ok-number.ensures.items) c.in_ok-number.ensures.chords adds) c.add_at.ensures.adds
