use Rattle.std.proofs.Common.{◌≡◌, true, ◌+◌, ◌≤◌, length, Result, Ok, Err, OnOk, sym, ap, subst, ◌∙◌}
use Rattle.un_walk.specs.declared.found.Found.{Found}
use Rattle.un_walk.specs.Found.{seens_of, nodes}
use Rattle.un_walk.specs.Seen.{nodes_of}
use Rattle.un_walk.specs.Growth.{has_node, with_node}
use Rattle.un_walk.proofs.FoundOver.{add_counts, with_old}
use Rattle.un_walk.proofs.Tracing.{has_at}
use Rattle.un_walk.proofs.found.Found.add_far.Goals as goal

on_ok : {T E : Type 0} (r : Result T E) (P Q : Type 0) → (P → Q) → OnOk r P → OnOk r Q
on_ok (Ok x) P Q f h = f h
on_ok (Err e) P Q f h = h

always : {T E : Type 0} (r : Result T E) (P : Type 0) → P → OnOk r P
always (Ok x) P h = h
always (Err e) P h = tt

pub returns-in-Some-clause-nodes : goal.returns-in-Some-clause-nodes
returns-in-Some-clause-nodes g c =
    let f : Found = c.args.self.now in
    let same : nodes c.number.new.self ≡ nodes f = ap (λ l. nodes_of (seens_of l.items)) c.in_ok-number.ensures.items in
    let old : with_node (nodes f) c.args.node ≡ nodes f = with_old (nodes f) c.args.node (subst (λ ns. has_node ns c.args.node ≡ true) same (has_at (nodes c.number.new.self) c.in-Some.place c.args.node c.in-Some.ensures)) in
    always c.add_chord.result _ (ap (λ v. nodes_of (seens_of v.items)) c.add_chord.ensures.items ∙ same ∙ sym old)

pub returns-in-Some-clause-once : goal.returns-in-Some-clause-once
returns-in-Some-clause-once g c =
    let f : Found = c.args.self.now in
    let same : nodes c.number.new.self ≡ nodes f = ap (λ l. nodes_of (seens_of l.items)) c.in_ok-number.ensures.items in
    let old : with_node (nodes f) c.args.node ≡ nodes f = with_old (nodes f) c.args.node (subst (λ ns. has_node ns c.args.node ≡ true) same (has_at (nodes c.number.new.self) c.in-Some.place c.args.node c.in-Some.ensures)) in
    always c.add_chord.result _ (subst (λ ns. c.number.new.steps + length (nodes f) ≤ c.args.steps.now + length ns) (sym (ap (λ v. nodes_of (seens_of v.items)) c.add_chord.ensures.items ∙ same ∙ sym old))
    (add_counts (g.G.Ground.stars_and_areas c.args.over.now) f c.requires.over c.args.node c.args.steps.now c.number.new.steps c.in_ok-number.ensures.once))

pub returns-in-None-clause-once : goal.returns-in-None-clause-once
returns-in-None-clause-once g c =
    let f : Found = c.args.self.now in
    let same : nodes c.number.new.self ≡ nodes f = ap (λ l. nodes_of (seens_of l.items)) c.in_ok-number.ensures.items in
    on_ok c.add_at.result _ _ (λ e. subst (λ ns. c.number.new.steps + length (nodes f) ≤ c.args.steps.now + length ns) (sym (e ∙ ap (λ ns. with_node ns c.args.node) same))
    (add_counts (g.G.Ground.stars_and_areas c.args.over.now) f c.requires.over c.args.node c.args.steps.now c.number.new.steps c.in_ok-number.ensures.once)) c.add_at.ensures.nodes
