use Rattle.std.proofs.Common.{◌≡◌, Bool, List, [], ◌∷◌, map, IfOk, refl, ap, subst, ◌∙◌}
use Rattle.std.specs.List.{filter_map, zip, cons_option}
use denote.Ref.{Bor}
use Rattle.un_defs.specs.declared.link.Tie.{Tie}
use Rattle.un_ask.specs.declared.results.Segment.{Segment}
use Rattle.un_loops.specs.Marked.{segment_if, marked_segments}
use Rattle.un_loops.proofs.names.Names.marked_segments.Goals as goal

-- names may be read before they are joined to their marks, or after
read_before : (ties : List (Bor Tie)) (marks : List Bool) → filter_map (λ p. segment_if p.0.now.name p.1) (zip ties marks) ≡ marked_segments (map (λ t. t.now.name) ties) marks
read_before [] marks = refl
read_before (t ∷ ties) [] = refl
read_before (t ∷ ties) (m ∷ marks) = ap (cons_option (segment_if t.now.name m)) (read_before ties marks)

pub returns : goal.returns
returns c =
    subst (λ (l : List Segment). IfOk c.marked_among.result (λ found. found.items ≡ l))
    (read_before c.deref.result.now c.args.marks.now ∙ ap (λ ns. marked_segments ns c.args.marks.now) (ap (map (λ t. t.now.name)) c.deref.ensures.value ∙ c.self.view_is))
    c.marked_among.ensures
