use Rattle.std.proofs.Common.{◌≡◌, ◌++◌, ◌∷◌, [], List, length, map, sym, ap, subst, subst₂, ◌∙◌}
use Rattle.un_walk.specs.declared.visits.Mark.{Mark}
use Rattle.un_walk.specs.declared.visits.Visit.{Visit}
use Rattle.un_walk.specs.Site.{star_of}
use Rattle.un_walk.specs.Visits.{place_of, unfound_in, visited_of, AreKept, IsOneMore}
use Rattle.un_walk.proofs.Visiting.{kept_longer, kept_more, one_more}
use Rattle.un_walk.proofs.visits.Visits.push.Goals as goal

-- the sites, whatever was added to the marks
kept : (vs ws : List Visit) (ms ns more : List Mark) → AreKept vs ms → ws ≡ vs → ns ≡ ms ++ more → AreKept ws ns
kept vs ws ms ns more h same longer = subst₂ AreKept (sym same) (sym longer) (kept_longer vs ms more h)

pub invariant_of-self : goal.invariant_of-self
invariant_of-self c = subst (AreKept c.self.inside.visits.items) (sym c.add_marks.ensures.longer.1) (kept_longer c.self.inside.visits.items c.self.inside.marks.items c.add_marks.ensures.longer.0 c.self.invariant)

pub invariant_of-self-in_err-end : goal.invariant_of-self-in_err-end
invariant_of-self-in_err-end c = subst (AreKept c.self.inside.visits.items) (sym c.add_marks.ensures.longer.1) (kept_longer c.self.inside.visits.items c.self.inside.marks.items c.add_marks.ensures.longer.0 c.self.invariant)

pub invariant_of-self-in_err-make_room : goal.invariant_of-self-in_err-make_room
invariant_of-self-in_err-make_room c =
    kept c.self.inside.visits.items _ c.self.inside.marks.items _ c.add_marks.ensures.longer.0 c.self.invariant c.make_room.ensures c.add_marks.ensures.longer.1

pub invariant_of-self-in_err-push : goal.invariant_of-self-in_err-push
invariant_of-self-in_err-push c =
    kept c.self.inside.visits.items _ c.self.inside.marks.items _ c.add_marks.ensures.longer.0 c.self.invariant (c.in_err-push.ensures.items ∙ c.make_room.ensures) c.add_marks.ensures.longer.1

pub invariant_of-self-2 : goal.invariant_of-self-2
invariant_of-self-2 c =
    let ms : List Mark = c.self.inside.marks.items in
    let v : Visit = record { site = c.args.site; begin = c.in_ok-begin.begin; end = c.in_ok-end.end } in
    let begin : v.begin ≡ length ms = c.in_ok-begin.ensures ∙ c.len.ensures ∙ c.self.inside.marks.ok.0 in
    let more : c.add_marks.new.marks.items ≡ ms ++ unfound_in (star_of c.args.site).spots = c.in_ok-add_marks.ensures.added ∙ ap (λ spots. ms ++ unfound_in spots) c.spots.ensures in
    let end : v.end ≡ length (ms ++ unfound_in (star_of c.args.site).spots) = c.in_ok-end.ensures ∙ c.len-2.ensures ∙ c.add_marks.new.marks.ok.0 ∙ ap length more in
    subst₂ AreKept (sym (c.in_ok-push.ensures.items ∙ ap (λ vs. vs ++ v ∷ []) c.make_room.ensures)) (sym more) (kept_more c.self.inside.visits.items ms v c.self.invariant begin end)

pub returns : goal.returns
returns c =
    let ms : List Mark = c.self.inside.marks.items in
    let v : Visit = record { site = c.args.site; begin = c.in_ok-begin.begin; end = c.in_ok-end.end } in
    let begin : v.begin ≡ length ms = c.in_ok-begin.ensures ∙ c.len.ensures ∙ c.self.inside.marks.ok.0 in
    let more : c.add_marks.new.marks.items ≡ ms ++ unfound_in (star_of c.args.site).spots = c.in_ok-add_marks.ensures.added ∙ ap (λ spots. ms ++ unfound_in spots) c.spots.ensures in
    let one = one_more c.self.inside.visits.items ms v c.self.invariant begin in
    subst₂ (λ ws ns. IsOneMore c.args.self.now (map (visited_of (map place_of ns)) ws) c.args.site) (sym (c.in_ok-push.ensures.items ∙ ap (λ vs. vs ++ v ∷ []) c.make_room.ensures)) (sym more)
    (subst (λ old. IsOneMore old (map (visited_of (map place_of (ms ++ unfound_in (star_of c.args.site).spots))) (c.self.inside.visits.items ++ v ∷ [])) c.args.site) c.self.view_is one)
