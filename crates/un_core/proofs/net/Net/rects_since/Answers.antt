use Rattle.std.proofs.Common.{◌≡◌, ◌++◌, map, ap, ◌∙◌, rules}
use Rattle.un_dirty.specs.Areas.{areas_gone}
use Rattle.un_core.specs.State.{State}
use Rattle.un_core.proofs.Rects.{has_rectangles}
use Rattle.un_core.proofs.net.Net.rects_since.Goals as goal

pub returns : goal.returns
returns c =
    let s = c.args.older.now in
    let t = c.args.self.now in
    let gone = c.in_ok-gone.gone.items in
    let all = c.add_rects.new.rects.items in
    let older : c.older.inside.dirty.areas ≡ s.areas = ap (λ (u : State). u.areas) c.older.view_is in
    let newer : c.self.inside.dirty.areas ≡ t.areas = ap (λ (u : State). u.areas) c.self.view_is in
    let start : c.extend_from_slice.new.self.items ≡ c.args.marks.now = search rules in
    has_rectangles s t c.args.marks.now all c.dedup.new.rects.items gone
    (c.in_ok-gone.ensures ∙ (λ i. areas_gone (older i) (newer i)))
    (c.in_ok-add_rects.ensures ∙ (λ i. start i ++ map (λ a. a.1) (c.deref.ensures.value i)))
    (λ r i. (c.dedup.ensures r).1 i)
