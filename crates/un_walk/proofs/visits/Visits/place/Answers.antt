use Rattle.std.proofs.Common.{◌<◌, ◌≤◌, ◌-◌, List, length, map, take, drop, rules, ap, ◌∙◌, arith}
use Rattle.std.specs.List.{position}
use Rattle.un_defs.specs.Orders.{same_port}
use Rattle.un_walk.specs.declared.visits.Mark.{Mark}
use Rattle.un_walk.specs.declared.visits.Visit.{Visit}
use Rattle.un_walk.specs.Visits.{place_of, port_of}
use Rattle.un_walk.proofs.Visiting.{seen_within, ends_within, placed_there}
use Rattle.un_walk.proofs.visits.Visits.place.Goals as goal

pub slice_bounds-place_among-end : goal.slice_bounds-place_among-end
slice_bounds-place_among-end c =
    let vs = c.self.inside.visits.items in
    let ms = c.self.inside.marks.items in
    let v : Visit = c.index-visit.result.now in
    let inside : c.args.number < length vs = seen_within vs (map place_of ms) c.args.self.now c.args.number c.self.view_is c.requires in
    let ends = ends_within vs ms c.args.self.now c.args.number v c.self.view_is c.self.invariant inside c.index-visit.ensures in
    let high : v.end ≤ length c.deref.result.now = omega (arith, ends.1, ap length c.deref.ensures.value) in
    search (rules, high)

pub returns : goal.returns
returns c =
    let vs = c.self.inside.visits.items in
    let ms = c.self.inside.marks.items in
    let v : Visit = c.index-visit.result.now in
    let inside : c.args.number < length vs = seen_within vs (map place_of ms) c.args.self.now c.args.number c.self.view_is c.requires in
    placed_there vs ms c.args.self.now c.args.number v c.self.view_is c.self.invariant inside c.index-visit.ensures c.args.port c.place_among.result
    (c.place_among.ensures ∙ ap (λ (l : List Mark). position (λ (m : Mark). same_port (port_of m) c.args.port) (take (v.end - v.begin) (drop v.begin l))) c.deref.ensures.value)
