use Rattle.std.proofs.Common.{map, Some, None, Vec, sym, ap, ◌∙◌}
use Rattle.std.specs.Map.Iter.{deref}
use Rattle.std.specs.Option.{option_copied}
use Rattle.std.proofs.lemmas.List.{append-nil, map_push}
use Rattle.un_defs.specs.declared.star.Spot.{Spot}
use Rattle.un_subnet.proofs.Growing.{one_gathered}
use Rattle.un_subnet.proofs.changes.add_controllers.Goals.{in-Some-controller+in_ok-push, in_default-controller}
use Rattle.un_subnet.proofs.changes.add_controllers.Goals as goal

pub loop-spot-preserved : goal.loop-spot-preserved
loop-spot-preserved c =
    let spots = c.as_slice-spot-items.result.now in
    let k = c.loop-spot.spot-index in
    let s = c.spot-item.result in
    let has = ap (λ (s : Spot). s.controller) (sym c.spot-item.is) in
    let gathered = one_gathered (λ (s : Spot). s.controller) spots k s (map deref c.loop-spot.controllers.items) (map deref c.args.controllers.now.items) in
    elim c.match-controller.branch [
      | in-Some-controller+in_ok-push w ↦
          ap (λ (v : Vec _ _). map deref v.items) w.controllers-is ∙ ap (map deref) w.in_ok-push.ensures.items
          ∙ map_push deref c.loop-spot.controllers.items _
          ∙ gathered (Some w.in-Some-controller.controller.now) c.loop-spot-test.true c.loop-spot.invariant (has ∙ sym c.controller.ensures ∙ ap option_copied w.in-Some-controller.is)
      | in_default-controller w ↦
          ap (λ (v : Vec _ _). map deref v.items) w.controllers-is ∙ sym (append-nil (map deref c.loop-spot.controllers.items))
          ∙ gathered None c.loop-spot-test.true c.loop-spot.invariant (has ∙ sym c.controller.ensures ∙ ap option_copied w.in_default-controller.is)
    ]
