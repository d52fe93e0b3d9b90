use Rattle.std.proofs.Common.{◌≡◌, ◌∙◌, suc, add-one, sym, ap}
use Rattle.un_gen.specs.Generator.{seeded, pipes, pipes_at, state_at, state_after}
use Rattle.un_script.specs.Redone.{redone}
use Rattle.un_script.proofs.Redone.{redone_append}
use Rattle.un_script.proofs.make.network.with_pipes.Goals as goal

pub loop-place-preserved : goal.loop-place-preserved
loop-place-preserved c =
    let n = c.args.count in
    let x = seeded c.args.seed in
    let place = c.loop-place.place in
    let made : c.as_slice.result.now ≡ pipes_at n (state_at n x place) place =
    c.as_slice.ensures.value ∙ c.in_ok-pipes.ensures.pipes ∙ ap (λ s. pipes_at n s place) c.loop-place.invariant.1 in
    let last : c.in_ok-last.last ≡ redone c.args.net (pipes n x (suc place)) =
    c.in_ok-last.ensures ∙ (λ i. redone (c.loop-place.invariant.0 i) (made i)) ∙ sym (redone_append c.args.net (pipes n x place) (pipes_at n (state_at n x place) place)) in
    let state : c.pipes_at.new.draws.state ≡ state_at n x (suc place) = c.in_ok-pipes.ensures.draws ∙ ap (λ s. state_after n s place) c.loop-place.invariant.1 in
    (rw (add-one place) last, rw (add-one place) state)
