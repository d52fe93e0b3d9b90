use mir.Syntax.{w64}
use mir.Val.{to_z, of_z}
use Rattle.std.proofs.Common.{◌≡◌, ◌∙◌, ℤ, arith, rules, take, Some, ap, sym, subst}
use Rattle.std.specs.Int.{int_min, int_max}
use Rattle.std.proofs.lemmas.Grind.{common_steps}
use Rattle.std.proofs.lemmas.Int.{to_z-of_z}
use Rattle.un_geom.specs.Rectangle.{rectangle, IsBounded}
use Rattle.un_geom.specs.Places.{envelope_from}
use Rattle.un_facts.proofs.Enveloped.{side_step, envelope_bounded, is_made}
use Rattle.un_facts.proofs.envelope.envelope_from.Goals as goal

pub loop-p-preserved : goal.loop-p-preserved
loop-p-preserved c =
    let p = c.args.first in
    let ps = c.args.rest.now in
    let i = c.loop-p.p-index in
    record {
      west = side_step int_min (λ q. q.x) p.x ps i _ _ c.loop-p-test.true (cc) c.min-x0.ensures.value (search rules) (search rules);
      south = side_step int_min (λ q. q.y) p.y ps i _ _ c.loop-p-test.true (cc) c.min-y0.ensures.value (search rules) (search rules);
      east = side_step int_max (λ q. q.x) p.x ps i _ _ c.loop-p-test.true (cc) c.max-x1.ensures.value (search rules) (search rules);
      north = side_step int_max (λ q. q.y) p.y ps i _ _ c.loop-p-test.true (cc) c.max-y1.ensures.value (search rules) (search rules);
    }

-- a number as it is handed on in 64 bits
abbrev wide : ℤ → ℤ
wide n = to_z w64 (of_z w64 n)

pub returns : goal.returns
returns c =
    let p = c.args.first in
    let ps = c.args.rest.now in
    let all : take c.loop-p.p-index ps ≡ ps = grind (arith, common_steps) in
    let x0 : wide c.from.result ≡ c.from.result = to_z-of_z w64 c.from.result (search rules) in
    let y0 : wide c.from-2.result ≡ c.from-2.result = to_z-of_z w64 c.from-2.result (search rules) in
    let x1 : wide c.from-3.result ≡ c.from-3.result = to_z-of_z w64 c.from-3.result (search rules) in
    let y1 : wide c.from-4.result ≡ c.from-4.result = to_z-of_z w64 c.from-4.result (search rules) in
    let ends : rectangle (wide c.from.result) (wide c.from-2.result) (wide c.from-3.result) (wide c.from-4.result) ≡ envelope_from p ps = cc (x0, y0, x1, y1) in
    let bounded = subst IsBounded (sym ends) (envelope_bounded p ps c.requires.first c.requires.rest) in
    is_made c.new.result _ (c.new.ensures.bounded.1 bounded) c.new.ensures.value ∙ ap Some ends
