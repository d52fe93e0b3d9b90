use Rattle.std.proofs.Common.{◌≡◌, ◌<◌, Bool, true, false, Option, None, length, ap, sym, refl, arith, if◌then◌else◌}
use Rattle.std.specs.Option.{option_map}
use Rattle.un_defs.specs.declared.port.Port.{Port}
use Rattle.un_defs.specs.declared.refusal.Refusal.TheVariants.{Disjoint}
use Rattle.un_subnet.specs.Alone.{least_apart}
use Rattle.un_subnet.proofs.AloneReach.{none_apart}
use Rattle.un_subnet.proofs.alone.disjoint_refusal.Goals.{then-ask-via-then-ask, then-ask-via-else-ask+then-as_slice-lt2}
use Rattle.un_subnet.proofs.alone.disjoint_refusal.Goals as goal

none_refused : (allowed : Bool) (apart : Option Port) → apart ≡ None
    → None ≡ (if allowed then None else option_map (λ (q : Port). Disjoint q.feature q.number) apart)
none_refused true apart e = refl
none_refused false apart e = ap (option_map (λ (q : Port). Disjoint q.feature q.number)) (sym e)

pub returns-then-ask-clause-refusal : goal.returns-then-ask-clause-refusal
returns-then-ask-clause-refusal g c = λ reached reach.
    let G = g.G.Ground.stars_and_areas c.args.over.now in
    let ask = c.args.ask.now in
    elim c.then-ask.branch [
      | then-ask-via-then-ask w ↦
          ap (λ b. if b then None else option_map (λ (q : Port). Disjoint q.feature q.number) (least_apart G ask.barriers ask.starts reached)) (sym w.if-ask.true)
      | then-ask-via-else-ask+then-as_slice-lt2 w ↦
          let few : length ask.starts < 2 = omega (arith, ap length w.as_slice.ensures, w.if-as_slice-lt2.true) in
          none_refused ask.disjoint (least_apart G ask.barriers ask.starts reached) (none_apart G ask.barriers ask.starts reached reach few)
    ]
