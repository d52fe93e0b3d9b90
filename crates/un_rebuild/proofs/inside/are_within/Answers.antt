use Rattle.std.proofs.Common.{rules, ◌≡◌, ◌+◌, ℕ, true, true≢false, List, [], ◌∷◌, ◌++◌, take, take_all, sym, ap, ◌∙◌, subst, inl, inr}
use Rattle.std.proofs.lemmas.List.{take_more}
use Rattle.un_geom.specs.declared.point.Point.{Point}
use Rattle.un_geom.specs.Rectangle.{Rectangle}
use Rattle.un_geom.specs.Places.{covers}
use Rattle.un_rebuild.specs.Rebuilding.{is_under}
use Rattle.un_rebuild.specs.Inside.{AreWithin}
use Rattle.un_rebuild.proofs.Pointed.{under_split, or_cases}
use Rattle.un_rebuild.proofs.Within.{within_by}
use Rattle.un_rebuild.proofs.inside.are_within.Goals as goal

none : (areas : List (ℕ × Rectangle)) (p : Point) → is_under (take 0 areas) p ≡ true → ⊥
none [] p e = true≢false (sym e)
none (area ∷ areas) p e = true≢false (sym e)

pub loop-area-init : goal.loop-area-init
loop-area-init c = λ p e. absurd (none c.args.areas.now p e)

pub loop-area-preserved : goal.loop-area-preserved
loop-area-preserved c =
    let k = c.loop-area.area-index in
    let area : ℕ × Rectangle = c.loop-area-item.result in
    let so_far : List (ℕ × Rectangle) = take k c.args.areas.now in
    let more : so_far ++ area ∷ [] ≡ take (k + 1) c.args.areas.now =
    ap (λ a. so_far ++ a ∷ []) c.loop-area-item.is ∙ sym (take_more c.args.areas.now k area c.loop-area-test.true) in
    let told : c.is_within.result ≡ true = search rules in
    subst (λ areas. AreWithin areas c.args.extent) more
    (λ p e. elim (or_cases (is_under so_far p) (covers area.1 p) (sym (under_split so_far area p) ∙ e)) [
      | inl before ↦ c.loop-area.invariant p before
      | inr here ↦ within_by area.1 c.args.extent (sym c.is_within.ensures ∙ told) p here
    ])

pub returns : goal.returns
returns c = λ _. subst (λ areas. AreWithin areas c.args.extent) (take_all c.loop-area.area-index c.args.areas.now c.loop-area-test.false) c.loop-area.invariant
