use Rattle.std.proofs.Common.{◌≡◌, ℕ, get_or, refl, true, eqb, not, rules}
use Rattle.std.specs.Prelude.{IsTrue}
use Rattle.un_loops.proofs.Deciding.{chord_on_cycle, way_on_cycle, way_off_cycle}
use Rattle.un_loops.proofs.cycles.is_on_cycle.Goals as goal

differs : (x y : ℕ) → IsTrue (not (eqb x y)) → x ≡ y → ⊥
differs x y h e = let k : not (eqb x y) ≡ true = h in let same : eqb x y ≡ true = search rules in cc

apart : (x y : ℕ) → (x ≡ y → ⊥) → IsTrue (not (eqb x y))
apart x y h = search rules

pub returns-in-Some : goal.returns-in-Some
returns-in-Some c =
    let h = c.in-Some.ensures in
    let links = c.args.links.now in
    let parents = c.args.parents.now in
    let heads = c.args.heads.now in
    let v = c.in-Some.place in (
      λ yes. way_on_cycle links parents c.requires.forest heads c.requires.heads c.requires.spanned c.args.index c.requires.inside v h.0 h.1 h.2 h.3 (differs (get_or heads v 0) v yes),
      λ cycle. apart (get_or heads v 0) v (λ same. way_off_cycle links parents c.requires.forest heads c.requires.heads c.requires.spanned c.args.index c.requires.inside v h.0 h.1 h.2 h.3 same cycle),
    )

pub returns-in-None : goal.returns-in-None
returns-in-None c = (λ _. chord_on_cycle c.args.links.now c.args.parents.now c.requires.forest c.args.heads.now c.requires.heads c.requires.spanned c.args.index c.requires.inside c.in-None.ensures, λ _. refl)
