use Rattle.std.proofs.Common.{◌≡◌, ◌∙◌, List, [], ◌∷◌, map, ap, refl, subst, IfOk}
use Rattle.std.specs.Prelude.{Ok, Err, Result, MatchResult}
use Rattle.std.specs.List.{AllZip, Contains}
use Rattle.rayon.proofs.ToStd.{slice-AllZip}
use Rattle.un_defs.specs.Star.{star}
use Rattle.un_validate.proofs.stars.Goals as goal

module _ {X Y : Type 0} (E : Type 0) (f : X → Y) where
  -- where each result is an `Ok`, they are those of the function
  each_ok : (xs : List X) (ys : List Y) → AllZip (λ x (q : Result Y E). IfOk q (λ y. y ≡ f x)) xs (map Ok ys) → ys ≡ map f xs
  each_ok [] [] h = refl
  each_ok [] (y ∷ ys) h = absurd h
  each_ok (x ∷ xs) [] h = absurd h
  each_ok (x ∷ xs) (y ∷ ys) h = λ i. h.0 i ∷ each_ok xs ys h.1 i

  -- what results were collected in
  collected : {V : Type 0} (items : V → List Y) (xs : List X) (qs : List (Result Y E)) (r : Result V E)
      → AllZip (λ x q. IfOk q (λ y. y ≡ f x)) xs qs
      → MatchResult r (λ v. (ys : List Y) × (qs ≡ map Ok ys) × (items v ≡ ys)) (λ e. Contains qs (Err e))
      → IfOk r (λ v. items v ≡ map f xs)
  collected items xs qs (Ok v) h m = m.2 ∙ each_ok xs m.0 (subst (AllZip (λ x q. IfOk q (λ y. y ≡ f x)) xs) m.1 h)
  collected items xs qs (Err e) h m = tt

pub returns : goal.returns
returns g c =
    let f = star (g.K.Rows.catalog c.args.rows.now) (g.K.Rows.features c.args.rows.now) in
    let slice = ap (λ it. it.base.slice.now) c.map.ensures.base ∙ ap (λ it. it.slice.now) c.with_min_len.ensures.base ∙ c.par_iter.ensures in
    let found = c.in_ok-collect.ensures in
    let chain = found.1 in
    let answers = slice-AllZip chain.0 c.args.points.now (chain.1 ∙ slice) (λ p q. IfOk q (λ s. s ≡ f p)) found.0 (rw c.map.ensures.f at chain.2) in
    collected _ f (λ v. v.items) c.args.points.now found.0 c.in_ok-collect.field-0 answers found.2
