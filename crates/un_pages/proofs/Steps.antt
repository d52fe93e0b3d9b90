-- From a pair to the next one in the order of the keys.
use Rattle.std.proofs.Common.{◌≡◌, Bool, true, false, List, [], ◌∷◌, slice_get, Some, None, Option, IfSome, IfNone, cond, refl, sym, ◌∙◌, ap, subst}
use Rattle.std.specs.declared.cmp.Ordering.{Ordering}
use Rattle.std.specs.declared.cmp.Ordering.TheVariants.{Less, Equal, Greater}
use Rattle.std.specs.Ordering.{is_lt, ordering_reverse}
use Rattle.std.specs.Cmp.{IsTotalOrder}
use Rattle.std.specs.List.Sorted.{IsStrictlySortedBy}
use Rattle.std.specs.declared.sync.Arc.{Arc}
use denote.Ref.{Bor}
use Rattle.un_pages.specs.Pairs.{IsOrdered, IsAbove, is_past, past, held, pair_held}
use Rattle.un_pages.proofs.Ordered.{turned, above_lower, past_all_above}
use Rattle.un_pages.proofs.Nodes.{past_none}

less_from : (r : Ordering) → is_lt r ≡ true → r ≡ Less
less_from Less e = refl
less_from Equal e = cc
less_from Greater e = cc

module _ {K : Type 0} {cmp : K → K → Ordering} (o : IsTotalOrder cmp) where
  not_below_itself : (k : K) → is_lt (cmp k k) ≡ false
  not_below_itself k = by (cmp k k) refl
    where
      by : (r : Ordering) → cmp k k ≡ r → is_lt r ≡ false
      by Less e = let turn : Less ≡ Greater = sym e ∙ o.antisymm k k ∙ ap ordering_reverse e in cc
      by Equal e = refl
      by Greater e = refl

module _ {K V : Type 0} {cmp : K → K → Ordering} (o : IsTotalOrder cmp) where
  -- what stands above a pair that is past the bound is past it too
  all_past : (after : Option K) (x : K) (xs : List (K × V)) → is_past cmp after x ≡ true → IsAbove cmp x xs → past cmp after xs ≡ xs
  all_past None x xs e above = past_none cmp xs
  all_past (Some a) x xs e above = past_all_above o a xs (above_lower o a x xs (less_from (cmp a x) e) above)

  -- the first pair past the bound stands above what all stand above
  first_above : (after : Option K) (x : K) (xs : List (K × V)) (p : K × V) → IsAbove cmp x xs → slice_get (past cmp after xs) 0 ≡ Some p → cmp x p.0 ≡ Less
  first_above after x [] p above e = cc
  first_above after x (y ∷ ys) p above e = by (is_past cmp after y.0) e (first_above after x ys p above.1)
    where
      by : (b : Bool) → slice_get (cond b (y ∷ past cmp after ys) (past cmp after ys)) 0 ≡ Some p → (slice_get (past cmp after ys) 0 ≡ Some p → cmp x p.0 ≡ Less) → cmp x p.0 ≡ Less
      by true e ih = let same : y ≡ p = cc in subst (λ q. cmp x q.0 ≡ Less) same above.0
      by false e ih = ih e

  -- after the first pair past the bound come those past its key
  pub past_step : (after : Option K) (l : List (K × V)) (p : K × V) → IsOrdered cmp l → slice_get (past cmp after l) 0 ≡ Some p → past cmp after l ≡ p ∷ past cmp (Some p.0) l
  unfolding IsStrictlySortedBy
  past_step after [] p s e = cc
  past_step after (x ∷ xs) p s e = by (is_past cmp after x.0) refl e (past_step after xs p s.1)
    where
      by : (b : Bool) → is_past cmp after x.0 ≡ b → slice_get (cond b (x ∷ past cmp after xs) (past cmp after xs)) 0 ≡ Some p
          → (slice_get (past cmp after xs) 0 ≡ Some p → past cmp after xs ≡ p ∷ past cmp (Some p.0) xs)
          → cond b (x ∷ past cmp after xs) (past cmp after xs) ≡ p ∷ past cmp (Some p.0) (x ∷ xs)
      by true h e ih =
          let same : x ≡ p = cc in
          let own : past cmp (Some x.0) (x ∷ xs) ≡ xs = ap (λ b. cond b (x ∷ past cmp (Some x.0) xs) (past cmp (Some x.0) xs)) (not_below_itself o x.0) ∙ past_all_above o x.0 xs s.0 in
          subst (λ q. x ∷ past cmp after xs ≡ q ∷ past cmp (Some q.0) (x ∷ xs)) same (ap (λ l. x ∷ l) (all_past after x.0 xs h s.0 ∙ sym own))
      by false h e ih =
          let over = turned o x.0 p.0 (first_above after x.0 xs p s.0 e) in
          let own : past cmp (Some p.0) (x ∷ xs) ≡ past cmp (Some p.0) xs = ap (λ r. cond (is_lt r) (x ∷ past cmp (Some p.0) xs) (past cmp (Some p.0) xs)) over in
          ih e ∙ ap (λ l. p ∷ l) (sym own)

  -- that of a pair that is lent
  pub held_step : {Z : Type 0} (after : Option K) (l : List (K × V)) (r : Option (K × Bor (Arc V Z))) → IsOrdered cmp l → held r ≡ slice_get (past cmp after l) 0
      → IfSome r (λ p. past cmp after l ≡ pair_held p ∷ past cmp (Some p.0) l)
  held_step after l None s e = tt
  held_step after l (Some p) s e = past_step after l (pair_held p) s (sym e)

  first_none : (l : List (K × V)) → None ≡ slice_get l 0 → l ≡ []
  first_none [] e = refl
  first_none (x ∷ l) e = cc

  pub held_last : {Z : Type 0} (after : Option K) (l : List (K × V)) (r : Option (K × Bor (Arc V Z))) → held r ≡ slice_get (past cmp after l) 0 → IfNone r (past cmp after l ≡ [])
  held_last after l None e = first_none (past cmp after l) e
  held_last after l (Some p) e = tt
