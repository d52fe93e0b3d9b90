-- A link that ends because the session can't go on.
use Rattle.std.proofs.Common.{◌≡◌, ◌⊎◌, ◌≤◌, ◌+◌, ◌-◌, ◌^◌, ℕ, min, Bool, true, false, List, [], ◌∷◌, ◌++◌, Option, Some, ap, sym, ◌∙◌, subst, inl, inr, arith}
use Rattle.std.proofs.lemmas.List.{map-append}
use Rattle.un_io.specs.Outside.{Rose}
use Rattle.un_publish.specs.Models.{SessionModel}
use Rattle.un_publish.specs.declared.session.Denied.{Denied}
use Rattle.un_http.specs.declared.check.Check.{Check}
use Rattle.un_http.specs.declared.check.Check.TheVariants.{BadHead, ManyHeaders, NotSupported, LongBody, NoLength}
use Rattle.un_turns.specs.declared.request.Response.{Response}
use Rattle.un_turns.specs.declared.request.Response.TheVariants.{Nothing, Accepted, Refused, Answer, PastAnswer, BetweenAnswer, Reversed, Ahead, NotYet, Denied as IsDenied, Memory}
use Rattle.un_turns.specs.Truths.{all_denials}
use Rattle.un_exchange.specs.declared.asked.Asked.{Asked}
use Rattle.un_exchange.specs.declared.end.LinkEnd.TheVariants as end
use Rattle.un_exchange.specs.Exchanges.{Printing, Exchange, end_if, end_after, responses}
use Rattle.un_exchange.specs.Writing.{check_end}
use Rattle.un_turns.specs.Served.{Answering}
use Rattle.un_exchange.specs.Links.{HasServed}

-- a request that asks to close the link does not end it so
not_denied : (close : Bool) (d : Denied) → end_if close ≡ Some (end.Denied d) → ⊥
not_denied true d e = absurd (cc e)
not_denied false d e = absurd (cc e)

module _ {R A : Type 0} where
  denied_last : (rs : List (Response R A)) (d : Denied) → 1 ≤ all_denials (rs ++ IsDenied d ∷ [])
  denied_last [] d = omega arith
  denied_last (r ∷ rs) d = let rest = denied_last rs d in omega (arith, rest)

  ends_denied : (close : Bool) (r : Response R A) (d : Denied) → end_after close r ≡ Some (end.Denied d) → r ≡ IsDenied d
  ends_denied close Nothing d e = absurd (not_denied close d e)
  ends_denied close (Accepted v reply) d e = absurd (not_denied close d e)
  ends_denied close (Refused v reply) d e = absurd (not_denied close d e)
  ends_denied close (Answer v answer) d e = absurd (not_denied close d e)
  ends_denied close (PastAnswer v answer) d e = absurd (not_denied close d e)
  ends_denied close (BetweenAnswer v answer) d e = absurd (not_denied close d e)
  ends_denied close (Reversed v since upto) d e = absurd (not_denied close d e)
  ends_denied close (Ahead a) d e = absurd (not_denied close d e)
  ends_denied close (NotYet a) d e = absurd (not_denied close d e)
  ends_denied close (IsDenied f) d e = cc e
  ends_denied close Memory d e = absurd (cc e)

check_not_denied : (check : Check) (d : Denied) → end.Denied d ≡ check_end check → ⊥
check_not_denied BadHead d e = absurd (cc e)
check_not_denied ManyHeaders d e = absurd (cc e)
check_not_denied NotSupported d e = absurd (cc e)
check_not_denied LongBody d e = absurd (cc e)
check_not_denied NoLength d e = absurd (cc e)

rose : (old new count : ℕ) → new ≡ min (old + count) (2 ^ 64 - 1) → 1 ≤ count → Rose old new
rose old new count e some below = omega (arith, e, some, below)

module _ {M C R H K Q A : Type 0} (step : M → C → (M × (R × K)) ⊎ R) (opening : List M) (least : Q → ℕ) (answer : Answering M Q A) (asks : List ℕ → List ℕ → List ℕ → Asked C Q → Type 0) (p : Printing R A) where
  pub denied_rose : (s t : SessionModel M C R H K) (l l' k k' : Option (List ℕ)) (d : Denied) → HasServed step opening least answer asks p s t l l' k k' (end.Denied d) → Rose s.denied t.denied
  denied_rose s t l l' k k' d h =
      elim h.ends as (λ _. Rose s.denied t.denied) [
        | inl a ↦
            let last : a.last.response ≡ IsDenied d = ends_denied a.last.request.close a.last.response d a.ends in
            let all : responses h.exchanges ≡ responses a.before ++ IsDenied d ∷ [] =
            ap (λ (xs : List (Exchange C R Q A)). responses xs) a.split ∙ map-append (λ (x : Exchange C R Q A). x.response) a.before (a.last ∷ []) ∙ ap (λ (r : Response R A). responses a.before ++ r ∷ []) last in
            rose s.denied t.denied (all_denials (responses h.exchanges)) h.truthful.denied
            (subst (λ (rs : List (Response R A)). 1 ≤ all_denials rs) (sym all) (denied_last (responses a.before) d))
        | inr (inl b) ↦ absurd (cc b.is_fault)
        | inr (inr (inl c)) ↦ absurd c.no_more
        | inr (inr (inr e)) ↦ elim e.response as (λ _. Rose s.denied t.denied) [ inl f ↦ absurd (check_not_denied e.check d f.0) | inr f ↦ absurd (cc f.0) ]
      ]
