-- The first entry of some nodes, and a sorted list without repeats.
use Rattle.std.proofs.Common.{◌≡◌, ℕ, suc, ◌+◌, ◌<◌, true, false, List, [], ◌∷◌, ◌++◌, length, take, drop, get_or, slice_get, Option, Some, None, refl, sym, ap, ◌∙◌, add-one, drop-cons, is_some, IsSorted, eqb, true≢false}
use Rattle.std.specs.Ordering.{nat_cmp}
use Rattle.std.specs.List.{cons_option, dedup}
use Rattle.std.specs.Option.{option_copied}
use Rattle.std.specs.Cmp.{unsigned_ties}
use Rattle.std.proofs.Math.Seq.{take-suc}
use Rattle.std.proofs.lemmas.List.{take-append-drop}
use Rattle.std.proofs.lemmas.List.Elements.{filter_map-append}
use Rattle.std.proofs.lemmas.List.Kept.{IsStrictlySortedBy-dedup, Contains-dedup_nat, Contains-from_dedup}
use Rattle.std.proofs.lemmas.Cmp.{nat_cmp_total}
use Rattle.un_defs.specs.declared.star.Spot.{Spot}
use Rattle.un_defs.specs.Orders.{rising}
use Rattle.un_defs.proofs.Rising.{rising_unique}
use Rattle.un_defs.proofs.Members.{contains_from_among, among_from_contains}
use Rattle.un_walk.specs.declared.seen.Seen.{Seen}
use Rattle.un_trace.specs.Seen.{spot_of, spots_of}
use Rattle.un_trace.proofs.Runs.{number_ties}

entry_at : (s : Seen) → is_some s.spot ≡ true → is_some (spot_of s) ≡ true
entry_at s e = elim s.spot as (λ o. is_some o ≡ true → is_some (option_copied o) ≡ true) [ None ↦ λ e. e | Some x ↦ λ e. refl ] e

no_entry_at : (s : Seen) → is_some s.spot ≡ false → spots_of (s ∷ []) ≡ []
no_entry_at s e =
    elim s.spot as (λ o. is_some o ≡ false → cons_option (option_copied o) [] ≡ []) [
      | None ↦ λ e. refl
      | Some x ↦ λ e. let f : true ≡ false = e in absurd (true≢false f)
    ] e

-- where the nodes before one have no entry, it has the first if it has one
pub first_at : (run : List Seen) (k : ℕ) (s : Seen) → k < length run → s ≡ get_or run k s → spots_of (take k run) ≡ [] → is_some s.spot ≡ true
    → option_copied s.spot ≡ slice_get (spots_of run) 0
first_at run k s l at none some =
    head (spot_of s) (spots_of (drop (suc k) run)) (entry_at s some) ∙ ap (λ l. slice_get l 0) (sym whole)
  where
    whole : spots_of run ≡ cons_option (spot_of s) (spots_of (drop (suc k) run))
    whole = ap spots_of (sym (take-append-drop k run)) ∙ filter_map-append spot_of (take k run) (drop k run)
        ∙ ap (λ l. l ++ spots_of (drop k run)) none
        ∙ ap spots_of (drop-cons run k s l) ∙ ap (λ x. cons_option (spot_of x) (spots_of (drop (suc k) run))) (sym at)

    head : (o : Option Spot) (ss : List Spot) → is_some o ≡ true → o ≡ slice_get (cons_option o ss) 0
    head None ss e = absurd (true≢false (sym e))
    head (Some x) ss e = refl

pub none_more : (run : List Seen) (k : ℕ) (s : Seen) → k < length run → s ≡ get_or run k s → spots_of (take k run) ≡ [] → is_some s.spot ≡ false
    → spots_of (take (k + 1) run) ≡ []
none_more run k s l at none lacks =
    ap (λ j. spots_of (take j run)) (add-one k) ∙ ap spots_of (take-suc run k s l) ∙ filter_map-append spot_of (take k run) (get_or run k s ∷ [])
    ∙ ap (λ l. l ++ spots_of (get_or run k s ∷ [])) none ∙ ap (λ x. spots_of (x ∷ [])) (sym at) ∙ no_entry_at s lacks

-- numbers in order, each once, are those numbers rising
pub dedup_rising : (xs : List ℕ) → IsSorted nat_cmp xs → dedup eqb xs ≡ rising nat_cmp xs
dedup_rising xs sorted =
    rising_unique nat_cmp_total xs (dedup eqb xs) (number_ties xs)
    (IsStrictlySortedBy-dedup nat_cmp_total unsigned_ties xs sorted)
    (λ x h. among_from_contains xs x (Contains-from_dedup eqb xs x (contains_from_among (dedup eqb xs) x h)))
    (λ x h. among_from_contains (dedup eqb xs) x (Contains-dedup_nat xs x (contains_from_among xs x h)))
