-- Pages taken in order make a copy of the newer topology.
use Rattle.std.proofs.Common.{◌≡◌, ℕ, ◌==◌, ◌≤◌, nat_lt, Bool, true, false, is_none, List, [], ◌∷◌, ◌++◌, length, take, drop, map, filter, Option, Some, None, refl, sym, ap, subst, ◌∙◌, arith, eq-eqb, if◌then◌else◌}
use Rattle.std.proofs.lemmas.List.{take-append-drop, take_all}
use Rattle.std.specs.Map.{keys_of}
use Rattle.std.specs.List.Sorted.{IsStrictlySortedBy}
use Rattle.un_geom.specs.declared.point.Point.{Point}
use Rattle.un_geom.specs.Places.{point_cmp}
use Rattle.un_pages.specs.Pairs.{past, IsOrdered}
use Rattle.un_points.specs.PointMaps.{value_at}
use Rattle.un_points.proofs.Lookups.{same_itself}
use Rattle.un_defs.proofs.LinkCases.{true_both}
use Rattle.un_feed.specs.Differences.{ChangesShown, Kept, Difference, points_of, differences, applied}
use Rattle.un_feed.specs.Follows.{Copied, same_places, goes_on, fits, base_of, last_place, with_page, taken, after_page, after_pages, IsPageOf, ArePages, Span, AreSpans, all_pages, at_last}
use Rattle.un_feed.specs.Laws.{PagesAreFollowed, SpansAreFollowed}
use Rattle.un_feed.proofs.Applying.{changed, points_sorted, applied_differences}
use Rattle.un_feed.proofs.Paging.{after_page_is, applied-append}

-- ---- the differences rise

module _ (a b : Kept) where
  keys_at : (ps : List Point) → keys_of (map (λ p. (p, value_at p b)) ps) ≡ ps
  keys_at [] = refl
  keys_at (p ∷ ps) = ap (λ l. p ∷ l) (keys_at ps)

  differences_rise : IsOrdered point_cmp (differences a b)
  differences_rise = subst (IsStrictlySortedBy point_cmp) (sym (keys_at (filter (changed a b) (points_of a b)))) (points_sorted a b)

-- ---- one page

same_place : (o p : Option Point) → o ≡ p → same_places o p ≡ true
same_place o p e = subst (λ q. same_places o q ≡ true) e (itself o)
  where
    itself : (o : Option Point) → same_places o o ≡ true
    itself None = refl
    itself (Some q) = same_itself q

past_none : (ds : List Difference) → past point_cmp None ds ≡ ds
past_none [] = refl
past_none (d ∷ ds) = ap (λ l. d ∷ l) (past_none ds)

all_of_them : {A : Type 0} (n : ℕ) (l : List A) → nat_lt n (length l) ≡ false → take n l ≡ l
all_of_them n l e = take_all n l (not_below n (length l) e)
  where
    not_below : (m n : ℕ) → nat_lt m n ≡ false → n ≤ m
    not_below m n e = grind (arith, e)

module _ (since upto : ℕ) (ds : List Difference) (s : IsOrdered point_cmp ds) (b : Kept) where
  -- a copy that waits for the page after a point, and the topology to which it will be applied
  record IsReady (copy : Copied) (after : Option Point) (kept : Kept) : Type 0 where
    version : copy.version ≡ since
    base : base_of copy ≡ kept
    goes : (page : ChangesShown) → page.after ≡ after → page.upto ≡ upto → goes_on copy.staged page ≡ true

  module _ (copy : Copied) (after : Option Point) (kept : Kept) (ready : IsReady copy after kept) (most : ℕ) (page : ChangesShown) (is : IsPageOf since upto ds after most page) where
    does_fit : fits copy page ≡ true
    does_fit =
        true_both (page.since == copy.version) (goes_on copy.staged page)
        (eq-eqb page.since copy.version (is.from_version ∙ sym ready.version))
        (ready.goes page is.begins is.to_version)

    comes : after_page copy page ≡ taken copy page
    comes = ap (λ b. if b then taken copy page else copy) does_fit

    pairs_are : page.page.pairs ≡ take most (past point_cmp after ds)
    pairs_are = ap (λ p. p.pairs) is.shows

    more_is : page.page.more ≡ nat_lt most (length (past point_cmp after ds))
    more_is = ap (λ p. p.more) is.shows

    put : with_page copy page ≡ applied kept (take most (past point_cmp after ds))
    put = ap (λ k. applied k page.page.pairs) ready.base ∙ ap (applied kept) pairs_are

    -- the last page
    ended : applied kept (past point_cmp after ds) ≡ b → page.page.more ≡ false → with_page copy page ≡ b
    ended e m = put ∙ ap (applied kept) (all_of_them most (past point_cmp after ds) (sym more_is ∙ m)) ∙ e

    -- a page that is staged
    abbrev place : Option Point
    place = last_place after page.page.pairs

    abbrev staged : Copied
    staged = record {
      kept = copy.kept;
      version = copy.version;
      staged = Some (record { kept = with_page copy page; upto = page.upto; last = last_place page.after page.page.pairs });
    }

    still_ready : IsReady staged place (with_page copy page)
    still_ready = record {
      version = ready.version;
      base = refl;
      goes = λ next begins ends. true_both (next.upto == page.upto) (same_places next.after (last_place page.after page.page.pairs))
          (eq-eqb next.upto page.upto (ends ∙ sym is.to_version))
          (same_place next.after (last_place page.after page.page.pairs) (begins ∙ ap (λ o. last_place o page.page.pairs) (sym is.begins)));
    }

    goes_further : applied kept (past point_cmp after ds) ≡ b → applied (with_page copy page) (past point_cmp place ds) ≡ b
    goes_further e =
        let rest : past point_cmp place ds ≡ drop most (past point_cmp after ds) =
        ap (λ l. past point_cmp (last_place after l) ds) pairs_are ∙ after_page_is ds s most after (past point_cmp after ds) refl in
        ap (λ k. applied k (past point_cmp place ds)) put
        ∙ ap (applied (applied kept (take most (past point_cmp after ds)))) rest
        ∙ sym (applied-append kept (take most (past point_cmp after ds)) (drop most (past point_cmp after ds)))
        ∙ ap (applied kept) (take-append-drop most (past point_cmp after ds)) ∙ e

  abbrev followed : Copied
  followed = record { kept = b; version = upto; staged = None }

  all_taken : (pages : List ChangesShown) (copy : Copied) (after : Option Point) (kept : Kept) → IsReady copy after kept → applied kept (past point_cmp after ds) ≡ b → ArePages since upto ds after pages → after_pages copy pages ≡ followed
  all_taken [] copy after kept ready e are = absurd are
  all_taken (page ∷ pages) copy after kept ready e are =
      ap (λ c. after_pages c pages) (comes copy after kept ready are.0.0 page are.0.1) ∙ by page.page.more refl
      (λ m. all_taken pages (staged copy after kept ready are.0.0 page are.0.1) (last_place after page.page.pairs) (with_page copy page)
      (still_ready copy after kept ready are.0.0 page are.0.1) (goes_further copy after kept ready are.0.0 page are.0.1 e) (are.1 m))
    where
      by : (m : Bool) → page.page.more ≡ m
          → (page.page.more ≡ true → after_pages (staged copy after kept ready are.0.0 page are.0.1) pages ≡ followed)
          → after_pages (taken copy page) pages ≡ followed
      by true m rest =
          ap (λ c. after_pages c pages) (ap (λ m. if m then staged copy after kept ready are.0.0 page are.0.1 else record { kept = with_page copy page; version = page.upto; staged = None }) m)
          ∙ rest m
      by false m rest =
          let same : with_page copy page ≡ b = ended copy after kept ready are.0.0 page are.0.1 e m in
          let version : page.upto ≡ upto = are.0.1.to_version in
          ap (after_pages (taken copy page)) (are.2 m)
          ∙ ap (λ m. if m then staged copy after kept ready are.0.0 page are.0.1 else record { kept = with_page copy page; version = page.upto; staged = None }) m
          ∙ (λ i. record { kept = same i; version = version i; staged = None })

-- ---- whole spans

pub pages_followed : PagesAreFollowed
pages_followed a b since upto pages s t are =
    all_taken since upto (differences a b) (differences_rise a b) b pages (record { kept = a; version = since; staged = None }) None a
    (record { version = refl; base = refl; goes = λ page begins ends. ap is_none begins })
    (ap (applied a) (past_none (differences a b)) ∙ applied_differences a b s t) are

after_pages-append : (copy : Copied) (ps qs : List ChangesShown) → after_pages copy (ps ++ qs) ≡ after_pages (after_pages copy ps) qs
after_pages-append copy [] qs = refl
after_pages-append copy (p ∷ ps) qs = after_pages-append (after_page copy p) ps qs

spans_from : (spans : List Span) (kept : Kept) (version : ℕ) → IsOrdered point_cmp kept → AreSpans kept version spans → after_pages (record { kept = kept; version = version; staged = None }) (all_pages spans) ≡ at_last kept version spans
spans_from [] kept version s are = refl
spans_from (span ∷ spans) kept version s are =
    after_pages-append (record { kept = kept; version = version; staged = None }) span.pages (all_pages spans)
    ∙ ap (λ c. after_pages c (all_pages spans)) (pages_followed kept span.kept version span.version span.pages s are.0 are.1)
    ∙ spans_from spans span.kept span.version are.0 are.2

pub spans_followed : SpansAreFollowed
unfolding IsStrictlySortedBy
spans_followed spans are = spans_from spans [] 0 tt are
