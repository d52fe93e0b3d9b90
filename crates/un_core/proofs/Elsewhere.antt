-- Between two states of a log the kept stars change only where an area was cleared or a command made the point dirty.
use Rattle.std.proofs.Common.{◌≡◌, ◌≢◌, ℕ, zero, suc, ◌+◌, ◌<◌, ◌≤◌, ◌==◌, ◌||◌, Bool, true, false, true≢false, not, cond, List, [], ◌∷◌, ◌++◌, length, filter, Option, None, Some, inl, inr, refl, sym, ap, subst, ◌∙◌, arith}
use Rattle.std.specs.List.{list_any, enumerate_from}
use Rattle.std.proofs.lemmas.List.{append-nil}
use Rattle.std.proofs.lemmas.List.Folds.{list_any-append}
use Rattle.std.proofs.lemmas.Bool.{eqb-true}
use Rattle.un_geom.specs.declared.point.Point.{Point}
use Rattle.un_geom.specs.Rectangle.{Rectangle}
use Rattle.un_geom.specs.Places.{covers}
use Rattle.un_schema.specs.declared.rule.Rule.{Rule}
use Rattle.un_schema.specs.Sound.{IsCatalog}
use Rattle.un_defs.specs.declared.edit.Edit.{Edit}
use Rattle.un_defs.specs.Dirtied.{dirtied}
use Rattle.un_defs.specs.Ground.{AreNumbered}
use Rattle.un_defs.proofs.ListLemmas.{filter-append}
use Rattle.un_defs.proofs.Locality.{or_both}
use Rattle.un_defs.proofs.Rising.{Among}
use Rattle.un_defs.proofs.Unique.{from_all}
use Rattle.un_index.specs.Kept.{stars_of}
use Rattle.un_dirty.specs.Areas.{has_area, areas_gone}
use Rattle.un_ask.specs.declared.request.Command.{Command}
use Rattle.un_ask.specs.declared.request.Command.TheVariants as command
use Rattle.un_machine.specs.Logs.{Leads}
use Rattle.un_tiers.specs.declared.setup.Setup.{Setup}
use Rattle.un_core.specs.State.{State}
use Rattle.un_core.specs.Validation.{met, unmet, is_under}
use Rattle.un_core.specs.Step.{made_at, made_by_all, rule_of, ruled, next_state, dirtied_by}
use Rattle.un_core.specs.History.{made_by, clears}
use Rattle.un_core.specs.Cover.{IsState}
use Rattle.un_core.specs.Commands.{step}
use Rattle.un_core.specs.Logs.{LogEntry}
use Rattle.un_core.specs.Preparing.{is_touched}
use Rattle.un_core.specs.Changes.{is_cleared, may_differ, KeptElsewhereLaw}
use Rattle.un_core.proofs.Accepted.{may_happen, same_setup}
use Rattle.un_core.proofs.CoverKept.{cover_is_kept}
use Rattle.un_core.proofs.HistoryKept.{filter_all, made_areas, made_kept, ruled_areas, ruled_kept}
use Rattle.un_core.proofs.LookUps.{sorted_map}
use Rattle.un_core.proofs.Logs.{done}
use Rattle.un_core.proofs.Numbers.{any_enumerated}
use Rattle.un_core.proofs.Rebuilding.{rebuilt_elsewhere}

abbrev Area : Type 0
Area = ℕ × Rectangle

-- ---- tests of lists

both_false : (a b : Bool) → a ≡ false → b ≡ false → (a || b) ≡ false
both_false a b e f = ap (λ x. x || b) e ∙ f

-- what passes in no element passes in none of those that are left
any_fewer : {A : Type 0} (test left : A → Bool) (xs : List A) → list_any test xs ≡ false → list_any test (filter left xs) ≡ false
any_fewer test left [] h = refl
any_fewer test left (x ∷ xs) h =
    let both = or_both (test x) (list_any test xs) h in
    let rest = any_fewer test left xs both.1 in
    elim (left x) as (λ b. list_any test (cond b (x ∷ filter left xs) (filter left xs)) ≡ false) [
      | true ↦ both_false (test x) (list_any test (filter left xs)) both.0 rest
      | false ↦ rest
    ]

-- also where elements were left out before
any_inner : {A : Type 0} (test out left : A → Bool) (xs : List A) → list_any test (filter out xs) ≡ false → list_any test (filter out (filter left xs)) ≡ false
any_inner test out left [] h = refl
any_inner test out left (x ∷ xs) h =
    elim (left x) as (λ b. list_any test (filter out (cond b (x ∷ filter left xs) (filter left xs))) ≡ false) [
      | true ↦ elim (out x) as (λ b. list_any test (cond b (x ∷ filter out xs) (filter out xs)) ≡ false → list_any test (cond b (x ∷ filter out (filter left xs)) (filter out (filter left xs))) ≡ false) [
        | true ↦ λ h. let both = or_both (test x) (list_any test (filter out xs)) h in both_false (test x) (list_any test (filter out (filter left xs))) both.0 (any_inner test out left xs both.1)
        | false ↦ λ h. any_inner test out left xs h
      ] h
      | false ↦ any_inner test out left xs (tail (out x) h)
    ]
  where
    tail : (b : Bool) → list_any test (cond b (x ∷ filter out xs) (filter out xs)) ≡ false → list_any test (filter out xs) ≡ false
    tail true h = (or_both (test x) (list_any test (filter out xs)) h).1
    tail false h = h

-- and where those that are left are among others
any_less : {A : Type 0} (test less more : A → Bool) (xs : List A) → ((x : A) → Among xs x → less x ≡ true → more x ≡ true)
    → list_any test (filter more xs) ≡ false → list_any test (filter less xs) ≡ false
any_less test less more [] within h = refl
any_less test less more (x ∷ xs) within h = go (less x) (more x) refl refl h (any_less test less more xs (λ y i. within y (inr i)))
  where
    go : (a b : Bool) → less x ≡ a → more x ≡ b → list_any test (cond b (x ∷ filter more xs) (filter more xs)) ≡ false
        → (list_any test (filter more xs) ≡ false → list_any test (filter less xs) ≡ false)
        → list_any test (cond a (x ∷ filter less xs) (filter less xs)) ≡ false
    go true true e f h rest =
        let both = or_both (test x) (list_any test (filter more xs)) h in
        both_false (test x) (list_any test (filter less xs)) both.0 (rest both.1)
    go true false e f h rest = absurd (true≢false (sym (within x (inl refl) e) ∙ f))
    go false true e f h rest = rest (or_both (test x) (list_any test (filter more xs)) h).1
    go false false e f h rest = rest h

-- ---- numbers of areas

unlike : (a b : ℕ) → a ≢ b → (a == b) ≡ false
unlike a b differ = go (a == b) refl
  where
    go : (x : Bool) → (a == b) ≡ x → x ≡ false
    go true e = absurd (differ (eqb-true a b e))
    go false e = refl

-- the numbers that are given next are not lower ones
none_new : (n first : ℕ) (rects : List Rectangle) → n < first → has_area (enumerate_from first rects) n ≡ false
none_new n first [] below = refl
none_new n first (r ∷ rects) below =
    both_false (first == n) (has_area (enumerate_from (first + 1) rects) n)
    (unlike first n (λ same. above first n below same))
    (none_new n (first + 1) rects (omega (arith, below)))
  where
    above : (first n : ℕ) → n < first → first ≡ n → ⊥
    above first n below same = omega (arith, below, same)

none_other : (area : Area) (areas : List Area) → ((other : Area) → Among areas other → area.0 ≢ other.0) → has_area areas area.0 ≡ false
none_other area [] apart = refl
none_other area (x ∷ areas) apart =
    both_false (x.0 == area.0) (has_area areas area.0)
    (unlike x.0 area.0 (λ same. apart x (inl refl) (sym same)))
    (none_other area areas (λ other i. apart other (inr i)))

-- of areas with numbers of their own, one that is left out leaves none with its number
alone : (out : Area → Bool) (areas : List Area) → AreNumbered areas → (area : Area) → Among areas area → out area ≡ true
    → has_area (filter (λ a. not (out a)) areas) area.0 ≡ false
alone out [] numbered area h e = absurd h
alone out (x ∷ areas) numbered area h e =
    let tail : AreNumbered areas = λ i j d l m. numbered (suc i) (suc j) d (omega (arith, l)) (omega (arith, m)) in
    let head : (w : Area) → Among areas w → x.0 ≢ w.0 = from_all (λ w. x.0 ≢ w.0) areas (λ k d l. numbered zero (suc k) d (omega arith) (omega (arith, l))) in
    elim h [
      | inl same ↦
          let here : out x ≡ true = ap out same ∙ e in
          let rest : has_area areas x.0 ≡ false = none_other x areas head in
          subst (λ (a : Area). has_area (filter (λ a. not (out a)) (x ∷ areas)) a.0 ≡ false) same
          (ap (λ b. has_area (cond (not b) (x ∷ filter (λ a. not (out a)) areas) (filter (λ a. not (out a)) areas)) x.0) here
          ∙ any_fewer (λ a. a.0 == x.0) (λ a. not (out a)) areas rest)
      | inr i ↦
          let rest = alone out areas tail area i e in
          elim (out x) as (λ b. has_area (cond (not b) (x ∷ filter (λ a. not (out a)) areas) (filter (λ a. not (out a)) areas)) area.0 ≡ false) [
            | true ↦ rest
            | false ↦ both_false (x.0 == area.0) (has_area (filter (λ a. not (out a)) areas) area.0) (unlike x.0 area.0 (head area i)) rest
          ]
    ]

-- ---- one command

-- the areas that a command clears are gone, and those that it makes have the next numbers
pub record IsOneStep (s : State) (c : Command) (t : State) : Type 0 where
  pub areas : t.areas ≡ filter (λ area. not (clears area c)) s.areas ++ made_by s c
  pub next : s.next_area ≤ t.next_area

-- a command that clears nothing
added : (s : State) (c : Command) (t : State) → ((area : Area) → clears area c ≡ false) → t.areas ≡ s.areas ++ made_by s c
    → t.areas ≡ filter (λ area. not (clears area c)) s.areas ++ made_by s c
added s c t none is = is ∙ ap (λ l. l ++ made_by s c) (sym (filter_all s.areas) ∙ (λ i. filter (λ area. not (sym (none area) i)) s.areas))

made_next : (s : State) (es : List Edit) → s.next_area ≤ (made_by_all s es).next_area
made_next s [] = omega arith
made_next s (e ∷ es) = let rest : s.next_area + length (dirtied s.features e) ≤ (made_by_all (made_at 0 s e) es).next_area = made_next (made_at 0 s e) es in omega (arith, rest)

ruled_next : (s : State) (o : Option Rule) → s.next_area ≤ (ruled s o).next_area
ruled_next s None = omega arith
ruled_next s (Some rule) = omega arith

pub one_step : (s : State) (c : Command) → IsOneStep s c (next_state s c)
one_step s (command.Edit e) = record { areas = added s (command.Edit e) (next_state s (command.Edit e)) (λ area. refl) refl; next = omega arith }
one_step s (command.Batch es) = record {
  areas = added s (command.Batch es) (next_state s (command.Batch es)) (λ area. refl) (made_areas s es);
  next = made_next s es;
}
one_step s (command.Validate extent) = record { areas = sym (append-nil (unmet extent s.areas)); next = omega arith }
one_step s (command.Update tier subnet) = record {
  areas = added s (command.Update tier subnet) (next_state s (command.Update tier subnet)) (λ area. refl) (sym (append-nil s.areas));
  next = omega arith;
}
one_step s (command.Rule named) = record {
  areas = added s (command.Rule named) (next_state s (command.Rule named)) (λ area. refl) (ruled_areas s (rule_of s named));
  next = ruled_next s (rule_of s named);
}

-- a point over which it clears no area keeps its star
step_keeps : (s : State) (c : Command) → IsState s → (p : Point) → is_under (filter (λ area. clears area c) s.areas) p ≡ false
    → stars_of (next_state s c).kept p ≡ stars_of s.kept p
step_keeps s (command.Edit e) is p none = refl
step_keeps s (command.Batch es) is p none = ap (λ kept. stars_of kept p) (made_kept s es)
step_keeps s (command.Validate extent) is p none = rebuilt_elsewhere s (met extent s.areas) (sorted_map s.kept is.sorted) p none
step_keeps s (command.Update tier subnet) is p none = refl
step_keeps s (command.Rule named) is p none = ap (λ kept. stars_of kept p) (ruled_kept s (rule_of s named))

-- a number that was given, and that no area has any more, is not given again
step_gone : (s : State) (c : Command) (n : ℕ) → n < s.next_area → has_area (filter (λ area. not (clears area c)) s.areas) n ≡ false
    → has_area (next_state s c).areas n ≡ false
step_gone s c n below gone =
    ap (λ areas. has_area areas n) (one_step s c).areas
    ∙ list_any-append (λ a. a.0 == n) (filter (λ area. not (clears area c)) s.areas) (made_by s c)
    ∙ both_false (has_area (filter (λ area. not (clears area c)) s.areas) n) (has_area (made_by s c) n) gone (none_new n s.next_area (dirtied_by s c) below)

stays_gone : (s : State) (es : List LogEntry) (t : State) (n : ℕ) → Leads step s es t → n < s.next_area → has_area s.areas n ≡ false → has_area t.areas n ≡ false
stays_gone s [] t n leads below gone = ap (λ (u : State). has_area u.areas n) (sym leads) ∙ gone
stays_gone s (e ∷ es) t n leads below gone =
    let one = done s e.cmd leads.0 (e.reply, e.mark) leads.1 in
    let next = (one_step s e.cmd).next in
    let under : n < (next_state s e.cmd).next_area = omega (arith, below, next) in
    let none = step_gone s e.cmd n below (any_fewer (λ a. a.0 == n) (λ area. not (clears area e.cmd)) s.areas gone) in
    stays_gone leads.0 es t n leads.2 (subst (λ (u : State). n < u.next_area) one.1.0 under) (subst (λ (u : State). has_area u.areas n ≡ false) one.1.0 none)

-- ---- a log

module _ (p : Point) where
  abbrev over : Area → Bool
  over area = covers area.1 p

  abbrev touches : LogEntry → Bool
  touches e = list_any (λ r. covers r p) e.mark

  module _ (s : State) (is : IsState s) (e : LogEntry) (es : List LogEntry) (m t : State)
      (now : next_state s e.cmd ≡ m) (marks : dirtied_by s e.cmd ≡ e.mark) (leads : Leads step m es t) (none : is_cleared s t p ≡ false) where
    -- an area that the command clears is not there in the end
    cleared_goes : (area : Area) → Among s.areas area → clears area e.cmd ≡ true → not (has_area t.areas area.0) ≡ true
    cleared_goes area i out =
        let given : area.0 < s.next_area = from_all (λ area. area.0 < s.next_area) s.areas is.numbers area i in
        let next = (one_step s e.cmd).next in
        let under : area.0 < (next_state s e.cmd).next_area = omega (arith, given, next) in
        let gone = step_gone s e.cmd area.0 given (alone (λ area. clears area e.cmd) s.areas is.numbered area i out) in
        ap not (stays_gone m es t area.0 leads (subst (λ (u : State). area.0 < u.next_area) now under) (subst (λ (u : State). has_area u.areas area.0 ≡ false) now gone))

    -- so the command clears none over the point
    none_here : is_under (filter (λ area. clears area e.cmd) s.areas) p ≡ false
    none_here = any_less over (λ area. clears area e.cmd) (λ area. not (has_area t.areas area.0)) s.areas cleared_goes none

    -- and neither do the others
    none_later : touches e ≡ false → is_cleared m t p ≡ false
    none_later clean =
        let gone : Area → Bool = λ area. not (has_area t.areas area.0) in
        let left = filter (λ area. not (clears area e.cmd)) s.areas in
        let made = made_by s e.cmd in
        ap (λ (u : State). is_under (areas_gone u.areas t.areas) p) (sym now)
        ∙ ap (λ areas. is_under (areas_gone areas t.areas) p) (one_step s e.cmd).areas
        ∙ ap (λ areas. is_under areas p) (filter-append gone left made)
        ∙ list_any-append over (filter gone left) (filter gone made)
        ∙ both_false (list_any over (filter gone left)) (list_any over (filter gone made))
        (any_inner over gone (λ area. not (clears area e.cmd)) s.areas none)
        (any_fewer over gone made (any_enumerated (λ r. covers r p) s.next_area (dirtied_by s e.cmd) ∙ ap (list_any (λ r. covers r p)) marks ∙ clean))

  stays : (s : State) (es : List LogEntry) (t : State) → IsState s → IsCatalog s.setup.schema → Leads step s es t → may_differ s es t p ≡ false
      → stars_of t.kept p ≡ stars_of s.kept p
  stays s [] t is schema leads same = ap (λ (u : State). stars_of u.kept p) (sym leads)
  stays s (e ∷ es) t is schema leads same =
      let one = done s e.cmd leads.0 (e.reply, e.mark) leads.1 in
      let may = may_happen s e.cmd is schema one.0 in
      let next = subst IsState one.1.0 (cover_is_kept s e.cmd is may) in
      let catalog = subst (λ (S : Setup). IsCatalog S.schema) (sym (same_setup s e.cmd) ∙ ap (λ (u : State). u.setup) one.1.0) schema in
      let parts = or_both (is_cleared s t p) (is_touched (e ∷ es) p) same in
      let clean = or_both (touches e) (is_touched es p) parts.1 in
      let here = none_here s is e es leads.0 t one.1.0 one.1.1 leads.2 parts.0 in
      let later = none_later s is e es leads.0 t one.1.0 one.1.1 leads.2 parts.0 clean.0 in
      stays leads.0 es t next catalog leads.2 (both_false (is_cleared leads.0 t p) (is_touched es p) later clean.1)
      ∙ ap (λ (u : State). stars_of u.kept p) (sym one.1.0)
      ∙ step_keeps s e.cmd is p here

pub kept_elsewhere : KeptElsewhereLaw
kept_elsewhere s t es is schema leads p same = stays p s es t is schema leads same
