-- What is kept, and what is dirty, is what the history tells.
use Rattle.std.proofs.Common.{◌≡◌, ◌||◌, ◌&&◌, ℕ, ◌+◌, Bool, true, false, not, cond, List, [], ◌∷◌, ◌++◌, length, filter, Option, None, Some, refl, sym, ap, ◌∙◌, arith, if◌then◌else◌}
use Rattle.std.specs.List.{list_any, enumerate_from}
use Rattle.std.proofs.lemmas.List.{append-nil, append_assoc}
use Rattle.un_geom.specs.declared.point.Point.{Point}
use Rattle.un_geom.specs.Rectangle.{Rectangle}
use Rattle.un_geom.specs.Places.{covers, meets}
use Rattle.un_schema.specs.declared.rule.Rule.{Rule}
use Rattle.un_defs.specs.declared.edit.Edit.{Edit}
use Rattle.un_defs.specs.Dirtied.{dirtied}
use Rattle.un_defs.proofs.ListLemmas.{filter-append}
use Rattle.un_index.specs.Kept.{stars_of}
use Rattle.un_ask.specs.declared.request.Command.{Command}
use Rattle.un_ask.specs.declared.request.Command.TheVariants as command
use Rattle.un_tiers.specs.declared.setup.Setup.{Setup}
use Rattle.un_core.specs.State.{State, fresh_star}
use Rattle.un_core.specs.Validation.{met, unmet, is_under, rebuilt}
use Rattle.un_core.specs.Step.{made_at, made_by_all, dirtied_by_batch, rule_of, ruled, dirtied_by_rule}
use Rattle.un_core.specs.History.{after_all, made_by, clears, alive_under, dirty_after, kept_after, rebuilds}
use Rattle.un_core.specs.Cover.{IsState, IsOfHistory, HistoryLaw}
use Rattle.un_core.proofs.LookUps.{sorted_map}
use Rattle.un_core.proofs.Rebuilding.{rebuilt_under, rebuilt_elsewhere}
use Rattle.un_core.proofs.Opening.{all_states}

-- ---- filters

filter_both : {A : Type 0} (p q r : A → Bool) → ((x : A) → r x ≡ (q x && p x)) → (xs : List A) → filter r xs ≡ filter p (filter q xs)
filter_both p q r h [] = refl
filter_both p q r h (x ∷ xs) = ap (λ b. cond b (x ∷ filter r xs) (filter r xs)) (h x) ∙ go (q x) (filter_both p q r h xs)
  where
    go : (b : Bool) → filter r xs ≡ filter p (filter q xs) → cond (b && p x) (x ∷ filter r xs) (filter r xs) ≡ filter p (cond b (x ∷ filter q xs) (filter q xs))
    go true rest = ap (λ l. cond (p x) (x ∷ l) l) rest
    go false rest = rest

pub filter_all : {A : Type 0} (xs : List A) → filter (λ x. true) xs ≡ xs
filter_all [] = refl
filter_all (x ∷ xs) = ap (λ l. x ∷ l) (filter_all xs)

any_filtered : {A : Type 0} (c m : A → Bool) (xs : List A) → list_any c (filter m xs) ≡ list_any (λ x. m x && c x) xs
any_filtered c m [] = refl
any_filtered c m (x ∷ xs) = go (m x) (any_filtered c m xs)
  where
    go : (b : Bool) → list_any c (filter m xs) ≡ list_any (λ x. m x && c x) xs → list_any c (cond b (x ∷ filter m xs) (filter m xs)) ≡ ((b && c x) || list_any (λ x. m x && c x) xs)
    go true rest = ap (λ r. c x || r) rest
    go false rest = rest

any_pushed : {A : Type 0} (t : A → Bool) (xs : List A) (x : A) → not (list_any t (xs ++ x ∷ [])) ≡ (not (list_any t xs) && not (t x))
any_pushed t [] x = ap not (or_false (t x))
  where
    or_false : (b : Bool) → (b || false) ≡ b
    or_false true = refl
    or_false false = refl
any_pushed t (y ∷ ys) x = go (t y) (any_pushed t ys x)
  where
    go : (b : Bool) → not (list_any t (ys ++ x ∷ [])) ≡ (not (list_any t ys) && not (t x)) → not (b || list_any t (ys ++ x ∷ [])) ≡ (not (b || list_any t ys) && not (t x))
    go true rest = refl
    go false rest = rest

-- ---- areas

-- one command more clears the areas that it clears
alive_later : (S : Setup) (later : List Command) (e : Command) (before : List Command)
    → alive_under S (later ++ e ∷ []) before ≡ filter (λ area. not (clears area e)) (alive_under S later before)
alive_later S later e [] = refl
alive_later S later e (d ∷ before) =
    (λ i. alive_later S (d ∷ later) e before i ++ made i)
    ∙ sym (filter-append (λ area. not (clears area e)) (alive_under S (d ∷ later) before) (filter (λ area. not (list_any (clears area) later)) (made_by (after_all S before) d)))
  where
    made : filter (λ area. not (list_any (clears area) (later ++ e ∷ []))) (made_by (after_all S before) d)
        ≡ filter (λ area. not (clears area e)) (filter (λ area. not (list_any (clears area) later)) (made_by (after_all S before) d))
    made = filter_both (λ area. not (clears area e)) (λ area. not (list_any (clears area) later)) (λ area. not (list_any (clears area) (later ++ e ∷ [])))
        (λ area. any_pushed (clears area) later e) (made_by (after_all S before) d)

-- a command that clears nothing leaves the areas that it makes behind those that were there
grown : (S : Setup) (e : Command) (before : List Command) → ((area : ℕ × Rectangle) → clears area e ≡ false) → IsOfHistory S before
    → (after_all S before).areas ++ made_by (after_all S before) e ≡ dirty_after S (e ∷ before)
grown S e before none before_is = λ i. (before_is.areas ∙ stays ∙ sym (alive_later S [] e before)) i ++ sym (filter_all (made_by (after_all S before) e)) i
  where
    stays : dirty_after S before ≡ filter (λ area. not (clears area e)) (dirty_after S before)
    stays = sym (filter_all (dirty_after S before)) ∙ (λ i. filter (λ area. not (sym (none area) i)) (dirty_after S before))

-- ---- batches

enumerate_both : {A : Type 0} (first : ℕ) (xs ys : List A) → enumerate_from first (xs ++ ys) ≡ enumerate_from first xs ++ enumerate_from (first + length xs) ys
enumerate_both first [] ys = ap (λ n. enumerate_from n ys) (omega arith)
enumerate_both first (x ∷ xs) ys =
    ap (λ l. (first, x) ∷ l) (enumerate_both (first + 1) xs ys ∙ ap (λ n. enumerate_from (first + 1) xs ++ enumerate_from n ys) (omega arith))

-- a batch makes the areas of its edits, and keeps the topology
pub made_areas : (s : State) (es : List Edit) → (made_by_all s es).areas ≡ s.areas ++ enumerate_from s.next_area (dirtied_by_batch s es)
made_areas s [] = sym (append-nil s.areas)
made_areas s (e ∷ es) =
    let first = enumerate_from s.next_area (dirtied s.features e) in
    let rest = dirtied_by_batch (made_at 0 s e) es in
    made_areas (made_at 0 s e) es
    ∙ append_assoc s.areas first (enumerate_from (s.next_area + length (dirtied s.features e)) rest)
    ∙ ap (λ l. s.areas ++ l) (sym (enumerate_both s.next_area (dirtied s.features e) rest))

pub made_kept : (s : State) (es : List Edit) → (made_by_all s es).kept ≡ s.kept
made_kept s [] = refl
made_kept s (e ∷ es) = made_kept (made_at 0 s e) es

-- ---- rules

pub ruled_areas : (s : State) (o : Option Rule) → (ruled s o).areas ≡ s.areas ++ enumerate_from s.next_area (dirtied_by_rule s o)
ruled_areas s None = sym (append-nil s.areas)
ruled_areas s (Some rule) = refl

pub ruled_kept : (s : State) (o : Option Rule) → (ruled s o).kept ≡ s.kept
ruled_kept s None = refl
ruled_kept s (Some rule) = refl

-- ---- stars

validated_kept : (S : Setup) (before : List Command) (extent : Rectangle) (p : Point) → IsState (after_all S before) → IsOfHistory S before
    → stars_of (after_all S (command.Validate extent ∷ before)).kept p ≡ kept_after S (command.Validate extent ∷ before) p
validated_kept S before extent p is before_is = go (is_under (met extent (after_all S before).areas) p) refl
  where
    same : is_under (met extent (after_all S before).areas) p ≡ rebuilds S before (command.Validate extent) p
    same = any_filtered (λ area. covers area.1 p) (λ area. meets area.1 extent) (after_all S before).areas ∙ ap (list_any (λ area. meets area.1 extent && covers area.1 p)) before_is.areas

    go : (b : Bool) → is_under (met extent (after_all S before).areas) p ≡ b
        → stars_of (rebuilt (after_all S before) (met extent (after_all S before).areas)) p ≡ (if rebuilds S before (command.Validate extent) p then fresh_star (after_all S before) p else kept_after S before p)
    go true e = rebuilt_under (after_all S before) (met extent (after_all S before).areas) is.sound (sorted_map (after_all S before).kept is.sorted) p e ∙ ap (λ b. if b then fresh_star (after_all S before) p else kept_after S before p) (sym e ∙ same)
    go false e =
        rebuilt_elsewhere (after_all S before) (met extent (after_all S before).areas) (sorted_map (after_all S before).kept is.sorted) p e ∙ before_is.kept p ∙ ap (λ b. if b then fresh_star (after_all S before) p else kept_after S before p) (sym e ∙ same)

-- ---- both

pub kept_is_history : HistoryLaw
kept_is_history S [] may = record { areas = refl; kept = λ p. refl }
kept_is_history S (command.Edit e ∷ before) may =
    let before_is = kept_is_history S before may.1 in
    record { areas = grown S (command.Edit e) before (λ area. refl) before_is; kept = before_is.kept }
kept_is_history S (command.Batch es ∷ before) may =
    let before_is = kept_is_history S before may.1 in
    record {
      areas = made_areas (after_all S before) es ∙ grown S (command.Batch es) before (λ area. refl) before_is;
      kept = λ p. ap (λ kept. stars_of kept p) (made_kept (after_all S before) es) ∙ before_is.kept p;
    }
kept_is_history S (command.Validate extent ∷ before) may =
    let before_is = kept_is_history S before may.1 in
    record {
      areas = ap (unmet extent) before_is.areas ∙ sym (alive_later S [] (command.Validate extent) before) ∙ sym (append-nil (alive_under S (command.Validate extent ∷ []) before));
      kept = λ p. validated_kept S before extent p (all_states S before may.1) before_is;
    }
kept_is_history S (command.Rule named ∷ before) may =
    let before_is = kept_is_history S before may.1 in
    let s = after_all S before in
    record {
      areas = ruled_areas s (rule_of s named) ∙ grown S (command.Rule named) before (λ area. refl) before_is;
      kept = λ p. ap (λ kept. stars_of kept p) (ruled_kept s (rule_of s named)) ∙ before_is.kept p;
    }
kept_is_history S (command.Update tier subnet ∷ before) may =
    let before_is = kept_is_history S before may.1 in
    record { areas = sym (append-nil (after_all S before).areas) ∙ grown S (command.Update tier subnet) before (λ area. refl) before_is; kept = before_is.kept }
