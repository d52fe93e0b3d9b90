-- Where the first line is refused, its refusal is all that is due.
use Rattle.std.proofs.Common.{◌≡◌, ◌≢◌, ◌⊎◌, inl, inr, ℕ, Bool, true, false, List, [], ◌∷◌, ◌++◌, Option, Some, None, refl, ap, sym, ◌∙◌, append-nil}
use Rattle.std.specs.List.{slice_split}
use Rattle.un_lines.specs.Cut.{is_line_end, lines_of}
use Rattle.un_lines.specs.Rules.{Rules, Opening, Refused as Closed, kind_of}
use Rattle.un_lines.specs.Due.{First, Missing, Opens, Refuses, first_of, due_from, behind_reply, IsRefused, IsServed}
use Rattle.un_lines.specs.declared.line.Kind.{Kind}
use Rattle.un_lines.specs.declared.line.Kind.TheVariants.{TooLong, Blank, Request}
use Rattle.un_schema.specs.declared.place.Place.TheVariants as place
use Rattle.un_schema_json.specs.Lines.{schema_of}
use Rattle.un_replies.specs.Replies.{print}
use Rattle.un_script.specs.Opening.{OpensBySchema, bad_schema, bad_place, refusal_line, refused_place, IsRefusedAs, IsServedBy, IsUnrefusedBy}

module _ {S : Type 0} (rules : Rules S) where
  -- behind a refused first line nothing is due
  silent : (ended : Bool) (lines texts : List (List ℕ)) → due_from rules ended Closed lines texts ≡ []
  silent true [] texts = refl
  silent false [] texts = refl
  silent ended (line ∷ lines) texts = silent ended lines texts

  -- the first line is refused, or there is none once the input has ended
  IsTurnedAway : Bool → First → Type 0
  IsTurnedAway ended first = (first ≡ Refuses) ⊎ ((ended ≡ true) × (first ≡ Missing))

  turned_away : OpensBySchema rules → (ended : Bool) (lines texts : List (List ℕ)) → IsTurnedAway ended (first_of rules lines)
      → due_from rules ended Opening lines texts ≡ refusal_line (refused_place lines)
  unfolding IsTurnedAway
  turned_away schema true [] texts away = ap (λ text. text ++ 10 ∷ []) schema.refuses_missing
  turned_away schema false [] texts (inl is) = cc
  turned_away schema false [] texts (inr is) = cc
  turned_away schema ended (line ∷ lines) texts away = go (kind_of line) refl (rules.opened line) refl away (turned_away schema ended lines)
    where
      alone : (text other : List ℕ) → text ≡ other → (text ++ 10 ∷ []) ++ due_from rules ended Closed lines (behind_reply (Some text) texts) ≡ other ++ 10 ∷ []
      alone text other is = ap (λ rest. (text ++ 10 ∷ []) ++ rest) (silent ended lines (behind_reply (Some text) texts)) ∙ append-nil (text ++ 10 ∷ []) ∙ ap (λ t. t ++ 10 ∷ []) is

      go : (kind : Kind) → kind_of line ≡ kind → (opened : Option S) → rules.opened line ≡ opened → IsTurnedAway ended (first_of rules (line ∷ lines))
          → ((later : List (List ℕ)) → IsTurnedAway ended (first_of rules lines) → due_from rules ended Opening lines later ≡ refusal_line (refused_place lines))
          → due_from rules ended Opening (line ∷ lines) texts ≡ refusal_line (refused_place (line ∷ lines))
      go TooLong is opened opens away later = rw is (alone rules.refusal_too_long (print (bad_schema place.Line)) schema.refuses_too_long)
      go Blank is opened opens away later = rw is (later texts (rw is at away))
      go Request is None opens away later = rw (is, opens) (alone (rules.refusal line) (print (bad_schema (bad_place (schema_of line)))) (schema.refuses line))
      go Request is (Some state) opens (inl away) later = let first : Opens ≡ Refuses = rw (is, opens) at away in cc
      go Request is (Some state) opens (inr away) later = let first : Opens ≡ Missing = rw (is, opens) at away.1 in cc

  pub refused_alone : OpensBySchema rules → (read : List ℕ) (left : Option (List ℕ)) (out : List ℕ) → IsRefused rules read left out → IsRefusedAs rules read left out
  unfolding IsTurnedAway
  refused_alone schema read left out refused = record {
    refused = refused;
    alone = refused.is_due ∙ turned_away schema refused.ended (lines_of refused.ended read) (slice_split is_line_end out) refused.first;
  }

  -- where a state was opened, the first line opened it
  pub served_opened : (read : List ℕ) (state : Option S) (out : List ℕ) → state ≢ None → IsServed rules read true state out → IsServedBy rules read true Opens out
  served_opened read None out opened served = absurd (opened refl)
  served_opened read (Some s) out opened served = record { is_due = served.is_due; first_is = served.first }

  -- where a state was opened or no first line has come, no first line is refused
  pub served_unrefused : (read : List ℕ) (state : Option S) (out : List ℕ) → IsServed rules read false state out → IsUnrefusedBy rules read out
  served_unrefused read None out served = record { is_due = served.is_due; first_is = λ e. let h : Missing ≡ Refuses = sym served.first ∙ e in cc }
  served_unrefused read (Some s) out served = record { is_due = served.is_due; first_is = λ e. let h : Opens ≡ Refuses = sym served.first ∙ e in cc }
