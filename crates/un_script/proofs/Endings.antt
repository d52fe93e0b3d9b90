-- What the status of a script says by its states, it says by its accepted commands.
use Rattle.std.proofs.Common.{◌≡◌, ◌⊎◌, inl, inr, ℕ, Bool, true, false, List, ◌++◌, Option, is_some, Result, Ok, Err, is_ok, refl, sym, ◌∙◌}
use Rattle.std.specs.Io.KnownBytes.{IsAtEnd}
use Rattle.un_lines.specs.Due.{First, Opens, Refuses, Missing, IsCutShort}
use Rattle.un_lines.specs.Ending.{Ran-weaker}
use Rattle.un_schema.specs.declared.place.Place.{Place}
use Rattle.un_schema.specs.Catalog.{Catalog}
use Rattle.un_tiers.specs.declared.tier.Tier.{Tier}
use Rattle.un_schema_json.specs.Lines.{schema_of}
use Rattle.un_script.specs.Opening.{OpensBySchema, IsServedBy, IsUnrefusedBy, IsRefusedAs}
use Rattle.un_script.specs.Statuses.{RunsBy}
use Rattle.un_script.specs.Script.{script, opened_by}
use Rattle.un_script.specs.History.{Headline, by_history}
use Rattle.un_script.specs.Runs.{RunsScript}

-- a schema opens a script, and nothing else does
pub opens_by_schema : OpensBySchema script
opens_by_schema = record {
  opens = λ line. opens (schema_of line);
  refuses = λ line. refl;
  refuses_too_long = refl;
  refuses_missing = refl;
}
  where
    opens : (r : Result (Catalog × List Tier) Place) → is_some (opened_by r) ≡ is_ok r
    opens (Err place) = refl
    opens (Ok schema) = refl

module _ (laws : Headline) where
  served : (read out : List ℕ) → IsServedBy script read true Opens out → IsServedBy by_history read true Opens out
  served read out is = record { is_due = is.is_due ∙ laws.same_due read true out; first_is = sym (laws.same_first read true) ∙ is.first_is }

  unrefused : (read out : List ℕ) → IsUnrefusedBy script read out → IsUnrefusedBy by_history read out
  unrefused read out is = record { is_due = is.is_due ∙ laws.same_due read false out; first_is = λ e. is.first_is (laws.same_first read false ∙ e) }

  cut : (read : List ℕ) (ended : Bool) (out : List ℕ) → IsCutShort script read ended out → IsCutShort by_history read ended out
  cut read ended out is = record { prefix = (is.prefix.0, is.prefix.1 ∙ laws.same_due read ended (out ++ is.prefix.0)); more = is.more }

  cut_or_ended : (read out : List ℕ) (left : Option (List ℕ)) → IsCutShort script read false out ⊎ IsAtEnd left → IsCutShort by_history read false out ⊎ IsAtEnd left
  cut_or_ended read out left (inl is) = inl (cut read false out is)
  cut_or_ended read out left (inr end) = inr end

  turned_away : (ended : Bool) (one other : First) → one ≡ other → (one ≡ Refuses) ⊎ ((ended ≡ true) × (one ≡ Missing)) → (other ≡ Refuses) ⊎ ((ended ≡ true) × (other ≡ Missing))
  turned_away ended one other same (inl is) = inl (sym same ∙ is)
  turned_away ended one other same (inr is) = inr (is.0, sym same ∙ is.1)

  refused : (read : List ℕ) (left : Option (List ℕ)) (out : List ℕ) → IsRefusedAs script read left out → IsRefusedAs by_history read left out
  refused read left out is =
      let r = is.refused in
      record {
        refused = record {
          ended = r.ended;
          is_due = r.is_due ∙ laws.same_due read r.ended out;
          at_end = r.at_end;
          below = r.below;
          first = turned_away r.ended _ _ (laws.same_first read r.ended) r.first;
        };
        alone = is.alone;
      }

  module _ (left left' taken taken' : Option (List ℕ)) (reads reads' writes writes' status : ℕ) (runs : RunsBy script left left' taken taken' reads reads' writes writes' status) where
    by_commands : RunsBy by_history left left' taken taken' reads reads' writes writes' status
    by_commands = record {
      ended = λ e. Ran-weaker _ _ _ _ _ _ (runs.ended e) (λ read out is. (is.0, served read out is.1));
      at_end = runs.at_end;
      source_fault = λ e. Ran-weaker _ _ _ _ _ _ (runs.source_fault e) (λ read out is. (is.0, unrefused read out is.1));
      source_cause = runs.source_cause;
      sink_fault = λ e. Ran-weaker _ _ _ _ _ _ (runs.sink_fault e) (λ read out is. (is.0, cut read true out is.1, cut_or_ended read out left' is.2));
      sink_cause = runs.sink_cause;
      refused = λ e. Ran-weaker _ _ _ _ _ _ (runs.refused e) (λ read out is. (is.0, refused read left' out is.1));
      no_memory = runs.no_memory;
      limit = λ e. Ran-weaker _ _ _ _ _ _ (runs.limit e) (λ read out is. (is.0, unrefused read out is.1));
      complete = λ bytes given opens short. runs.complete bytes given (laws.same_first bytes true ∙ opens) short;
    }

    pub runs_script : RunsScript left left' taken taken' reads reads' writes writes' status
    runs_script = record { by_states = runs; by_commands = by_commands }
