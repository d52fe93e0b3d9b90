-- What the status of a run says, by how its lines ended.
use Rattle.std.proofs.Common.{◌≡◌, ◌≢◌, ◌⊎◌, inl, inr, ℕ, ◌<◌, ◌≤◌, true, false, List, [], Option, None, Some, length, refl}
use Rattle.std.specs.Io.KnownBytes.{IsAtEnd}
use Rattle.un_io.specs.Outside.{Rose}
use Rattle.un_lines.specs.Cut.{most_bytes, lines_of}
use Rattle.un_lines.specs.Due.{Opens, IsServed, IsRefused, IsInterrupted, first_of}
use Rattle.un_lines.specs.Ending.{Ran, Ran-weaker}
use Rattle.un_lines.specs.declared.run.Ending.{Ending}
use Rattle.un_lines.specs.declared.run.Ending.TheVariants as ending
use Rattle.un_lines.specs.Rules.{Rules}
use Rattle.un_script.specs.Opening.{OpensBySchema}
use Rattle.un_script.specs.Statuses.{RunsBy}
use Rattle.un_script.proofs.Refusals.{refused_alone, served_opened, served_unrefused}

module _ {S : Type 0} (rules : Rules S) (left left' taken taken' : Option (List ℕ)) (reads reads' writes writes' : ℕ) where
  -- the status with what it says
  abbrev pub Says : ℕ → Type 0
  Says status = RunsBy rules left left' taken taken' reads reads' writes writes' status

  -- with a schema and no fault, a run ends at the end of the input, or for want of memory
  abbrev pub Completes : Ending → Type 0
  Completes end = (bytes : List ℕ) → left ≡ Some bytes → first_of rules (lines_of true bytes) ≡ Opens → length bytes < most_bytes
      → end ≢ ending.SourceFault → end ≢ ending.SinkFault → (end ≡ ending.Ended) ⊎ (end ≡ ending.Memory)

  pub ended : (state : Option S) → Ran left left' taken taken' (λ read out. (length read < most_bytes) × IsServed rules read true state out) → state ≢ None → IsAtEnd left' → Says 0
  ended state ran opened at_end = record {
    ended = λ e. Ran-weaker _ _ _ _ _ _ ran (λ read out served. (served.0, served_opened rules read _ out opened served.1));
    at_end = λ e. at_end;
    source_fault = λ e. cc;
    source_cause = λ e. cc;
    sink_fault = λ e. cc;
    sink_cause = λ e. cc;
    refused = λ e. cc;
    no_memory = λ e. cc;
    limit = λ e. cc;
    complete = λ bytes given opens short source sink. inl refl;
  }

  pub source_fault : (state : Option S) → Ran left left' taken taken' (λ read out. (length read < most_bytes) × IsServed rules read false state out) → Rose reads reads' → Says 3
  source_fault state ran cause = record {
    ended = λ e. cc;
    at_end = λ e. cc;
    source_fault = λ e. Ran-weaker _ _ _ _ _ _ ran (λ read out served. (served.0, served_unrefused rules read _ out served.1));
    source_cause = λ e. cause;
    sink_fault = λ e. cc;
    sink_cause = λ e. cc;
    refused = λ e. cc;
    no_memory = λ e. cc;
    limit = λ e. cc;
    complete = λ bytes given opens short source sink. absurd (source cause);
  }

  pub sink_fault : Ran left left' taken taken' (λ read out. IsInterrupted rules read left' out) → Rose writes writes' → Says 4
  sink_fault ran cause = record {
    ended = λ e. cc;
    at_end = λ e. cc;
    source_fault = λ e. cc;
    source_cause = λ e. cc;
    sink_fault = λ e. Ran-weaker _ _ _ _ _ _ ran (λ read out cut. cut);
    sink_cause = λ e. cause;
    refused = λ e. cc;
    no_memory = λ e. cc;
    limit = λ e. cc;
    complete = λ bytes given opens short source sink. absurd (sink cause);
  }

  pub refused : OpensBySchema rules → Ran left left' taken taken' (λ read out. (length read ≤ most_bytes) × IsRefused rules read left' out) → Completes ending.Refused → Says 6
  refused schema ran completes = record {
    ended = λ e. cc;
    at_end = λ e. cc;
    source_fault = λ e. cc;
    source_cause = λ e. cc;
    sink_fault = λ e. cc;
    sink_cause = λ e. cc;
    refused = λ e. Ran-weaker _ _ _ _ _ _ ran (λ read out refused. (refused.0, refused_alone rules schema read _ out refused.1));
    no_memory = λ e. cc;
    limit = λ e. cc;
    complete = λ bytes given opens short source sink. absurd (neither (completes bytes given opens short (λ e. cc) (λ e. cc)));
  }
    where
      neither : (ending.Refused ≡ ending.Ended) ⊎ (ending.Refused ≡ ending.Memory) → ⊥
      neither (inl e) = cc
      neither (inr e) = cc

  pub memory : Ran left left' taken taken' (λ read out. (length read ≤ most_bytes) × (out ≡ [])) → Says 7
  memory ran = record {
    ended = λ e. cc;
    at_end = λ e. cc;
    source_fault = λ e. cc;
    source_cause = λ e. cc;
    sink_fault = λ e. cc;
    sink_cause = λ e. cc;
    refused = λ e. cc;
    no_memory = λ e. ran;
    limit = λ e. cc;
    complete = λ bytes given opens short source sink. inr refl;
  }

  pub limit : (state : Option S) → Ran left left' taken taken' (λ read out. (length read ≡ most_bytes) × IsServed rules read false state out) → Completes ending.Limit → Says 8
  limit state ran completes = record {
    ended = λ e. cc;
    at_end = λ e. cc;
    source_fault = λ e. cc;
    source_cause = λ e. cc;
    sink_fault = λ e. cc;
    sink_cause = λ e. cc;
    refused = λ e. cc;
    no_memory = λ e. cc;
    limit = λ e. Ran-weaker _ _ _ _ _ _ ran (λ read out served. (served.0, served_unrefused rules read _ out served.1));
    complete = λ bytes given opens short source sink. absurd (neither (completes bytes given opens short (λ e. cc) (λ e. cc)));
  }
    where
      neither : (ending.Limit ≡ ending.Ended) ⊎ (ending.Limit ≡ ending.Memory) → ⊥
      neither (inl e) = cc
      neither (inr e) = cc
