-- What a run does whose first line is a schema, by the status that it ends with.
use Rattle.std.specs.Prelude.{◌≡◌, ◌⊎◌, ℕ, ◌^◌, ◌<◌, ◌≤◌, true, false, List, [], Option, Some, length}
use Rattle.std.specs.Io.KnownBytes.{IsAtEnd}
use Rattle.un_io.specs.Outside.{Rose}
use Rattle.un_lines.specs.Cut.{lines_of}
use Rattle.un_lines.specs.Rules.{Rules}
use Rattle.un_lines.specs.Due.{Opens, IsCutShort, first_of}
use Rattle.un_lines.specs.Ending.{Ran}
use Rattle.un_script.specs.Opening.{IsServedBy, IsUnrefusedBy, IsRefusedAs}

-- What the status says of the bytes left and taken before and after a run by these rules, and of the counts of faults.
pub record RunsBy {S : Type 0} (rules : Rules S) (left left' taken taken' : Option (List ℕ)) (reads reads' writes writes' status : ℕ) : Type 0 where
  -- 0: the input was read to its end, and all that is due is written
  pub ended : status ≡ 0 → Ran left left' taken taken' (λ read out. (length read < 2 ^ 32) × IsServedBy rules read true Opens out)
  pub at_end : status ≡ 0 → IsAtEnd left'
  -- 3: the source failed; what is due for the whole lines is written, and no first line was refused
  pub source_fault : status ≡ 3 → Ran left left' taken taken' (λ read out. (length read < 2 ^ 32) × IsUnrefusedBy rules read out)
  pub source_cause : status ≡ 3 → Rose reads reads'
  -- 4: the sink failed; a prefix of what is due is written, and some of it is not
  pub sink_fault : status ≡ 4 → Ran left left' taken taken' (λ read out. (length read ≤ 2 ^ 32) × IsCutShort rules read true out × (IsCutShort rules read false out ⊎ IsAtEnd left'))
  pub sink_cause : status ≡ 4 → Rose writes writes'
  -- 6: the first line that isn't blank is no schema, or the input ended without one; the refusal alone is written, with the first bad place
  pub refused : status ≡ 6 → Ran left left' taken taken' (λ read out. (length read ≤ 2 ^ 32) × IsRefusedAs rules read left' out)
  -- 7: there was no memory to begin, and nothing is written
  pub no_memory : status ≡ 7 → Ran left left' taken taken' (λ read out. (length read ≤ 2 ^ 32) × (out ≡ []))
  -- 8: so many bytes were read; what is due for the whole lines is written, and no first line was refused
  pub limit : status ≡ 8 → Ran left left' taken taken' (λ read out. (length read ≡ 2 ^ 32) × IsUnrefusedBy rules read out)
  -- with a schema, no fault and fewer bytes than the limit, it is 0, or 7 for want of memory
  pub complete : (bytes : List ℕ) → left ≡ Some bytes → first_of rules (lines_of true bytes) ≡ Opens → length bytes < 2 ^ 32
      → ¬ Rose reads reads' → ¬ Rose writes writes' → (status ≡ 0) ⊎ (status ≡ 7)
