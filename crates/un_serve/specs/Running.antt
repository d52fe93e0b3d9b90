-- What the server's words are, and what its first line has to be.
use Rattle.std.specs.Prelude.{◌≡◌, ◌⊎◌, ℕ, ◌^◌, ◌<◌, Bool, true, false, List, length, Option, Some, Result, Ok, Err, ⊤}
use Rattle.un_io.specs.Outside.{Rose}
use Rattle.un_words.specs.Words.{IsCommand}
use Rattle.un_words.specs.declared.command.ProgramCommand.TheVariants.{Serve}
use Rattle.un_lines.specs.Cut.{lines_of}
use Rattle.un_lines.specs.First.{first_kept, HasRead, IsFirst}
use Rattle.un_lines.specs.declared.first.FirstLine.{FirstLine}
use Rattle.un_lines.specs.declared.first.FirstLine.TheVariants.{Line, TooLong, Missing}
use Rattle.un_lines.specs.declared.first.FirstFault.{FirstFault}
use Rattle.un_lines.specs.declared.first.FirstFault.TheVariants as first
use Rattle.un_serve.specs.declared.run.OpenFault.{OpenFault}
use Rattle.un_serve.specs.declared.run.OpenFault.TheVariants.{Source, NoSchema, Memory, Limit}
use Rattle.un_schema.specs.declared.place.Place.{Place}
use Rattle.un_schema_json.specs.Lines.{schema_of}

-- the words of a server, with any port and any number of workers
abbrev pub IsServe : List (List ℕ) → Type 0
IsServe words = (port : ℕ) × ((workers : ℕ) × IsCommand words (Serve port workers))

-- whether a line is a schema
abbrev pub is_read : {A : Type 0} → Result A Place → Bool
is_read (Ok schema) = true
is_read (Err place) = false

abbrev pub is_schema : FirstLine → Bool
is_schema (Line line) = is_read (schema_of line)
is_schema TooLong = false
is_schema Missing = false

-- the first line of the bytes that were read is a schema, or is none
pub record IsOpened (read : List ℕ) (left : Option (List ℕ)) (is : Bool) : Type 0 where
  pub first : FirstLine
  pub is_first : IsFirst read left first
  pub opens : is_schema first ≡ is

-- bytes were read up to a first line that is a schema
abbrev pub ReadsSchema : Option (List ℕ) → Option (List ℕ) → Type 0
ReadsSchema left left' = HasRead left left' (λ read. IsOpened read left' true)

-- bytes were read up to a first line that is no schema, or there is none
abbrev pub ReadsNoSchema : Option (List ℕ) → Option (List ℕ) → Type 0
ReadsNoSchema left left' = HasRead left left' (λ read. IsOpened read left' false)

-- the status where nothing fails: with a schema the door was closed, without one it is refused, or there was no memory
abbrev pub EndsWith : Bool → ℕ → Type 0
EndsWith true status = (status ≡ 0) ⊎ (status ≡ 7)
EndsWith false status = (status ≡ 6) ⊎ (status ≡ 7)

-- With the words of a server, where the source's bytes are known and below the limit, and neither source nor door fails, the first line
-- decides the status. The source and the door come with the functions that say which bytes are left, and how many faults were counted.
abbrev pub EndsByFirstLine : {S D : Type 0} → List (List ℕ) → (S → Option (List ℕ)) → (S → ℕ) → S → S → (D → ℕ) → D → D → ℕ → Type 0
EndsByFirstLine words left faults source source' door_faults door door' status =
    (bytes : List ℕ) → IsServe words → left source ≡ Some bytes → length bytes < 2 ^ 32 → ¬ (Rose (faults source) (faults source')) → ¬ (Rose (door_faults door) (door_faults door'))
    → EndsWith (is_schema (first_kept (lines_of true bytes))) status

-- why no network was opened, where the first line was not read
abbrev pub open_fault : FirstFault → OpenFault
open_fault first.Source = Source
open_fault first.Memory = Memory
open_fault first.Limit = Limit

-- where the first line is read, it decides, or there was no memory
abbrev pub Opens : {N : Type 0} → Bool → Result N OpenFault → Type 0
Opens true (Ok net) = ⊤
Opens false (Ok net) = ⊥
Opens true (Err fault) = fault ≡ Memory
Opens false (Err fault) = (fault ≡ NoSchema) ⊎ (fault ≡ Memory)

-- the status where no network was opened
abbrev pub fault_status : OpenFault → ℕ
fault_status Source = 3
fault_status NoSchema = 6
fault_status Memory = 7
fault_status Limit = 8
