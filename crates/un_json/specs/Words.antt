-- The word of a request, in its member `do` or `ask`.
use Rattle.std.specs.Prelude.{ℕ, List, codes, Option, None, Some, option_map, option_and_then, Result, Err, if◌then◌else◌}
use Rattle.std.specs.Option.{option_or}
use Rattle.std.specs.Str.{bytes_eq}
use Rattle.serde_json.specs.Data.{Data}
use Rattle.serde_json.specs.Find.{get, as_str}
use Rattle.un_schema.specs.declared.place.Place.{Place}
use Rattle.un_schema.specs.declared.place.Place.TheVariants as place
use Rattle.un_schema.specs.Places.{place_text}
use Rattle.un_ask.specs.Words.{edit_named}
use Rattle.un_json.specs.declared.words.Word.{Word}
use Rattle.un_json.specs.declared.words.Word.TheVariants.{Do, Ask, Past, Changes}
use Rattle.un_json.specs.declared.words.CommandWord.{CommandWord}
use Rattle.un_json.specs.declared.words.CommandWord.TheVariants as does
use Rattle.un_json.specs.declared.words.QueryWord.{QueryWord}
use Rattle.un_json.specs.declared.words.QueryWord.TheVariants as asks
use Rattle.un_json.specs.Rows.{or_blame, mapped}

abbrev pub whole_command_named : List ℕ → Option CommandWord
whole_command_named text =
    if bytes_eq text (codes "batch") then Some does.Batch
    else (if bytes_eq text (codes "rule") then Some does.Rule
    else (if bytes_eq text (codes "validate") then Some does.Validate
    else (if bytes_eq text (codes "update") then Some does.Update else None)))

abbrev pub command_named : List ℕ → Option CommandWord
command_named text = option_or (option_map does.Edit (edit_named text)) (whole_command_named text)

abbrev pub query_named : List ℕ → Option QueryWord
query_named text =
    if bytes_eq text (codes "version") then Some asks.Version
    else (if bytes_eq text (codes "feature") then Some asks.Feature
    else (if bytes_eq text (codes "dirty") then Some asks.Dirty
    else (if bytes_eq text (codes "errors") then Some asks.Errors
    else (if bytes_eq text (codes "subnet") then Some asks.Subnet
    else (if bytes_eq text (codes "trace") then Some asks.Trace
    else (if bytes_eq text (codes "path") then Some asks.Path
    else (if bytes_eq text (codes "check") then Some asks.Check
    else (if bytes_eq text (codes "diagram") then Some asks.Diagram else None))))))))

-- a query, a query at a past version, or one for changes
abbrev pub question_named : List ℕ → Option Word
question_named text =
    if bytes_eq text (codes "past") then Some Past
    else (if bytes_eq text (codes "changes") then Some Changes else option_map Ask (query_named text))

abbrev pub command_word_of : Data → Result Word Place
command_word_of d = mapped Do (or_blame place.Do (option_and_then command_named (as_str d)))

abbrev pub query_word_of : Data → Result Word Place
query_word_of d = or_blame place.Ask (option_and_then question_named (as_str d))

-- exactly one of `do` and `ask` is there, and has a known word
abbrev pub word_from : Option Data → Option Data → Result Word Place
word_from None None = Err place.Do
word_from (Some d) (Some e) = Err place.Do
word_from (Some d) None = command_word_of d
word_from None (Some e) = query_word_of e

abbrev pub word_of : Data → Result Word Place
word_of d = word_from (get (place_text place.Do) d) (get (place_text place.Ask) d)
