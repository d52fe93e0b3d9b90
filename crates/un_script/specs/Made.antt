-- The network that a seed and a count make, and the line that tells of it.
use Rattle.std.specs.Prelude.{ℕ, true, false, List, [], ◌∷◌, ◌++◌, length, fold, codes, decimal, Option, None, Some}
use Rattle.un_schema.specs.Raw.{catalog_from}
use Rattle.un_schema_json.specs.Table.{built_in}
use Rattle.un_tiers.specs.declared.setup.Setup.{Setup}
use Rattle.un_defs.specs.declared.port.Port.{Port}
use Rattle.un_ask.specs.declared.request.Command.{Command}
use Rattle.un_ask.specs.declared.query.Query.{Query}
use Rattle.un_ask.specs.declared.query.Asked.TheVariants.{Trace}
use Rattle.un_ask.specs.declared.trace.TraceKind.{TraceKind}
use Rattle.un_ask.specs.declared.trace.TraceKind.TheVariants.{Connected, Loops}
use Rattle.un_ask.specs.declared.trace.Include.{Include}
use Rattle.un_ask.specs.declared.reply.Reply.{Reply}
use Rattle.un_ask.specs.declared.reply.Reply.TheVariants as reply
use Rattle.un_core.specs.State.{State, opening}
use Rattle.un_core.specs.Commands.{state_after, command_reply}
use Rattle.un_core.specs.Answers.{answer}
use Rattle.un_gen.specs.Generator.{generated}

-- ---- the network

-- the built-in schema, which has no tiers
unfoldable pub built_in_setup : Setup
built_in_setup = record { schema = catalog_from built_in; tiers = [] }

-- a state, and the reply to the command that led to it, if there was one
pub record Run : Type 0 where
  pub state : State
  pub reply : Option Reply

-- a run before its first command
abbrev pub begun : State → Run
begun s = record { state = s; reply = None }

-- a run with one more command, which is accepted or refused
unfoldable pub after_command : Run → Command → Run
after_command r c = record { state = state_after r.state c; reply = Some (command_reply r.state c) }

-- the run of commands, one after another
abbrev pub run_of : State → List Command → Run
run_of s cs = fold after_command (begun s) cs

-- ---- the queries

-- the terminal of the first joint
abbrev pub first_port : Port
first_port = record { feature = 1; number = 1 }

-- nothing besides the features
abbrev pub nothing : Include
nothing = record { barriers = false; containers = false; content = false; structures = false }

-- a consistent trace of the kind from there, with nothing that a request may leave out
unfoldable pub trace_of : TraceKind → Query
trace_of kind = record {
  seen = 0;
  what = Trace (record {
    kind = kind;
    starts = first_port ∷ [];
    tier = None;
    subnet = None;
    isolators = None;
    barriers = None;
    stops = [];
    consistent = true;
    include = nothing;
    functions = [];
  });
}

-- ---- what the replies tell

-- the errors that a validation tells of
abbrev pub errors_of : Option Reply → ℕ
errors_of (Some (reply.Validated cleared errors version)) = errors
errors_of other = 0

-- the features that a trace reached
abbrev pub features_of : Reply → ℕ
features_of (reply.Traced result version) = length result.features
features_of other = 0

-- the segments that lie on loops
abbrev pub segments_of : Reply → ℕ
segments_of (reply.Loops segments version) = length segments
segments_of other = 0

-- ---- the line

-- the line of five numbers
abbrev pub line_of : ℕ → ℕ → ℕ → ℕ → ℕ → List ℕ
line_of connected errors features loops version =
    codes "{\"connected\":" ++ decimal connected ++ codes ",\"errors\":" ++ decimal errors ++ codes ",\"features\":" ++ decimal features
    ++ codes ",\"loops\":" ++ decimal loops ++ codes ",\"ok\":\"make\",\"version\":" ++ decimal version ++ codes "}\n"

-- the line of a state, with the errors that its validation told of
unfoldable pub line_at : State → ℕ → List ℕ
line_at s errors =
    line_of (features_of (answer s (trace_of Connected))) errors (length s.features.rows) (segments_of (answer s (trace_of Loops))) s.version

-- the line of a run
abbrev pub line_after : Run → List ℕ
line_after r = line_at r.state (errors_of r.reply)

-- the line of a seed and a count
unfoldable pub made_line : ℕ → ℕ → List ℕ
made_line seed count = line_after (run_of (opening built_in_setup) (generated seed count))
