-- The words of edits and of traces.
use Rattle.std.specs.Prelude.{ℕ, List, [], ◌∷◌, codes, Option, Some, None, find, if◌then◌else◌}
use Rattle.std.specs.Str.{bytes_eq}
use Rattle.un_ask.specs.declared.word.EditWord.{EditWord}
use Rattle.un_ask.specs.declared.word.EditWord.TheVariants.{Insert, Reshape, Attrs, Kind, Path, Flow, Ends, Note, Delete, Connect, Contain, Attach, Detach, Controller, Uncontroller}
use Rattle.un_ask.specs.declared.trace.TraceKind.{TraceKind}
use Rattle.un_ask.specs.declared.trace.TraceKind.TheVariants as trace

abbrev pub edit_text : EditWord → List ℕ
edit_text Insert = codes "insert"
edit_text Reshape = codes "reshape"
edit_text Attrs = codes "attrs"
edit_text Kind = codes "kind"
edit_text Path = codes "path"
edit_text Flow = codes "flow"
edit_text Ends = codes "ends"
edit_text Note = codes "note"
edit_text Delete = codes "delete"
edit_text Connect = codes "connect"
edit_text Contain = codes "contain"
edit_text Attach = codes "attach"
edit_text Detach = codes "detach"
edit_text Controller = codes "controller"
edit_text Uncontroller = codes "uncontroller"

-- the word that is written so
abbrev pub edit_named : List ℕ → Option EditWord
edit_named text =
    if bytes_eq text (codes "insert") then Some Insert
    else (if bytes_eq text (codes "reshape") then Some Reshape
    else (if bytes_eq text (codes "attrs") then Some Attrs
    else (if bytes_eq text (codes "kind") then Some Kind
    else (if bytes_eq text (codes "path") then Some Path
    else (if bytes_eq text (codes "flow") then Some Flow
    else (if bytes_eq text (codes "ends") then Some Ends
    else (if bytes_eq text (codes "note") then Some Note
    else (if bytes_eq text (codes "delete") then Some Delete
    else (if bytes_eq text (codes "connect") then Some Connect
    else (if bytes_eq text (codes "contain") then Some Contain
    else (if bytes_eq text (codes "attach") then Some Attach
    else (if bytes_eq text (codes "detach") then Some Detach
    else (if bytes_eq text (codes "controller") then Some Controller
    else (if bytes_eq text (codes "uncontroller") then Some Uncontroller else None))))))))))))))

abbrev pub trace_text : TraceKind → List ℕ
trace_text trace.Connected = codes "connected"
trace_text trace.Subnetwork = codes "subnetwork"
trace_text trace.Controllers = codes "controllers"
trace_text trace.Upstream = codes "upstream"
trace_text trace.Downstream = codes "downstream"
trace_text trace.Loops = codes "loops"
trace_text trace.Isolation = codes "isolation"

abbrev pub trace_kinds : List TraceKind
trace_kinds =
    trace.Connected ∷ trace.Subnetwork ∷ trace.Controllers ∷ trace.Upstream ∷ trace.Downstream ∷ trace.Loops ∷ trace.Isolation ∷ []

-- the kind that is written so
abbrev pub trace_named : List ℕ → Option TraceKind
trace_named text = find (λ kind. bytes_eq (trace_text kind) text) trace_kinds
