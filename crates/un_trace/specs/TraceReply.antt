-- What a trace answers of the nodes that it reached.
use Rattle.std.specs.Prelude.{◌≡◌, ℕ, ℤ, pos, Bool, true, false, List, [], map, length, Option, Some, None, IsSome, ⊤, if◌then◌else◌}
use Rattle.std.specs.Option.{option_map_or}
use Rattle.un_defs.specs.declared.port.Node.{Node}
use Rattle.un_defs.specs.declared.walk.Mode.{Mode}
use Rattle.un_defs.specs.declared.walk.Mode.TheVariants.{Any, Along, Against}
use Rattle.un_defs.specs.declared.walk.Dirt.{Dirt}
use Rattle.un_defs.specs.Ground.{Ground}
use Rattle.un_defs.specs.Reach.{IsReach, leads, dirt}
use Rattle.un_defs.specs.Result.{result_nodes, result_features, result_containers, result_contents, result_structures, result_controllers, count_function, sum_function, least_function, greatest_function}
use Rattle.un_walk.specs.Ticks.{IsLookedUpOnce}
use Rattle.un_ask.specs.declared.trace.TraceKind.{TraceKind}
use Rattle.un_ask.specs.declared.trace.TraceKind.TheVariants.{Connected, Subnetwork, Controllers as ControllersKind, Upstream, Downstream, Loops as LoopsKind, Isolation as IsolationKind}
use Rattle.un_ask.specs.declared.typed.Func.{Func}
use Rattle.un_ask.specs.declared.typed.Func.TheVariants.{Count, Sum, Least, Greatest}
use Rattle.un_ask.specs.declared.typed.TypedAsk.{TypedAsk}
use Rattle.un_ask.specs.declared.results.Part.{Part}
use Rattle.un_ask.specs.declared.reply.ResultReply.{ResultReply}
use Rattle.un_ask.specs.declared.reply.Reply.{Reply}
use Rattle.un_ask.specs.declared.reply.Reply.TheVariants.{Traced, Controllers}
use Rattle.un_ask.specs.Replies.{on_dirty_ground}

-- how a trace of each kind walks
abbrev pub mode_of : TraceKind → Mode
mode_of Connected = Any
mode_of Subnetwork = Any
mode_of ControllersKind = Any
mode_of Upstream = Against
mode_of Downstream = Along
mode_of LoopsKind = Any
mode_of IsolationKind = Any

-- what holds of the count of the nodes that the trace reaches, where no star is looked up twice
abbrev pub OnReachCount : Ground → TypedAsk → (ℕ → Type 0) → Type 0
OnReachCount G ask P = (reached : List Node) → IsReach (leads G ask.barriers (mode_of ask.kind)) ask.starts reached → IsLookedUpOnce G ask.barriers → P (length reached)

-- a trace of the kind tells controllers in place of a result
abbrev pub lists_controllers : TraceKind → Bool
lists_controllers Connected = false
lists_controllers Subnetwork = false
lists_controllers ControllersKind = true
lists_controllers Upstream = false
lists_controllers Downstream = false
lists_controllers LoopsKind = false
lists_controllers IsolationKind = false

-- a trace of the kind tells a result, or controllers of the tier that it is given
abbrev pub IsAnswerable : TraceKind → Option ℕ → Type 0
IsAnswerable Connected tier = ⊤
IsAnswerable Subnetwork tier = ⊤
IsAnswerable ControllersKind tier = IsSome tier
IsAnswerable Upstream tier = ⊤
IsAnswerable Downstream tier = ⊤
IsAnswerable LoopsKind tier = ⊥
IsAnswerable IsolationKind tier = ⊥

-- what is told only where it was asked for
abbrev pub where_asked : Bool → List ℕ → List ℕ
where_asked asked ids = if asked then ids else []

-- the features of the nodes with their ports
abbrev pub part_of : ℕ × List ℕ → Part
part_of p = record { feature = p.0; numbers = p.1 }

abbrev pub parts : List Node → List Part
parts nodes = map part_of (result_features nodes)

-- a function over the features of the nodes
abbrev pub total : Ground → List Node → Func → Option ℤ
total G nodes Count = Some (pos (count_function nodes))
total G nodes (Sum a) = Some (sum_function G nodes a)
total G nodes (Least a) = least_function G nodes a
total G nodes (Greatest a) = greatest_function G nodes a

-- what is told of the result nodes
abbrev pub result_of : Ground → TypedAsk → List Node → ResultReply
result_of G ask nodes = record {
  containers = where_asked ask.include.containers (result_containers G nodes);
  content = where_asked ask.include.content (result_contents G nodes);
  features = parts nodes;
  functions = map (total G nodes) ask.functions;
  kind = ask.kind;
  structures = where_asked ask.include.structures (result_structures G nodes);
}

-- the result nodes of a trace: barriers among them only where these are asked for
abbrev pub nodes_in_result : Ground → TypedAsk → List Node → List Node
nodes_in_result G ask reached = result_nodes G ask.barriers ask.include.barriers reached

-- the controllers of the tier at the reached nodes
abbrev pub controllers_reply : Ground → TypedAsk → List Node → Reply
controllers_reply G ask reached = Controllers (option_map_or (λ tier. result_controllers G tier reached) ask.barriers.tier []) 0

-- the result of the reached nodes
abbrev pub result_reply : Ground → TypedAsk → List Node → Reply
result_reply G ask reached = Traced (result_of G ask (nodes_in_result G ask reached)) 0

-- the answer where no dirt matters. The caller puts in the version.
abbrev pub clean_reply : Ground → TypedAsk → List Node → Reply
clean_reply G ask reached = if lists_controllers ask.kind then controllers_reply G ask reached else result_reply G ask reached

-- the answer, given the dirt that matters
abbrev pub reply_given_dirt : Option Dirt → Ground → TypedAsk → List Node → Reply
reply_given_dirt (Some d) G ask reached = on_dirty_ground d
reply_given_dirt None G ask reached = clean_reply G ask reached

-- the answer of a trace that reached these nodes: dirt matters only in consistent mode
abbrev pub trace_reply : Ground → TypedAsk → List Node → Reply
trace_reply G ask reached = reply_given_dirt (if ask.barriers.consistent then dirt G reached else None) G ask reached

-- the reply tells exactly the nodes in which a walk of the trace ends
pub record IsAnswer (G : Ground) (ask : TypedAsk) (reply : Reply) : Type 0 where
  pub reached : List Node
  pub reach : IsReach (leads G ask.barriers (mode_of ask.kind)) ask.starts reached
  pub is : reply ≡ trace_reply G ask reached
