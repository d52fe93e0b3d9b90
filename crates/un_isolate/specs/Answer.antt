-- What a trace for isolation answers of the nodes that it reached.
use Rattle.std.specs.Prelude.{◌≡◌, List, Option, Some, None, IsSome, IsTrue, length, ℕ}
use Rattle.un_defs.specs.declared.port.Port.{Port}
use Rattle.un_defs.specs.declared.port.Node.{Node}
use Rattle.un_defs.specs.declared.walk.Mode.TheVariants.{Any}
use Rattle.un_defs.specs.declared.walk.Dirt.{Dirt}
use Rattle.un_defs.specs.declared.refusal.Refusal.TheVariants.{NotIsolable}
use Rattle.un_defs.specs.Ground.{Ground}
use Rattle.un_defs.specs.Reach.{IsReach, leads, dirt}
use Rattle.un_defs.specs.Linked.{HaveOwnPorts}
use Rattle.un_walk.specs.Ticks.{IsLookedUpOnce}
use Rattle.un_ask.specs.declared.trace.TraceKind.TheVariants.{Isolation as IsolationKind}
use Rattle.un_ask.specs.declared.typed.TypedAsk.{TypedAsk}
use Rattle.un_ask.specs.declared.reply.Reply.{Reply}
use Rattle.un_ask.specs.declared.reply.Reply.TheVariants.{Isolation as IsolationReply, Refused}
use Rattle.un_ask.specs.Replies.{on_dirty_ground}
use Rattle.un_isolate.specs.Isolation.{Isolation, StartsAreClear}
use Rattle.un_isolate.specs.IsolationList.{first_in_the_way, needed_ports, part_nodes}
use Rattle.un_isolate.specs.Parts.{parts}

-- what the trace asks
abbrev pub isolation_of : Ground → TypedAsk → Isolation
isolation_of G ask = record { over = G; barriers = ask.barriers; isolators = ask.isolators; starts = ask.starts }

-- the nodes in which a walk of the trace ends, isolating ports being open
abbrev pub IsReachOf : Ground → TypedAsk → List Node → Type 0
IsReachOf G ask = IsReach (leads G ask.barriers Any) ask.starts

-- what holds of the count of the nodes that the trace reaches, where no star is looked up twice
abbrev pub OnReachCount : Ground → TypedAsk → (ℕ → Type 0) → Type 0
OnReachCount G ask P = (reached : List Node) → IsReachOf G ask reached → IsLookedUpOnce G ask.barriers → P (length reached)

-- a trace for isolation, in consistent mode
pub record IsForIsolation (ask : TypedAsk) : Type 0 where
  pub kind : ask.kind ≡ IsolationKind
  pub consistent : IsTrue ask.barriers.consistent
  pub tier : IsSome ask.barriers.tier
  pub isolators : IsSome ask.isolators

-- no two reached nodes have one port, and no start isolates
pub record IsFit (G : Ground) (ask : TypedAsk) (reached : List Node) : Type 0 where
  pub own_ports : HaveOwnPorts reached
  pub clear : StartsAreClear (isolation_of G ask)

-- so it is where the trace meets no dirt
abbrev pub IsFitOnCleanGround : Ground → TypedAsk → Type 0
IsFitOnCleanGround G ask = (reached : List Node) → IsReachOf G ask reached → dirt G reached ≡ None → IsFit G ask reached

-- a controller stands in the way
abbrev pub not_isolable : Port → Reply
not_isolable q = Refused (NotIsolable q.feature q.number) None 0

-- the reply where no dirt was met, given the first controller in the way: its refusal, or the needed ports and the part that they cut off
abbrev pub isolation_given_way : Option Port → Isolation → List Node → Reply
isolation_given_way (Some q) I reached = not_isolable q
isolation_given_way None I reached = IsolationReply (needed_ports I reached) (parts (part_nodes I reached)) 0

-- the reply, given the dirt that was met. The caller puts in the version.
abbrev pub isolation_given_dirt : Option Dirt → Ground → TypedAsk → List Node → Reply
isolation_given_dirt (Some d) G ask reached = on_dirty_ground d
isolation_given_dirt None G ask reached = isolation_given_way (first_in_the_way (isolation_of G ask) reached) (isolation_of G ask) reached

-- the reply to a trace that reached these nodes
abbrev pub isolation_reply : Ground → TypedAsk → List Node → Reply
isolation_reply G ask reached = isolation_given_dirt (dirt G reached) G ask reached

-- the reply is that to the nodes in which a walk of the trace ends
pub record IsAnswer (G : Ground) (ask : TypedAsk) (reply : Reply) : Type 0 where
  pub reached : List Node
  pub reach : IsReachOf G ask reached
  pub is : reply ≡ isolation_reply G ask reached
