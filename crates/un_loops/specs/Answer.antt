-- What a trace for loops answers of the nodes that it reached.
use Rattle.std.specs.Prelude.{◌≡◌, List, Option, Some, None, IsTrue, length, ℕ}
use Rattle.un_defs.specs.declared.port.Node.{Node}
use Rattle.un_defs.specs.declared.walk.Mode.TheVariants.{Any}
use Rattle.un_defs.specs.declared.walk.Barriers.{Barriers}
use Rattle.un_defs.specs.declared.walk.Dirt.{Dirt}
use Rattle.un_defs.specs.Orders.{node_cmp, rising}
use Rattle.un_defs.specs.Ground.{Ground}
use Rattle.un_defs.specs.Reach.{IsReach, leads, dirt}
use Rattle.un_defs.specs.Linked.{AreLinked}
use Rattle.un_walk.specs.declared.found.Found.{Found}
use Rattle.un_walk.specs.Found.{nodes}
use Rattle.un_walk.specs.Ticks.{IsLookedUpOnce}
use Rattle.un_ask.specs.declared.trace.TraceKind.TheVariants.{Loops as LoopsKind}
use Rattle.un_ask.specs.declared.typed.TypedAsk.{TypedAsk}
use Rattle.un_ask.specs.declared.reply.Reply.{Reply}
use Rattle.un_ask.specs.declared.reply.Reply.TheVariants.{Loops}
use Rattle.un_ask.specs.Replies.{on_dirty_ground}
use Rattle.un_loops.specs.Loops.{AreLoops}
use Rattle.un_loops.specs.LoopList.{loop_segments}

-- the nodes in which a walk of the trace ends
abbrev pub IsReachOf : Ground → TypedAsk → List Node → Type 0
IsReachOf G ask = IsReach (leads G ask.barriers Any) ask.starts

-- the nodes that a walk found, rising
abbrev pub reached_of : Found → List Node
reached_of f = rising node_cmp (nodes f)

-- what holds of the count of the nodes that the trace reaches, where no star is looked up twice
abbrev pub OnReachCount : Ground → TypedAsk → (ℕ → Type 0) → Type 0
OnReachCount G ask P = (reached : List Node) → IsReachOf G ask reached → IsLookedUpOnce G ask.barriers → P (length reached)

-- a trace for loops, in consistent mode
pub record IsForLoops (ask : TypedAsk) : Type 0 where
  pub kind : ask.kind ≡ LoopsKind
  pub consistent : IsTrue ask.barriers.consistent

-- where it meets no dirt, the nodes that it reaches are linked as its answer needs it
abbrev pub AreLinkedOnCleanGround : Ground → TypedAsk → Type 0
AreLinkedOnCleanGround G ask = (reached : List Node) → IsReachOf G ask reached → dirt G reached ≡ None → AreLinked G reached

-- the reply, given the dirt that was met: its refusal, or the loop segments. The caller puts in the version.
abbrev pub loops_given_dirt : Option Dirt → Ground → TypedAsk → List Node → Reply
loops_given_dirt (Some d) G ask reached = on_dirty_ground d
loops_given_dirt None G ask reached = Loops (loop_segments G ask.barriers reached) 0

-- the reply to a trace that reached these nodes
abbrev pub loops_reply : Ground → TypedAsk → List Node → Reply
loops_reply G ask reached = loops_given_dirt (dirt G reached) G ask reached

-- of the nodes that a trace reaches, the list has exactly the segments that lie on a loop
abbrev pub LoopListLaw : Type 0
LoopListLaw = (G : Ground) (B : Barriers) (starts reached : List Node) → IsReach (leads G B Any) starts reached → AreLoops G B reached (loop_segments G B reached)

-- the reply is that to the nodes in which a walk of the trace ends
pub record IsAnswer (G : Ground) (ask : TypedAsk) (reply : Reply) : Type 0 where
  pub reached : List Node
  pub reach : IsReachOf G ask reached
  pub is : reply ≡ loops_reply G ask reached
