-- What a query for a diagram answers of the nodes that it reaches.
use Rattle.std.specs.Prelude.{◌≡◌, List, Option, Some, None, length, ℕ}
use Rattle.un_defs.specs.declared.port.Node.{Node}
use Rattle.un_defs.specs.declared.walk.Mode.TheVariants.{Any}
use Rattle.un_defs.specs.declared.walk.Dirt.{Dirt}
use Rattle.un_defs.specs.Ground.{Ground}
use Rattle.un_defs.specs.Reach.{IsReach, leads, dirt}
use Rattle.un_defs.specs.Linked.{AreLinked}
use Rattle.un_ask.specs.declared.reply.Reply.{Reply}
use Rattle.un_ask.specs.declared.reply.Reply.TheVariants.{Diagram as DiagramReply}
use Rattle.un_ask.specs.Replies.{on_dirty_ground}
use Rattle.un_ask.specs.declared.typed.DiagramAsk.{DiagramAsk}
use Rattle.un_diagram.specs.Diagram.{Diagram}
use Rattle.un_diagram.specs.DiagramLists.{diagram_of}

-- the nodes in which a walk from a start ends
abbrev pub IsReachOf : Ground → DiagramAsk → List Node → Type 0
IsReachOf G ask = IsReach (leads G ask.barriers Any) ask.starts

-- what holds of the count of the nodes that the query reaches
abbrev pub OnReachCount : Ground → DiagramAsk → (ℕ → Type 0) → Type 0
OnReachCount G ask P = (reached : List Node) → IsReachOf G ask reached → P (length reached)

-- where walks from the starts meet no dirt, the nodes that they reach are linked as a diagram needs it
abbrev pub AreLinkedOnCleanGround : Ground → DiagramAsk → Type 0
AreLinkedOnCleanGround G ask = (reached : List Node) → IsReachOf G ask reached → dirt G reached ≡ None → AreLinked G reached

-- the reply that shows a diagram
abbrev pub drawn : Diagram → Reply
drawn d = DiagramReply d.edges d.kept d.pieces 0

-- the reply, given the dirt that was met: its refusal, or the diagram. The caller puts in the version.
abbrev pub diagram_given_dirt : Option Dirt → Ground → DiagramAsk → List Node → Reply
diagram_given_dirt (Some d) G ask reached = on_dirty_ground d
diagram_given_dirt None G ask reached = drawn (diagram_of G ask reached)

-- the reply to a query that reached these nodes
abbrev pub diagram_reply : Ground → DiagramAsk → List Node → Reply
diagram_reply G ask reached = diagram_given_dirt (dirt G reached) G ask reached

-- the reply is that to the nodes in which a walk ends
pub record IsAnswer (G : Ground) (ask : DiagramAsk) (reply : Reply) : Type 0 where
  pub reached : List Node
  pub reach : IsReachOf G ask reached
  pub is : reply ≡ diagram_reply G ask reached
