-- What queries for a path and for a check answer of the nodes that they reach.
use Rattle.std.specs.Prelude.{◌≡◌, ℕ, Bool, List, [], ◌∷◌, length, Option, Some, None}
use Rattle.un_defs.specs.declared.port.Node.{Node}
use Rattle.un_defs.specs.declared.walk.Mode.TheVariants.{Any}
use Rattle.un_defs.specs.declared.walk.Barriers.{Barriers}
use Rattle.un_defs.specs.declared.walk.Dirt.{Dirt}
use Rattle.un_defs.specs.Ground.{Ground}
use Rattle.un_defs.specs.Reach.{IsReach, leads, dirt}
use Rattle.un_defs.specs.Linked.{HaveOwnPorts}
use Rattle.un_ask.specs.declared.reply.Reply.{Reply}
use Rattle.un_ask.specs.declared.reply.Reply.TheVariants.{Path, Check}
use Rattle.un_ask.specs.Replies.{on_dirty_ground}
use Rattle.un_ask.specs.declared.typed.PathAsk.{PathAsk}
use Rattle.un_ask.specs.declared.typed.CheckAsk.{CheckAsk}
use Rattle.un_path.specs.declared.answer.PathFound.{PathFound}
use Rattle.un_path.specs.Costs.{step_cost}
use Rattle.un_path.specs.Paths.{IsPathFound}
use Rattle.un_path.specs.Valid.{IsValid}
use Rattle.un_path.specs.WalkList.{path_found}
use Rattle.un_path.specs.Verdict.{is_valid}

-- the nodes in which a walk from this one ends
abbrev pub IsReachFrom : Ground → Barriers → Node → List Node → Type 0
IsReachFrom G B from = IsReach (leads G B Any) (from ∷ [])

-- what holds of the count of these nodes
abbrev pub OnReachCount : Ground → Barriers → Node → (ℕ → Type 0) → Type 0
OnReachCount G B from P = (reached : List Node) → IsReachFrom G B from reached → P (length reached)

-- where walks from the node meet no dirt, no two nodes that they reach have one port
abbrev pub HaveOwnPortsOnCleanGround : Ground → Barriers → Node → Type 0
HaveOwnPortsOnCleanGround G B from = (reached : List Node) → IsReachFrom G B from reached → dirt G reached ≡ None → HaveOwnPorts reached

-- ---- a path

-- this is found of walks between the two nodes
abbrev pub IsFoundOver : Ground → PathAsk → List Node → PathFound → Type 0
IsFoundOver G ask reached = IsPathFound (leads G ask.barriers Any) (step_cost G ask.barriers ask.weight) ask.from ask.to ask.certificate reached

-- what is found of them
abbrev pub found_over : Ground → PathAsk → List Node → PathFound
found_over G ask reached = path_found (leads G ask.barriers Any) (step_cost G ask.barriers ask.weight) ask.from reached ask.to ask.certificate

-- the reply that has what is found. The caller puts in the version.
abbrev pub path_of : PathFound → Reply
path_of found = Path found.cost found.labels found.nodes 0

-- the reply, given the dirt that was met: its refusal, or what is found
abbrev pub path_given_dirt : Option Dirt → Ground → PathAsk → List Node → Reply
path_given_dirt (Some d) G ask reached = on_dirty_ground d
path_given_dirt None G ask reached = path_of (found_over G ask reached)

-- the reply to a query for a path that reached these nodes
abbrev pub path_reply : Ground → PathAsk → List Node → Reply
path_reply G ask reached = path_given_dirt (dirt G reached) G ask reached

-- the reply is that to the nodes in which a walk ends
pub record IsPathAnswer (G : Ground) (ask : PathAsk) (reply : Reply) : Type 0 where
  pub reached : List Node
  pub reach : IsReachFrom G ask.barriers ask.from reached
  pub is : reply ≡ path_reply G ask reached

-- ---- a check

-- the certificate is valid for the nodes that walks reach
abbrev pub IsValidOver : Ground → CheckAsk → List Node → Type 0
IsValidOver G ask reached = IsValid (leads G ask.barriers Any) (step_cost G ask.barriers ask.weight) reached ask

-- whether it is
abbrev pub is_valid_over : Ground → CheckAsk → List Node → Bool
is_valid_over G ask reached = is_valid (leads G ask.barriers Any) (step_cost G ask.barriers ask.weight) reached ask

-- the reply, given the dirt that was met: its refusal, or whether the certificate is valid. The caller puts in the version.
abbrev pub check_given_dirt : Option Dirt → Ground → CheckAsk → List Node → Reply
check_given_dirt (Some d) G ask reached = on_dirty_ground d
check_given_dirt None G ask reached = Check (is_valid_over G ask reached) 0

-- the reply to a query for a check that reached these nodes
abbrev pub check_reply : Ground → CheckAsk → List Node → Reply
check_reply G ask reached = check_given_dirt (dirt G reached) G ask reached

-- the reply is that to the nodes in which a walk ends
pub record IsCheckAnswer (G : Ground) (ask : CheckAsk) (reply : Reply) : Type 0 where
  pub reached : List Node
  pub reach : IsReachFrom G ask.barriers ask.from reached
  pub is : reply ≡ check_reply G ask reached
