-- What paths, checks and diagrams are answered over a topology: a reply of theirs, or a refusal.
use Rattle.std.proofs.Common.{List, [], ◌∷◌, Option, Some, None}
use Rattle.std.specs.Prelude.{⊤}
use Rattle.un_defs.specs.declared.port.Node.{Node}
use Rattle.un_defs.specs.declared.walk.Dirt.{Dirt}
use Rattle.un_defs.specs.Ground.{Ground}
use Rattle.un_ask.specs.declared.reply.Reply.{Reply}
use Rattle.un_ask.specs.declared.reply.Reply.TheVariants as reply
use Rattle.un_ask.specs.declared.typed.PathAsk.{PathAsk}
use Rattle.un_ask.specs.declared.typed.CheckAsk.{CheckAsk}
use Rattle.un_ask.specs.declared.typed.DiagramAsk.{DiagramAsk}
use Rattle.un_path.specs.Answer.{path_given_dirt, check_given_dirt}
use Rattle.un_diagram.specs.Answer.{diagram_given_dirt}
use Rattle.un_core.specs.Walked.{Survey}
use Rattle.un_core.specs.Answers.{reached_any, path_over, check_over, diagram_over}

-- the reply is one to a path, a check or a diagram, or a refusal
abbrev pub IsOfWalk : Reply → Type 0
IsOfWalk (reply.Path cost labels nodes version) = ⊤
IsOfWalk (reply.Check valid version) = ⊤
IsOfWalk (reply.Diagram edges kept pieces version) = ⊤
IsOfWalk (reply.Refused refusal edit version) = ⊤
IsOfWalk other = ⊥

path_given : (d : Option Dirt) (G : Ground) (ask : PathAsk) (reached : List Node) → IsOfWalk (path_given_dirt d G ask reached)
path_given (Some d) G ask reached = tt
path_given None G ask reached = tt

check_given : (d : Option Dirt) (G : Ground) (ask : CheckAsk) (reached : List Node) → IsOfWalk (check_given_dirt d G ask reached)
check_given (Some d) G ask reached = tt
check_given None G ask reached = tt

diagram_given : (d : Option Dirt) (G : Ground) (ask : DiagramAsk) (reached : List Node) → IsOfWalk (diagram_given_dirt d G ask reached)
diagram_given (Some d) G ask reached = tt
diagram_given None G ask reached = tt

pub path_is : (v : Survey) (ask : PathAsk) → IsOfWalk (path_over v ask)
path_is v ask = path_given _ v.topology ask (reached_any v ask.barriers (ask.from ∷ []))

pub check_is : (v : Survey) (ask : CheckAsk) → IsOfWalk (check_over v ask)
check_is v ask = check_given _ v.topology ask (reached_any v ask.barriers (ask.from ∷ []))

pub diagram_is : (v : Survey) (ask : DiagramAsk) → IsOfWalk (diagram_over v ask)
diagram_is v ask = diagram_given _ v.topology ask (reached_any v ask.barriers ask.starts)
