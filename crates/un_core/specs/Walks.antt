-- What is to be shown of the topologies that answers rest on.
use Rattle.std.specs.Prelude.{◌≡◌, List}
use Rattle.un_geom.specs.Rectangle.{Rectangle}
use Rattle.un_defs.specs.declared.port.Node.{Node}
use Rattle.un_defs.specs.declared.walk.Mode.{Mode}
use Rattle.un_defs.specs.declared.walk.Barriers.{Barriers}
use Rattle.un_defs.specs.Reach.{IsReach, leads}
use Rattle.un_ask.specs.declared.request.Command.{Command}
use Rattle.un_ask.specs.declared.query.Query.{Query}
use Rattle.un_tiers.specs.declared.setup.Setup.{Setup}
use Rattle.un_core.specs.State.{State}
use Rattle.un_core.specs.Cover.{IsState, MayAllHappen}
use Rattle.un_core.specs.Walked.{Survey, reached}
use Rattle.un_core.specs.Listed.{errors_in, HasErrors}
use Rattle.un_core.specs.Answers.{kept_survey, fresh_survey, kept_basis, fresh_basis, answer_on}
use Rattle.un_core.specs.HistoryAnswers.{history_survey, fresh_after}

-- The nodes that are said to be reached are exactly those in which a walk ends, and the errors that are listed in an extent are exactly
-- those of the stars that it covers.
pub record IsExact (v : Survey) : Type 0 where
  pub walks : (B : Barriers) (mode : Mode) (starts : List Node) → IsReach (leads v.topology B mode) starts (reached v B mode starts)
  pub errors : (extent : Rectangle) → HasErrors v.topology extent (errors_in v extent)

-- so it is of the kept topology and of that of all features, both as they stand and as a history leaves them
pub record WalkLaw : Type 0 where
  pub kept : (s : State) → IsExact (kept_survey s)
  pub fresh : (s : State) → IsState s → IsExact (fresh_survey s)
  pub history : (S : Setup) (history : List Command) → MayAllHappen S history → IsExact (history_survey S history)
  pub fresh_history : (S : Setup) (history : List Command) → MayAllHappen S history → IsExact (fresh_after S history)

-- the kept topology answers each query as all features do where it is a trace in consistent mode: by the same result, or by the same
-- refusal for dirty ground
abbrev pub TwoGroundsLaw : Type 0
TwoGroundsLaw = (s : State) (q : Query) → IsState s → answer_on s (kept_basis s) q ≡ answer_on s (fresh_basis s) q
