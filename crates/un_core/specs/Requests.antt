-- Requests of a script: what they are replied to, and the state behind them; by the state itself and by a history.
use Rattle.std.specs.Prelude.{◌≡◌, List, ◌++◌, None}
use Rattle.un_geom.specs.Rectangle.{Rectangle}
use Rattle.un_ask.specs.declared.request.Command.{Command}
use Rattle.un_ask.specs.declared.request.Request.{Request}
use Rattle.un_ask.specs.declared.request.Request.TheVariants as request
use Rattle.un_ask.specs.declared.query.Query.{Query}
use Rattle.un_ask.specs.declared.reply.Reply.{Reply}
use Rattle.un_ask.specs.declared.reply.Reply.TheVariants.{Refused}
use Rattle.un_defs.specs.declared.refusal.Refusal.TheVariants.{ServeOnly}
use Rattle.un_tiers.specs.declared.setup.Setup.{Setup}
use Rattle.un_core.specs.State.{State}
use Rattle.un_core.specs.Commands.{command_reply, state_after, accepted_of}
use Rattle.un_core.specs.Answers.{answer, answer_on, kept_survey, fresh_survey, kept_basis, fresh_basis}
use Rattle.un_core.specs.History.{after_all}
use Rattle.un_core.specs.HistoryAnswers.{command_reply_after, answer_after, history_survey, fresh_after}
use Rattle.un_core.specs.Accepted.{IsAfter}
use Rattle.un_core.specs.Clearing.{Validates}
use Rattle.un_core.specs.Walks.{IsExact}

-- a script does not answer at past versions, nor for changes
abbrev pub serve_only : Reply
serve_only = Refused ServeOnly None 0

-- the reply at a state, and the state behind it
abbrev pub reply_to : State → Request → Reply
reply_to s (request.Command c) = command_reply s c
reply_to s (request.Query q) = answer s q
reply_to s (request.Past q) = serve_only
reply_to s (request.Changes q) = serve_only

abbrev pub state_behind : State → Request → State
state_behind s (request.Command c) = state_after s c
state_behind s (request.Query q) = s
state_behind s (request.Past q) = s
state_behind s (request.Changes q) = s

-- the reply after a history, and the history behind it
abbrev pub reply_after : Setup → List Command → Request → Reply
reply_after S history (request.Command c) = command_reply_after S history c
reply_after S history (request.Query q) = answer_after S history q
reply_after S history (request.Past q) = serve_only
reply_after S history (request.Changes q) = serve_only

abbrev pub history_behind : Setup → List Command → Request → List Command
history_behind S history (request.Command c) = accepted_of (after_all S history) c ++ history
history_behind S history (request.Query q) = history
history_behind S history (request.Past q) = history
history_behind S history (request.Changes q) = history

-- ---- what is to be shown

-- The state is the one after a history. Its replies and answers are those of the history. A validation of it rebuilds the areas that meet
-- its extent, clears them and changes nothing else. Consistent traces are answered over the kept topology as over all features. And over
-- the kept topology, over all features and over what the history leaves, the nodes that are said to be reached are those that walks
-- reach, and the errors that are listed are those of the stars.
pub record IsFaithful (S : Setup) (history : List Command) (s : State) : Type 0 where
  pub after : IsAfter S history s
  pub replies : (r : Request) → reply_to s r ≡ reply_after S history r
  pub validation : (extent : Rectangle) → Validates s extent
  pub two_grounds : (q : Query) → answer_on s (kept_basis s) q ≡ answer_on s (fresh_basis s) q
  pub over_kept : IsExact (kept_survey s)
  pub over_fresh : IsExact (fresh_survey s)
  pub over_history : IsExact (history_survey S history)
  pub over_fresh_history : IsExact (fresh_after S history)

-- each state after a history is
abbrev pub FaithfulLaw : Type 0
FaithfulLaw = (S : Setup) (history : List Command) (s : State) → IsAfter S history s → IsFaithful S history s

-- and so is the state behind a request
abbrev pub BehindLaw : Type 0
BehindLaw = (S : Setup) (history : List Command) (s : State) (r : Request) → IsAfter S history s →
    IsAfter S (history_behind S history r) (state_behind s r)
