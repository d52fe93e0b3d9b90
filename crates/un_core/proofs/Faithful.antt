-- The state after a history replies and answers as the history does, and so does the one behind a request.
use Rattle.std.proofs.Common.{◌≡◌, List, ◌++◌, refl, ap, subst, ◌∙◌}
use Rattle.un_ask.specs.declared.request.Command.{Command}
use Rattle.un_ask.specs.declared.request.Request.{Request}
use Rattle.un_ask.specs.declared.request.Request.TheVariants as request
use Rattle.un_tiers.specs.declared.setup.Setup.{Setup}
use Rattle.un_core.specs.State.{State}
use Rattle.un_core.specs.Commands.{command_reply, state_after, accepted_of}
use Rattle.un_core.specs.Answers.{answer}
use Rattle.un_core.specs.Accepted.{IsAfter}
use Rattle.un_core.specs.Requests.{reply_to, reply_after, FaithfulLaw, BehindLaw}
use Rattle.un_core.proofs.Accepted.{after_command}
use Rattle.un_core.proofs.Clearing.{validation_does}
use Rattle.un_core.proofs.Exact.{walks_are_exact}
use Rattle.un_core.proofs.HistoryAnswers.{two_grounds, history_replies, history_answers}

replied : (S : Setup) (history : List Command) (s : State) → IsAfter S history s → (r : Request) → reply_to s r ≡ reply_after S history r
replied S history s after (request.Command c) = ap (λ s. command_reply s c) after.is ∙ history_replies S history c after.may
replied S history s after (request.Query q) = ap (λ s. answer s q) after.is ∙ history_answers S history q after.may
replied S history s after (request.Past q) = refl
replied S history s after (request.Changes q) = refl

pub states_are_faithful : FaithfulLaw
states_are_faithful S history s after = record {
  after = after;
  replies = replied S history s after;
  validation = λ extent. validation_does s extent after.state;
  two_grounds = λ q. two_grounds s q after.state;
  over_kept = walks_are_exact.kept s;
  over_fresh = walks_are_exact.fresh s after.state;
  over_history = walks_are_exact.history S history after.may;
  over_fresh_history = walks_are_exact.fresh_history S history after.may;
}

pub requests_lead : BehindLaw
requests_lead S history s (request.Command c) after =
    subst (λ t. IsAfter S (accepted_of t c ++ history) (state_after s c)) after.is (after_command S history s c after)
requests_lead S history s (request.Query q) after = after
requests_lead S history s (request.Past q) after = after
requests_lead S history s (request.Changes q) after = after
