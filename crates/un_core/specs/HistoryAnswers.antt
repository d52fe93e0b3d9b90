-- What is answered by the schema, the tiers and the accepted commands alone.
use Rattle.std.specs.Prelude.{◌≡◌, ◌+◌, List, length}
use Rattle.std.specs.Option.{option_map_or}
use Rattle.un_defs.specs.Star.{standing_points}
use Rattle.un_defs.specs.Ground.{fresh_ground}
use Rattle.un_ask.specs.declared.request.Command.{Command}
use Rattle.un_ask.specs.declared.request.Command.TheVariants.{Validate}
use Rattle.un_ask.specs.declared.query.Query.{Query}
use Rattle.un_ask.specs.declared.reply.Reply.{Reply}
use Rattle.un_ask.specs.declared.reply.Reply.TheVariants as reply
use Rattle.un_tiers.specs.declared.setup.Setup.{Setup}
use Rattle.un_core.specs.Validation.{met}
use Rattle.un_core.specs.History.{after_all, dirty_after, history_ground, points_before}
use Rattle.un_core.specs.Cover.{MayAllHappen}
use Rattle.un_core.specs.Commands.{command_refusal, refusal_reply, accepted, command_reply}
use Rattle.un_core.specs.Clearing.{fresh_errors}
use Rattle.un_core.specs.Walked.{Survey}
use Rattle.un_core.specs.Answers.{Basis, answer, answer_on}

-- the topology of all features as a history leaves them, with the areas that are dirty then
abbrev pub fresh_after : Setup → List Command → Survey
fresh_after S history = record {
  topology = fresh_ground (after_all S history).setup.schema (after_all S history).features (dirty_after S history);
  points = standing_points (after_all S history).features;
}

-- the stars that a history leaves, with the same areas
abbrev pub history_survey : Setup → List Command → Survey
history_survey S history = record { topology = history_ground S history; points = points_before S history }

-- The version is the number of accepted commands, and the areas are those that no later validation cleared. Consistent traces rest on all
-- features, and all else on the stars that stood at each point at its last validation.
abbrev pub history_basis : Setup → List Command → Basis
history_basis S history = record {
  consistent = fresh_after S history;
  other = history_survey S history;
  areas = dirty_after S history;
  version = length history;
}

-- the answer of a query
abbrev pub answer_after : Setup → List Command → Query → Reply
answer_after S history q = answer_on (after_all S history) (history_basis S history) q

-- the reply to what is accepted: a validation tells how many dirty areas it clears, and how many errors stand under them
abbrev pub accepted_after : Setup → List Command → Command → Reply
accepted_after S history (Validate extent) = reply.Validated
    (length (met extent (dirty_after S history))) (fresh_errors (after_all S history) (met extent (dirty_after S history))) (length history + 1)
accepted_after S history c = accepted (after_all S history) c

-- the reply to a command
abbrev pub command_reply_after : Setup → List Command → Command → Reply
command_reply_after S history c =
    option_map_or (refusal_reply (after_all S history) c) (command_refusal (after_all S history) c) (accepted_after S history c)

-- the state gives these replies and answers
abbrev pub ReplyLaw : Type 0
ReplyLaw = (S : Setup) (history : List Command) (c : Command) → MayAllHappen S history → command_reply (after_all S history) c ≡ command_reply_after S history c

abbrev pub AnswerLaw : Type 0
AnswerLaw = (S : Setup) (history : List Command) (q : Query) → MayAllHappen S history → answer (after_all S history) q ≡ answer_after S history q
