-- The commands of a log are a history that leads where the log leads.
use Rattle.std.proofs.Common.{◌≡◌, ◌+◌, List, [], ◌∷◌, length, Option, None, Some, inl, refl, ap, subst, ◌∙◌, arith}
use Rattle.un_geom.specs.Rectangle.{Rectangle}
use Rattle.un_defs.specs.declared.refusal.Refusal.{Refusal}
use Rattle.un_machine.specs.Logs.{Leads}
use Rattle.un_ask.specs.declared.request.Command.{Command}
use Rattle.un_ask.specs.declared.reply.Reply.{Reply}
use Rattle.un_tiers.specs.declared.setup.Setup.{Setup}
use Rattle.un_core.specs.State.{State}
use Rattle.un_core.specs.Step.{next_state, dirtied_by}
use Rattle.un_core.specs.Accepted.{IsAfter}
use Rattle.un_core.specs.Commands.{command_refusal, refusal_reply, accepted, step}
use Rattle.un_core.specs.Logs.{LogEntry, with_log, LogLaw}
use Rattle.un_core.proofs.Accepted.{opening_is_after, one_more, versions_count}
use Rattle.un_core.proofs.Stepping.{by, one_done, not_both}

-- a step that is done leads to the next state and marks what it made dirty, and nothing was due
pub done : (s : State) (c : Command) (t : State) (reply : Reply × List Rectangle) → step s c ≡ inl (t, reply)
    → (command_refusal s c ≡ None) × ((next_state s c ≡ t) × (dirtied_by s c ≡ reply.1))
done s c t reply is = go (command_refusal s c) refl is
  where
    go : (d : Option Refusal) → command_refusal s c ≡ d
        → by s c d ≡ inl (t, reply)
        → (command_refusal s c ≡ None) × ((next_state s c ≡ t) × (dirtied_by s c ≡ reply.1))
    go None none is =
        let same = one_done (by s c None) (next_state s c, (accepted s c, dirtied_by s c)) (t, reply) refl is in
        (none, (ap (λ (pair : State × (Reply × List Rectangle)). pair.0) same, ap (λ (pair : State × (Reply × List Rectangle)). pair.1.1) same))
    go (Some r) cause is = absurd (not_both (by s c (Some r)) (t, reply) (refusal_reply s c r) is refl)

-- from the state after a history, a log leads to the one after that history with its commands
log_follows : (S : Setup) (history : List Command) (s : State) (log : List LogEntry) (t : State) → IsAfter S history s → Leads step s log t → IsAfter S (with_log history log) t
log_follows S history s [] t after leads = subst (IsAfter S history) leads after
log_follows S history s (e ∷ log) t after leads =
    let one = done s e.cmd leads.0 (e.reply, e.mark) leads.1 in
    log_follows S (e.cmd ∷ history) leads.0 log t (subst (IsAfter S (e.cmd ∷ history)) one.1.0 (one_more S history s e.cmd after one.0)) leads.2

count : (history : List Command) (log : List LogEntry) → length (with_log history log) ≡ length history + length log
count history [] = omega arith
count history (e ∷ log) = let rest = count (e.cmd ∷ history) log in omega (arith, rest)

pub logs_are_histories : LogLaw
logs_are_histories S log s schema leads =
    let after = log_follows S [] _ log s (opening_is_after S schema) leads in
    let counted = ap (λ (t : State). t.version) after.is ∙ versions_count S (with_log [] log) in
    (after, omega (arith, counted, count [] log))
