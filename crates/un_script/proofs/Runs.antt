-- Runs of commands.
use Rattle.std.proofs.Common.{◌≡◌, ℕ, List, [], ◌∷◌, ◌++◌, fold, Some, refl, sym, ap, ◌∙◌}
use Rattle.std.proofs.lemmas.List.Sums.{fold-append}
use Rattle.un_ask.specs.declared.request.Command.{Command}
use Rattle.un_core.specs.State.{State, opening}
use Rattle.un_core.specs.Commands.{state_after, command_reply}
use Rattle.un_gen.specs.Generator.{generated}
use Rattle.un_script.specs.Made.{built_in_setup, Run, begun, after_command, run_of, errors_of, line_at, made_line}
use Rattle.un_script.specs.Redone.{redone}

-- where a run leads does not depend on its replies
states : (r : Run) (cs : List Command) → (fold after_command r cs).state ≡ redone r.state cs
unfolding after_command
states r [] = refl
states r (c ∷ cs) = states (after_command r c) cs

-- a run of some commands, of others, and of a last one
module _ (s : State) (cs ds : List Command) (last : Command) where
  run : run_of s (cs ++ ds ++ last ∷ []) ≡ after_command (fold after_command (run_of s cs) ds) last
  run = fold-append after_command (begun s) (cs ++ ds) (last ∷ []) ∙ ap (λ (r : Run). after_command r last) (fold-append after_command (begun s) cs ds)

  before : (fold after_command (run_of s cs) ds).state ≡ redone (redone s cs) ds
  before = states (run_of s cs) ds ∙ ap (λ (t : State). redone t ds) (states (begun s) cs)

  pub state_of_run : state_after (redone (redone s cs) ds) last ≡ (run_of s (cs ++ ds ++ last ∷ [])).state
  unfolding after_command
  state_of_run = ap (λ (t : State). state_after t last) (sym before) ∙ sym (ap (λ (r : Run). r.state) run)

  pub errors_of_run : errors_of (Some (command_reply (redone (redone s cs) ds) last)) ≡ errors_of (run_of s (cs ++ ds ++ last ∷ [])).reply
  unfolding after_command
  errors_of_run = ap (λ (t : State). errors_of (Some (command_reply t last))) (sym before) ∙ sym (ap (λ (r : Run). errors_of r.reply) run)

-- the line of the state and the errors that the commands of a seed and a count lead to
pub line_made : (seed count : ℕ) (s t : State) (errors : ℕ) → s ≡ opening built_in_setup
    → t ≡ (run_of s (generated seed count)).state → errors ≡ errors_of (run_of s (generated seed count)).reply → line_at t errors ≡ made_line seed count
unfolding made_line
line_made seed count s t errors opens leads tells =
    let run : run_of s (generated seed count) ≡ run_of (opening built_in_setup) (generated seed count) = λ i. run_of (opens i) (generated seed count) in
    let state : t ≡ (run_of (opening built_in_setup) (generated seed count)).state = leads ∙ ap (λ (r : Run). r.state) run in
    let told : errors ≡ errors_of (run_of (opening built_in_setup) (generated seed count)).reply = tells ∙ ap (λ (r : Run). errors_of r.reply) run in
    λ i. line_at (state i) (told i)
