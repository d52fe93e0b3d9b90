-- Commands that are done again.
use Rattle.std.proofs.Common.{◌≡◌, ℕ, ◌+◌, ◌<◌, List, [], ◌∷◌, ◌++◌, length, take, get_or, sym, ap, ◌∙◌}
use Rattle.std.proofs.lemmas.List.Sums.{fold_more, fold-append}
use Rattle.un_ask.specs.declared.request.Command.{Command}
use Rattle.un_core.specs.State.{State}
use Rattle.un_core.specs.Commands.{state_after}
use Rattle.un_script.specs.Redone.{redone}

-- one more of the commands
pub redone_more : (s t : State) (cs : List Command) (i : ℕ) (c : Command) → i < length cs → c ≡ get_or cs i c → t ≡ redone s (take i cs)
    → state_after t c ≡ redone s (take (i + 1) cs)
redone_more s t cs i c within here is =
    ap (λ (u : State). state_after u c) is
    ∙ sym (fold_more state_after s cs i c within ∙ ap (state_after (redone s (take i cs))) (sym here))

-- one command behind the others
pub redone_push : (s : State) (cs : List Command) (c : Command) → redone s (cs ++ c ∷ []) ≡ state_after (redone s cs) c
redone_push s cs c = fold-append state_after s cs (c ∷ [])

-- commands behind others
pub redone_append : (s : State) (cs ds : List Command) → redone s (cs ++ ds) ≡ redone (redone s cs) ds
redone_append s cs ds = fold-append state_after s cs ds
