-- The state after the accepted commands.
use Rattle.std.specs.Prelude.{◌≡◌, List, [], ◌++◌, length, None}
use Rattle.un_schema.specs.Sound.{IsCatalog}
use Rattle.un_ask.specs.declared.request.Command.{Command}
use Rattle.un_tiers.specs.declared.setup.Setup.{Setup}
use Rattle.un_core.specs.State.{State, opening}
use Rattle.un_core.specs.Step.{next_state}
use Rattle.un_core.specs.History.{after_all}
use Rattle.un_core.specs.Cover.{IsState, MayHappen, MayAllHappen, IsOfHistory}
use Rattle.un_core.specs.Commands.{command_refusal, state_after, accepted_of}

-- The state is the one after a history whose commands might all happen. So its kept topology and its dirty areas are those of the
-- history, and each point that no dirty area covers has its fresh star.
pub record IsAfter (S : Setup) (history : List Command) (s : State) : Type 0 where
  pub schema : IsCatalog S.schema
  pub setup : s.setup ≡ S
  pub may : MayAllHappen S history
  pub is : s ≡ after_all S history
  pub of_history : IsOfHistory S history
  pub state : IsState s

-- a command that is not refused might happen
abbrev pub MayLaw : Type 0
MayLaw = (s : State) (c : Command) → IsState s → IsCatalog s.setup.schema → command_refusal s c ≡ None → MayHappen s c

-- no command changes the schema or the tiers
abbrev pub SetupLaw : Type 0
SetupLaw = (s : State) (c : Command) → (next_state s c).setup ≡ s.setup

-- the opening state is the one after no commands
abbrev pub OpeningLaw : Type 0
OpeningLaw = (S : Setup) → IsCatalog S.schema → IsAfter S [] (opening S)

-- the state after a command is the one after the history with that command, where it is accepted
abbrev pub AfterLaw : Type 0
AfterLaw = (S : Setup) (history : List Command) (s : State) (c : Command) → IsAfter S history s →
    IsAfter S (accepted_of s c ++ history) (state_after s c)

-- the version is the number of accepted commands
abbrev pub VersionLaw : Type 0
VersionLaw = (S : Setup) (history : List Command) → (after_all S history).version ≡ length history
