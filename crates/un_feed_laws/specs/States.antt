-- Commands keep states in range, and what is kept of a log is sound, as statements.
use Rattle.std.specs.Prelude.{◌≡◌, ◌≤◌, List, All, Contains, None}
use Rattle.un_geom.specs.declared.point.Point.{Point}
use Rattle.un_geom.specs.Places.{IsPlace}
use Rattle.un_schema.specs.Sound.{IsCatalog}
use Rattle.un_defs.specs.declared.star.Star.{Star}
use Rattle.un_machine.specs.Logs.{Leads}
use Rattle.un_ask.specs.declared.request.Command.{Command}
use Rattle.un_tiers.specs.declared.setup.Setup.{Setup}
use Rattle.un_core.specs.State.{State, opening}
use Rattle.un_core.specs.Step.{next_state}
use Rattle.un_core.specs.Commands.{command_refusal, step}
use Rattle.un_core.specs.Logs.{LogEntry}
use Rattle.un_feed_json.specs.Sound.{IsBase, IsStar}
use Rattle.un_feed_laws.specs.Ranges.{AreInRange}
use Rattle.un_feed_laws.specs.Typed.{IsTyped}

-- the features and the version are in range, and neither of the ids that are given next is 0
pub record IsInRange (s : State) : Type 0 where
  pub features : AreInRange s.setup.schema s.setup.tiers s.features
  pub feature : 1 ≤ s.next_feature
  pub association : 1 ≤ s.next_association
  pub version : IsBase s.version

abbrev pub OpeningInRangeLaw : Type 0
OpeningInRangeLaw = (S : Setup) → IsInRange (opening S)

-- an accepted command leaves the state in range
abbrev pub CommandsStayInRangeLaw : Type 0
CommandsStayInRangeLaw = (s : State) (c : Command) → IsCatalog s.setup.schema → IsTyped c → IsInRange s → command_refusal s c ≡ None
    → IsInRange (next_state s c)

-- ---- logs

-- the commands of a log are typed
abbrev pub IsTypedLog : List LogEntry → Type 0
IsTypedLog log = All (λ e. IsTyped e.cmd) log

-- a point in range, with a star that a page can show
pub record IsSoundPair (S : Setup) (pair : Point × Star) : Type 0 where
  pub at : IsPlace pair.0
  pub star : IsStar S.schema S.tiers pair.1

-- each point with a kept star, after the commands of a log
abbrev pub KeptPairsAreSoundLaw : Type 0
KeptPairsAreSoundLaw = (S : Setup) (log : List LogEntry) (s : State) → IsCatalog S.schema → IsTypedLog log → Leads step (opening S) log s
    → (pair : Point × Star) → Contains s.kept pair → IsSoundPair S pair
