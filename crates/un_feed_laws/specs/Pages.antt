-- Pages of differences between two states of one log are read back as they were printed, as statements.
use Rattle.std.specs.Prelude.{◌≡◌, ℕ, ◌≤◌, List, ◌++◌, Option, IfSome, Ok}
use Rattle.un_geom.specs.declared.point.Point.{Point}
use Rattle.un_geom.specs.Places.{IsPlace}
use Rattle.un_machine.specs.Logs.{Leads}
use Rattle.un_tiers.specs.declared.setup.Setup.{Setup}
use Rattle.un_core.specs.State.{State, opening}
use Rattle.un_core.specs.Commands.{step}
use Rattle.un_core.specs.Logs.{LogEntry}
use Rattle.un_feed.specs.Differences.{ChangesShown, differences, page_of}
use Rattle.un_feed_json.specs.Lines.{page_line, line_answer}
use Rattle.un_feed_json.specs.Shown.{changes_text}
use Rattle.un_feed_json.specs.Sound.{IsSetup, IsBase, IsPage}
use Rattle.un_feed_laws.specs.States.{IsTypedLog}

-- two states of one log of typed commands, of a network with a sound schema and sound tiers
pub record AreOfOneLog (S : Setup) (older later : List LogEntry) (s t : State) : Type 0 where
  pub setup : IsSetup S.schema S.tiers
  pub typed : IsTypedLog (older ++ later)
  pub first : Leads step (opening S) older s
  pub second : Leads step (opening S) (older ++ later) t

-- a query for at least one change, after a point if one is given, that is answered at a version
pub record IsAsked (after : Option Point) (most version : ℕ) : Type 0 where
  pub place : IfSome after IsPlace
  pub some : 1 ≤ most
  pub base : IsBase version

-- the page that answers it: the first so many changes between the two states
abbrev pub page_between : State → State → Option Point → ℕ → ℕ → ChangesShown
page_between s t after most version = record {
  page = page_of (differences s.kept t.kept) after most;
  after = after;
  since = s.version;
  upto = t.version;
  version = version;
}

-- the page is sound
abbrev pub PagesAreSoundLaw : Type 0
PagesAreSoundLaw = (S : Setup) (older later : List LogEntry) (s t : State) (after : Option Point) (most version : ℕ)
    → AreOfOneLog S older later s t → IsAsked after most version → IsPage S.schema S.tiers (page_between s t after most version)

-- its text, as a follower's line, says the page
abbrev pub ChangesReadBackLaw : Type 0
ChangesReadBackLaw = (S : Setup) (older later : List LogEntry) (s t : State) (after : Option Point) (most version : ℕ)
    → AreOfOneLog S older later s t → IsAsked after most version
    → line_answer S.schema S.tiers (changes_text S.schema S.tiers (page_between s t after most version)) ≡ Ok (page_line (page_between s t after most version))
