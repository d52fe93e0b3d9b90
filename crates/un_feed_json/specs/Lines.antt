-- What a follower's line says, and which place of it is bad.
use Rattle.std.specs.Prelude.{ℕ, nat_lt, Bool, true, false, not, ◌&&◌, List, [], ◌∷◌, codes, Option, None, Some, is_some, Result, Ok, Err, if◌then◌else◌, ⊤}
use Rattle.serde_json.specs.Data.{Data}
use Rattle.serde_json.specs.Find.{get, as_bool, as_object}
use Rattle.un_geom.specs.declared.point.Point.{Point}
use Rattle.un_geom.specs.Places.{point_cmp}
use Rattle.un_pages.specs.Pairs.{is_past}
use Rattle.un_schema.specs.Catalog.{Catalog}
use Rattle.un_schema.specs.declared.place.Place.{Place}
use Rattle.un_schema.specs.declared.place.Place.TheVariants as place
use Rattle.un_tiers.specs.declared.tier.Tier.{Tier}
use Rattle.un_feed.specs.Differences.{Difference, ChangesShown, changes_shown}
use Rattle.un_json.specs.Forms.{base_of, point_of, or_null, list_of}
use Rattle.un_json.specs.Rows.{Row, makes, ◌&◌, required, no_others, without_others, mapped, and_then}
use Rattle.un_json.specs.Requests.{json_of}
use Rattle.un_json.specs.declared.fault.ReadFault.{ReadFault}
use Rattle.un_json.specs.declared.fault.ReadFault.TheVariants.{NotJson, BadRequest}
use Rattle.un_feed_json.specs.declared.line.FollowLine.{FollowLine}
use Rattle.un_feed_json.specs.declared.line.FollowLine.TheVariants.{Page, Star}
use Rattle.un_feed_json.specs.Fits.{HaveNames}
use Rattle.un_feed_json.specs.Forms.{change_of, says}

-- a page, or a question for the star of a point
pub data Line : Type 0 where
  page_line : ChangesShown → Line
  star_line : Point → Line

-- a line with the stars of its page as values
abbrev pub line_shown : FollowLine → Line
line_shown (Page changes) = page_line (changes_shown changes)
line_shown (Star p) = star_line p

-- the kinds, attributes and tiers of the stars of its page exist
abbrev pub LineHasNames : Catalog → List Tier → FollowLine → Type 0
LineHasNames S T (Page changes) = HaveNames S T changes.page.pairs
LineHasNames S T (Star p) = ⊤

-- what the members of an object make, or the first place that is bad
abbrev pub made : {A : Type 0} → Row A → Data → Result A Place
made r d = without_others (r.value d) (no_others r.places d)

-- ---- questions for a star

abbrev pub star_row : Row Point
star_row = makes (λ word p. p) & required place.Ask (says (codes "star")) & required place.At point_of

-- ---- pages

abbrev pub page : Option Point → List Difference → Bool → ⊤ → ℕ → ℕ → ℕ → ChangesShown
page after pairs more word since upto version = record {
  page = record { pairs = pairs; more = more };
  after = after;
  since = since;
  upto = upto;
  version = version;
}

abbrev pub page_row : Catalog → List Tier → Row ChangesShown
page_row S T =
    makes page & required place.After (or_null point_of) & required place.Changes (list_of (change_of S T)) & required place.More as_bool
    & required place.Ok (says (codes "changes")) & required place.Since base_of & required place.Upto base_of & required place.Version base_of

-- the points rise, and the first comes after this one
abbrev pub rises_after : Option Point → List Difference → Bool
rises_after last [] = true
rises_after last (d ∷ ds) = is_past point_cmp last d.0 && rises_after (Some d.0) ds

abbrev pub is_empty : List Difference → Bool
is_empty [] = true
is_empty (d ∷ ds) = false

-- a page whose members are good is refused where it goes backwards, where its points do not rise after the place where it begins, and where
-- it has no changes but says that there are more
abbrev pub sound_page : ChangesShown → Result ChangesShown Place
sound_page t =
    if nat_lt t.upto t.since then Err place.Upto
    else (if not (rises_after t.after t.page.pairs) then Err place.Changes
    else (if t.page.more && is_empty t.page.pairs then Err place.More else Ok t))

abbrev pub page_answer : Catalog → List Tier → Data → Result ChangesShown Place
page_answer S T d = and_then sound_page (made (page_row S T) d)

-- ---- lines

-- an object with a member `ask` asks for a star; every other object is a page
abbrev pub object_answer : Catalog → List Tier → Data → Result Line Place
object_answer S T d =
    if is_some (get (codes "ask") d) then mapped star_line (made star_row d) else mapped page_line (page_answer S T d)

abbrev pub value_answer : Catalog → List Tier → Data → Result Line Place
value_answer S T d = if is_some (as_object d) then object_answer S T d else Err place.Whole

abbrev pub or_fault : Result Line Place → Result Line ReadFault
or_fault (Err p) = Err (BadRequest p)
or_fault (Ok line) = Ok line

abbrev pub said_by : Catalog → List Tier → Option Data → Result Line ReadFault
said_by S T None = Err NotJson
said_by S T (Some d) = or_fault (value_answer S T d)

-- what a line says
abbrev pub line_answer : Catalog → List Tier → List ℕ → Result Line ReadFault
line_answer S T text = said_by S T (json_of text)
