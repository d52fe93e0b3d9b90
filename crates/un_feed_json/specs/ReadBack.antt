-- Pages are read back as they were printed.
use Rattle.std.specs.Prelude.{◌≡◌, List, Ok}
use Rattle.un_schema.specs.Catalog.{Catalog}
use Rattle.un_tiers.specs.declared.tier.Tier.{Tier}
use Rattle.un_feed.specs.Differences.{ChangesShown}
use Rattle.un_feed_json.specs.Lines.{line_answer, page_line}
use Rattle.un_feed_json.specs.Shown.{changes_text}
use Rattle.un_feed_json.specs.Sound.{IsSetup, IsPage}

-- the text of a sound page, as a follower's line, says the page
abbrev pub PagesReadBackLaw : Type 0
PagesReadBackLaw = (S : Catalog) (T : List Tier) (t : ChangesShown) → IsSetup S T → IsPage S T t → line_answer S T (changes_text S T t) ≡ Ok (page_line t)
