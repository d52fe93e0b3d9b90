-- Each reply of a follower is one line, and only that to a line that met want of memory tells of it.
use Rattle.std.proofs.Common.{◌≡◌, ◌≢◌, ℕ, ◌<◌, ap, lit<, arith, List, [], ◌∷◌, length, Bool, true, false, Option, None, Some, Result, Ok, Err, cond, refl}
use Rattle.serde_json.specs.Data.{Data}
use Rattle.serde_json.proofs.OnLiterals.{serde_json_on_literals}
use Rattle.un_geom.specs.declared.point.Point.{Point}
use Rattle.un_points.specs.PointMaps.{value_at}
use Rattle.un_lines.specs.Rules.{IsPlain}
use Rattle.un_schema.specs.declared.place.Place.{Place}
use Rattle.un_schema.specs.declared.place.Place.TheVariants as place
use Rattle.un_schema.specs.Catalog.{Catalog}
use Rattle.un_tiers.specs.declared.tier.Tier.{Tier}
use Rattle.un_schema_json.specs.Lines.{schema_of}
use Rattle.un_json.specs.declared.fault.ReadFault.{ReadFault}
use Rattle.un_json.specs.declared.fault.ReadFault.TheVariants.{NotJson, BadRequest, Memory}
use Rattle.un_json.specs.Requests.{json_of, fault_reply}
use Rattle.un_defs.specs.declared.star.Star.{Star}
use Rattle.un_replies.specs.Replies.{print}
use Rattle.un_replies.specs.Lines.{NoLineEnd, memory_text, text_line, reply_line, reply_other}
use Rattle.un_feed.specs.Differences.{ChangesShown}
use Rattle.un_feed.specs.Follows.{Copied, fits, taken}
use Rattle.un_feed_json.specs.Lines.{Line, page_line, star_line, line_answer, said_by, or_fault, value_answer}
use Rattle.un_feed_json.specs.Shown.{followed_text, followed_value, star_text, star_value}
use Rattle.un_script.specs.Opening.{bad_place, bad_schema, line_too_long}
use Rattle.un_script.specs.declared.follow.copy.Following.{Following}
use Rattle.un_script.specs.Following.{follow, followed, wrong_page, reply_to_page, reply_to_line, said}

-- ---- lines

page_is_line : (copy : Copied) (page : ChangesShown) → NoLineEnd (reply_to_page copy page)
page_is_line copy page = go (fits copy page)
  where
    go : (b : Bool) → NoLineEnd (cond b (followed (taken copy page)) (print (wrong_page copy)))
    go true = text_line (followed_value (length (taken copy page).kept) (taken copy page).version)
    go false = reply_line (wrong_page copy)

is_line : (f : Following) (r : Result Line ReadFault) → NoLineEnd (reply_to_line f r)
is_line f (Err fault) = reply_line (fault_reply fault)
is_line f (Ok (page_line page)) = page_is_line f.copy page
is_line f (Ok (star_line p)) = text_line (star_value f.schema f.tiers p (value_at p f.copy.kept) f.copy.version)

-- ---- other texts than that for want of memory

-- the byte behind the first two
abbrev third : List ℕ → ℕ
third [] = 0
third (a ∷ []) = 0
third (a ∷ b ∷ []) = 0
third (a ∷ b ∷ c ∷ rest) = c

-- the text for want of memory has an `m` there
above : (text : List ℕ) (byte : ℕ) → third text ≡ byte → 109 < byte → text ≢ memory_text
above text byte is high e = let h : third text ≡ 109 = ap third e in omega arith

followed_other : (points version : ℕ) → followed_text points version ≢ memory_text
unfolding serde_json_on_literals
followed_other points version = above _ _ refl (lit< tt)

star_other : (S : Catalog) (T : List Tier) (p : Point) (star : Option Star) (version : ℕ) → star_text S T p star version ≢ memory_text
unfolding serde_json_on_literals
star_other S T p star version = above _ _ refl (lit< tt)

page_other : (copy : Copied) (page : ChangesShown) → reply_to_page copy page ≢ memory_text
page_other copy page = go (fits copy page)
  where
    go : (b : Bool) → cond b (followed (taken copy page)) (print (wrong_page copy)) ≢ memory_text
    go true = followed_other (length (taken copy page).kept) (taken copy page).version
    go false = reply_other (wrong_page copy) (λ e. cc)

-- what a line says is no want of memory
never_memory : (S : Catalog) (T : List Tier) (text : List ℕ) → line_answer S T text ≢ Err Memory
never_memory S T text e = go (json_of text) e
  where
    at : (r : Result Line Place) → or_fault r ≡ Err Memory → ⊥
    at (Err p) e = cc
    at (Ok r) e = cc

    go : (o : Option Data) → said_by S T o ≡ Err Memory → ⊥
    go None e = cc
    go (Some d) e = at (value_answer S T d) e

is_other : (f : Following) (r : Result Line ReadFault) → r ≢ Err Memory → reply_to_line f r ≢ memory_text
is_other f (Err NotJson) said = reply_other (fault_reply NotJson) (λ e. cc)
is_other f (Err (BadRequest place)) said = reply_other (fault_reply (BadRequest place)) (λ e. cc)
is_other f (Err Memory) said = absurd (said refl)
is_other f (Ok (page_line page)) said = page_other f.copy page
is_other f (Ok (star_line p)) said = star_other f.schema f.tiers p (value_at p f.copy.kept) f.copy.version

pub follow_is_plain : IsPlain follow
follow_is_plain = record {
  refusals = λ line. reply_line (bad_schema (bad_place (schema_of line)));
  refusal = reply_line (bad_schema place.Line);
  replies = λ f line. is_line f (said f line);
  too_long = reply_line line_too_long;
  other = λ f line. is_other f (said f line) (never_memory f.schema f.tiers line);
}
