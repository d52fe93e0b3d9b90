-- What replies are printed as.
use Rattle.std.specs.Prelude.{ℕ, None}
use Rattle.un_defs.specs.declared.refusal.Refusal.{Refusal}
use Rattle.un_defs.specs.declared.refusal.Refusal.TheVariants as refusal
use Rattle.un_tiers.specs.declared.setup.Setup.{Setup}
use Rattle.un_ask.specs.declared.query.ChangesQuery.{ChangesQuery}
use Rattle.un_ask.specs.declared.reply.Reply.{Reply}
use Rattle.un_ask.specs.declared.reply.Reply.TheVariants as reply
use Rattle.un_replies.specs.Commands.{IsOfCommand, HasFewIds}
use Rattle.un_replies.specs.Replies.{print, past_around}
use Rattle.un_feed.specs.Differences.{Kept, ChangesShown, differences, page_of}
use Rattle.un_feed_json.specs.Shown.{changes_text}
use Rattle.un_turns.specs.declared.request.Span.{Span}
use Rattle.un_exchange.specs.declared.status.Status.{Status}
use Rattle.un_exchange.specs.declared.status.Status.TheVariants as status
use Rattle.un_exchange.specs.Pages.{PageModel, page}
use Rattle.un_exchange.specs.Exchanges.{Printing}

-- the status of a refusal
abbrev pub refusal_status : Refusal → Status
refusal_status refusal.NotJson = status.BadRequest
refusal_status (refusal.BadRequest place) = status.BadRequest
refusal_status (refusal.Ahead seen latest) = status.Conflict
refusal_status (refusal.NotYet at latest) = status.Conflict
refusal_status other = status.Unprocessable

-- the status of a reply
abbrev pub reply_status : Reply → Status
reply_status (reply.Refused refusal edit version) = refusal_status refusal
reply_status other = status.Ok

-- a reply as a page
abbrev pub reply_page : Reply → PageModel
reply_page r = page (reply_status r) (print r)

-- the refusal of a query that asks for more entries than there are
abbrev pub ahead_reply : ℕ → ℕ → Reply
ahead_reply seen latest = reply.Refused (refusal.Ahead seen latest) None 0

-- the refusal of a query at a version that is over the latest
abbrev pub not_yet_reply : ℕ → ℕ → Reply
not_yet_reply at latest = reply.Refused (refusal.NotYet at latest) None 0

-- the refusal of a query about two versions of which the first comes after the second
abbrev pub reversed_reply : ℕ → ℕ → ℕ → Reply
reversed_reply version since upto = reply.Refused (refusal.BadSpan since upto) None version

-- the differences of two kept topologies that a query asks for
abbrev pub changes_between : Span → Kept → Kept → ChangesQuery → ChangesShown
changes_between span old new q = record {
  page = page_of (differences old new) q.after q.most;
  after = q.after;
  since = span.since;
  upto = span.upto;
  version = span.version;
}

-- a page of them
abbrev pub changes_page : Setup → Span → Kept → Kept → ChangesQuery → PageModel
changes_page S span old new q = page status.Ok (changes_text S.schema S.tiers (changes_between span old new q))

-- an answer at a past version, whatever its own status, in a response at a version
abbrev pub past_page : ℕ → PageModel → PageModel
past_page version answer = page status.Ok (past_around answer.body version)

-- a reply that fits in the room for it
abbrev pub Fits : Reply → Type 0
Fits r = IsOfCommand r × HasFewIds r

abbrev pub printing : Printing Reply PageModel
printing = record {
  reply = reply_page;
  answer = λ answer. answer;
  past = past_page;
  ahead = λ seen latest. print (ahead_reply seen latest);
  not_yet = λ at latest. print (not_yet_reply at latest);
  reversed = λ version since upto. print (reversed_reply version since upto);
}

-- the version that a reply reports
abbrev pub version_of : Reply → ℕ
version_of (reply.Edited areas id word version) = version
version_of (reply.Batch areas ids version) = version
version_of (reply.Ruled areas rules version) = version
version_of (reply.Validated cleared errors version) = version
version_of (reply.Updated row version) = version
version_of (reply.Version version) = version
version_of (reply.Feature feature version) = version
version_of (reply.Dirty areas version) = version
version_of (reply.Errors errors version) = version
version_of (reply.Subnet controllers members status subnet tier updated version) = version
version_of (reply.Traced result version) = version
version_of (reply.Controllers controllers version) = version
version_of (reply.Loops segments version) = version
version_of (reply.Isolation borders features version) = version
version_of (reply.Path cost labels nodes version) = version
version_of (reply.Check valid version) = version
version_of (reply.Diagram edges kept pieces version) = version
version_of (reply.Refused refusal edit version) = version
