-- What is due by the states of a network is what is due by the schema's line and the accepted commands alone.
use Rattle.std.proofs.Common.{◌≡◌, ℕ, List, Result, Ok, Err, refl, ap}
use Rattle.un_lines.specs.Cut.{lines_of}
use Rattle.un_lines.specs.Alike.{BothOpen, AreAlike, same_due, same_first, state_behind}
use Rattle.un_schema.specs.declared.place.Place.{Place}
use Rattle.un_schema.specs.Catalog.{Catalog}
use Rattle.un_tiers.specs.declared.tier.Tier.{Tier}
use Rattle.un_schema_json.specs.Lines.{schema_of}
use Rattle.un_schema_json.specs.Sound.{SchemaLaw}
use Rattle.un_ask.specs.declared.request.Request.{Request as Asked}
use Rattle.un_json.specs.declared.fault.ReadFault.{ReadFault}
use Rattle.un_json.specs.Requests.{ask}
use Rattle.un_replies.specs.Replies.{print}
use Rattle.un_core.specs.State.{State}
use Rattle.un_core.specs.Accepted.{IsAfter, OpeningLaw}
use Rattle.un_core.specs.Requests.{FaithfulLaw, BehindLaw}
use Rattle.un_script.specs.Opening.{setup_of}
use Rattle.un_script.specs.Script.{script, opened_by as state_opened, reply_to_line, state_behind_line}
use Rattle.un_script.specs.History.{History, opened_by, reply_after_line, history_behind_line, by_history, StateLaw, Headline}

-- the state is the one after the history
abbrev Agree : State → History → Type 0
Agree s h = IsAfter h.setup h.commands s

module _ (schemas : SchemaLaw) (opening : OpeningLaw) (faithful : FaithfulLaw) (behind : BehindLaw) where
  opens : (line : List ℕ) → BothOpen Agree (state_opened (schema_of line)) (opened_by (schema_of line))
  opens line = go (schema_of line) refl
    where
      go : (r : Result (Catalog × List Tier) Place) → schema_of line ≡ r → BothOpen Agree (state_opened r) (opened_by r)
      go (Err place) e = tt
      go (Ok schema) e = opening (setup_of schema) (schemas line schema e)

  replies : (s : State) (h : History) → Agree s h → (r : Result Asked ReadFault) → reply_to_line s r ≡ reply_after_line h r
  replies s h is (Err fault) = refl
  replies s h is (Ok request) = (faithful h.setup h.commands s is).replies request

  next : (s : State) (h : History) → Agree s h → (r : Result Asked ReadFault) → Agree (state_behind_line s r) (history_behind_line h r)
  next s h is (Err fault) = is
  next s h is (Ok request) = behind h.setup h.commands s request is

  alike : AreAlike Agree script by_history
  alike = record {
    opened = opens;
    refusal = λ line. refl;
    refusal_too_long = refl;
    refusal_missing = refl;
    reply = λ s h is line. ap print (replies s h is (ask line));
    next = λ s h is line. next s h is (ask line);
    too_long = refl;
  }

  states : StateLaw
  states entries s stands =
      let there = state_behind Agree script by_history alike entries s stands in
      (there.0, there.1, faithful (there.0).setup (there.0).commands s there.2)

  pub headline : Headline
  headline = record {
    state = states;
    same_due = same_due Agree script by_history alike;
    same_first = λ read ended. same_first Agree script by_history alike (lines_of ended read);
  }
