-- The law that whatever is kept after the commands of a log, a page can show.
use Rattle.std.proofs.Common.{◌≡◌, ◌≢◌, List, [], ◌∷◌, ◌++◌, sym, ap, subst, ◌∙◌}
use Rattle.std.proofs.lemmas.List.Elements.{All-head, All-tail}
use Rattle.un_geom.specs.declared.point.Point.{Point}
use Rattle.un_schema.specs.Sound.{IsCatalog}
use Rattle.un_defs.specs.declared.star.Star.{Star}
use Rattle.un_defs.specs.Star.{empty_star}
use Rattle.un_defs.proofs.Members.{among_left, among_from_contains}
use Rattle.un_defs.proofs.Unique.{from_all}
use Rattle.un_machine.specs.Logs.{Leads}
use Rattle.un_tiers.specs.declared.setup.Setup.{Setup}
use Rattle.un_core.specs.State.{State, opening, fresh_star}
use Rattle.un_core.specs.Commands.{step}
use Rattle.un_core.specs.Logs.{LogEntry}
use Rattle.un_core.specs.Changes.{IsOnTheWay}
use Rattle.un_core.proofs.Accepted.{same_setup}
use Rattle.un_core.proofs.Logs.{done, logs_are_histories}
use Rattle.un_core.proofs.Once.{kept_were_fresh}
use Rattle.un_feed_json.specs.Sound.{IsBase, IsStar}
use Rattle.un_defs.proofs.KeepsSound.{all_from}
use Rattle.un_feed_laws.specs.Typed.{IsTyped}
use Rattle.un_feed_laws.specs.States.{IsInRange, IsTypedLog, IsSoundPair, KeptPairsAreSoundLaw}
use Rattle.un_feed_laws.proofs.FreshStars.{fresh_stars}
use Rattle.un_feed_laws.proofs.FreshPlaces.{fresh_places}
use Rattle.un_feed_laws.proofs.CommandsKept.{commands_kept, opening_in_range}

-- the first part of a typed log is one
pub typed_front : (front rest : List LogEntry) → IsTypedLog (front ++ rest) → IsTypedLog front
typed_front front rest typed = all_from (λ e. IsTyped e.cmd) front (λ e h. from_all (λ e. IsTyped e.cmd) (front ++ rest) typed e (among_left front rest e h))

-- a log of typed commands leads from a state in range to one
stays_in_range : (s : State) (log : List LogEntry) (t : State) → IsCatalog s.setup.schema → IsTypedLog log → IsInRange s → Leads step s log t → IsInRange t
stays_in_range s [] t catalog typed is leads = subst IsInRange leads is
stays_in_range s (e ∷ log) t catalog typed is leads =
    let one = done s e.cmd leads.0 (e.reply, e.mark) leads.1 in
    let next = subst IsInRange one.1.0 (commands_kept s e.cmd catalog (All-head (λ e. IsTyped e.cmd) e log typed) is one.0) in
    let same = subst (λ (S : Setup). IsCatalog S.schema) (sym (same_setup s e.cmd) ∙ ap (λ (u : State). u.setup) one.1.0) catalog in
    stays_in_range leads.0 log t same (All-tail (λ e. IsTyped e.cmd) e log typed) next leads.2

-- what was the star of all features somewhere on the way, and is not empty, is a pair that a page can show
module _ (S : Setup) (log : List LogEntry) (catalog : IsCatalog S.schema) (typed : IsTypedLog log) where
  was_pair : (pair : Point × Star) (m : State) → IsOnTheWay S log m → pair.1 ≡ fresh_star m pair.0 → pair.1 ≢ empty_star → IsSoundPair S pair
  was_pair pair m way is some =
      let front = typed_front way.done way.rest (subst IsTypedLog way.is typed) in
      let after = (logs_are_histories S way.done m catalog way.leads).0 in
      let sound = after.state.sound in
      let range = (stays_in_range (opening S) way.done m catalog front (opening_in_range S) way.leads).features in
      record {
        at = fresh_places m.setup.schema m.setup.tiers m.features sound range pair.0 (λ e. some (is ∙ e));
        star = subst (IsStar S.schema S.tiers) (sym is)
            (subst (λ (U : Setup). IsStar U.schema U.tiers (fresh_star m pair.0)) after.setup
            (fresh_stars m.setup.schema m.setup.tiers m.features sound range pair.0));
      }

pub kept_pairs : KeptPairsAreSoundLaw
kept_pairs S log s catalog typed leads pair h =
    let was = kept_were_fresh S log s catalog leads pair h in
    let state = (logs_are_histories S log s catalog leads).0.state in
    was_pair S log catalog typed pair was.0 was.1 was.2 (from_all (λ (pair : Point × Star). pair.1 ≢ empty_star) s.kept state.nonempty pair (among_from_contains s.kept pair h))

-- the version too is in range
pub version_in_range : (S : Setup) (log : List LogEntry) (s : State) → IsCatalog S.schema → IsTypedLog log → Leads step (opening S) log s → IsBase s.version
version_in_range S log s catalog typed leads = (stays_in_range (opening S) log s catalog typed (opening_in_range S) leads).version
