-- Over the kept topology a trace for isolation has what its answer needs, where it meets no dirt.
use Rattle.std.proofs.Common.{◌≡◌, false, List, None, find, Contains, sym, ap, ◌∙◌}
use Rattle.std.specs.Option.{option_map_or}
use Rattle.un_defs.specs.declared.port.Node.{Node}
use Rattle.un_defs.specs.declared.walk.Mode.TheVariants.{Any}
use Rattle.un_defs.specs.Orders.{same_port}
use Rattle.un_defs.specs.Ports.{nodes}
use Rattle.un_defs.specs.Ground.{entry}
use Rattle.un_defs.specs.Reach.{leads, dirt}
use Rattle.un_defs.proofs.FreshLinked.{kept_linked}
use Rattle.un_defs.proofs.Members.{among_from_contains}
use Rattle.un_defs.proofs.Standing.{entry_of, from_entry}
use Rattle.un_defs.proofs.Walking.{walk_from_start}
use Rattle.un_ask.specs.declared.typed.TypedAsk.{TypedAsk}
use Rattle.un_resolve.specs.Valves.{row_isolates}
use Rattle.un_isolate.specs.Isolation.{isolates as spot_isolates, StartsAreClear}
use Rattle.un_isolate.specs.Answer.{isolation_of, IsForIsolation, IsReachOf, IsFit}
use Rattle.un_isolate.proofs.IsolatingRows.{isolating_rows}
use Rattle.un_core.specs.State.{State, kept_ground, fresh_ground_of}
use Rattle.un_core.specs.Cover.{IsState}
use Rattle.un_core.specs.Answers.{AreClear}
use Rattle.un_core.proofs.Traces.{no_dirt}

module _ (s : State) (is : IsState s) (ask : TypedAsk) (consistent : IsForIsolation ask) (stand : (n : Node) → Contains ask.starts n → Contains (nodes s.features) n)
    (clear : AreClear s.setup.schema s.features ask) (reached : List Node) (reach : IsReachOf (kept_ground s) ask reached) (clean : dirt (kept_ground s) reached ≡ None) where
  -- a start is reached, so its entry is the fresh one, which isolates where its row does
  clear_starts : StartsAreClear (isolation_of (kept_ground s) ask)
  clear_starts n h =
      let F = s.features in
      let among = among_from_contains reached n ((reach.exact n).1 (walk_from_start (leads (kept_ground s) ask.barriers Any) ask.starts n (among_from_contains ask.starts n h))) in
      let same : entry (kept_ground s) n ≡ entry (fresh_ground_of s) n =
      ap (λ star. find (λ spot. same_port spot.port n.port) star.spots) (is.cover n.at (no_dirt (kept_ground s) reached clean n among)) in
      let spot = entry_of s.setup.schema F is.sound s.areas n (among_from_contains (nodes F) n (stand n h)) in
      let found = (from_entry s.setup.schema F s.areas n spot.0 spot.1).found in
      ap (λ o. option_map_or (spot_isolates ask.isolators) o false) same
      ∙ isolating_rows s.setup.schema F s.areas ask.barriers ask.isolators ask.starts is.sound n (stand n h) _ found
      ∙ ap (λ o. option_map_or (row_isolates s.setup.schema ask.isolators) o false) (sym found)
      ∙ clear n h

  pub is_fit : IsFit (kept_ground s) ask reached
  is_fit = record {
    own_ports = (kept_linked s.setup.schema s.features (kept_ground s) ask.barriers Any ask.starts reached is.sound is.cover consistent.consistent stand reach clean).own_ports;
    clear = clear_starts;
  }
