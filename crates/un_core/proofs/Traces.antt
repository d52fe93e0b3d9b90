-- Traces over the kept topology answer as over all features in consistent mode, and as over what the history leaves in either.
use Rattle.std.proofs.Common.{◌≡◌, Bool, true, false, List, [], ◌∷◌, filter, find, slice_get, Option, None, Some, refl, sym, ap, subst, ◌∙◌, inl, IsTrue, if◌then◌else◌, option_and_then}
use Rattle.std.specs.declared.cmp.Ordering.{Ordering}
use Rattle.std.specs.List.{list_any}
use Rattle.std.specs.BTreeSet.{insert_key}
use Rattle.std.specs.Option.{option_map}
use Rattle.un_geom.specs.Places.{covers}
use Rattle.un_defs.specs.declared.port.Node.{Node}
use Rattle.un_defs.specs.declared.walk.Dirt.{Dirt}
use Rattle.un_defs.specs.Orders.{rising, least, port_cmp, same_port}
use Rattle.un_defs.specs.Ground.{Ground, entry, is_dirty}
use Rattle.un_defs.specs.Reach.{IsReach, leads, dirt, area_cmp, areas_over, ports_under}
use Rattle.un_defs.proofs.Rising.{Among, among_from-rising, among-insert_key}
use Rattle.un_defs.proofs.Members.{among_from_contains, among-map, among-filter, among_from-filter, among_from_list_any, list_any_from_among}
use Rattle.un_ask.specs.declared.typed.TypedAsk.{TypedAsk}
use Rattle.un_ask.specs.declared.reply.Reply.TheVariants.{Loops}
use Rattle.un_trace.specs.TraceReply.{trace_reply, reply_given_dirt, mode_of}
use Rattle.un_loops.specs.Answer.{loops_reply, loops_given_dirt}
use Rattle.un_loops.proofs.SameLoops.{same_loops}
use Rattle.un_isolate.specs.Answer.{isolation_reply}
use Rattle.un_isolate.proofs.SameIsolation.{same_isolation}
use Rattle.un_resolve.specs.Kinds.{is_isolation}
use Rattle.un_ask.specs.declared.request.Command.{Command}
use Rattle.un_tiers.specs.declared.setup.Setup.{Setup}
use Rattle.un_core.specs.State.{State, kept_ground, fresh_ground_of}
use Rattle.un_core.specs.History.{after_all}
use Rattle.un_core.specs.Cover.{IsState, MayAllHappen}
use Rattle.un_core.specs.Answers.{is_loops, kept_survey, fresh_survey, reached_from, reply_over, traced}
use Rattle.un_core.specs.HistoryAnswers.{history_survey}
use Rattle.un_core.proofs.Asked.{kept_points, reply_by}
use Rattle.un_core.proofs.Taken.{for_isolation}
use Rattle.un_core.proofs.Grounds.{reached_reaches, reached_fresh, reached_reply, same_ground}
use Rattle.un_core.proofs.HistoryKept.{kept_is_history}
use Rattle.un_core.proofs.SameReply.{reply_agrees}

-- ---- dirt

module _ {A : Type 0} (cmp : A → A → Ordering) where
  one_inserted : (ys : List A) (k : A) → (z : A) × Among (insert_key cmp ys k) z
  one_inserted [] k = (k, inl refl)
  one_inserted (y ∷ ys) k = (y, among-insert_key cmp (y ∷ ys) k y (inl refl))

  first_of : (xs : List A) (x : A) → Among xs x → (z : A) × (slice_get xs 0 ≡ Some z) × Among xs z
  first_of [] x h = absurd h
  first_of (y ∷ ys) x h = (y, refl, inl refl)

  -- a list with an element has a least one
  least_there : (xs : List A) (x : A) → Among xs x → (z : A) × (least cmp xs ≡ Some z) × Among xs z
  least_there [] x h = absurd h
  least_there (y ∷ ys) x h =
      let one = one_inserted (rising cmp ys) y in
      let first = first_of (rising cmp (y ∷ ys)) one.0 one.1 in
      (first.0, first.1, among_from-rising cmp (y ∷ ys) first.0 first.2)

-- nodes of which one is dirty have dirt
dirt_there : (G : Ground) (nodes : List Node) (n : Node) → Among nodes n → is_dirty G n.at ≡ true → (d : Dirt) × (dirt G nodes ≡ Some d)
dirt_there G nodes n h dirty =
    let over = among_from_list_any (λ area. covers area.1 n.at) G.areas dirty in
    let area = least_there area_cmp (areas_over G nodes) over.0
    (among-filter (λ area. list_any (λ n. covers area.1 n.at) nodes) G.areas over.0 over.1 (list_any_from_among (λ n. covers (over.0).1 n.at) nodes n h over.2)) in
    let under = among_from_list_any (λ n. covers (area.0).1 n.at) nodes (among_from-filter (λ area. list_any (λ n. covers area.1 n.at) nodes) G.areas area.0 area.2).1 in
    let port = least_there port_cmp (ports_under area.0 nodes) (under.0).port
    (among-map (λ n. n.port) (filter (λ n. covers (area.0).1 n.at) nodes) under.0 (among-filter (λ n. covers (area.0).1 n.at) nodes under.0 under.1 under.2)) in (
      record { area = (area.0).0; port = port.0 },
      ap (option_and_then (λ area. option_map (λ q. record { area = area.0; port = q }) (least port_cmp (ports_under area nodes)))) area.1
          ∙ ap (option_map (λ q. record { area = (area.0).0; port = q })) port.1,
    )

pub no_dirt : (G : Ground) (nodes : List Node) → dirt G nodes ≡ None → (n : Node) → Among nodes n → is_dirty G n.at ≡ false
no_dirt G nodes none n h = go (is_dirty G n.at) refl
  where
    none_some : (d : Dirt) → None ≡ Some d → ⊥
    none_some d e = cc

    go : (b : Bool) → is_dirty G n.at ≡ b → b ≡ false
    go true e = let there = dirt_there G nodes n h e in absurd (none_some there.0 (sym none ∙ there.1))
    go false e = refl

-- ---- what is kept

pub kept_reach : (s : State) (ask : TypedAsk) → IsReach (leads (kept_ground s) ask.barriers (mode_of ask.kind)) ask.starts (reached_from (kept_survey s) ask)
kept_reach s ask = reached_reaches (kept_survey s) (kept_points s.kept) ask.barriers (mode_of ask.kind) ask.starts

module _ (s : State) (ask : TypedAsk) where
  abbrev K : Ground
  K = kept_ground s

  abbrev H : Ground
  H = fresh_ground_of s

  abbrev nodes : List Node
  nodes = reached_from (kept_survey s) ask

  pub same_entry : IsState s → dirt K nodes ≡ None → (n : Node) → Among nodes n → entry K n ≡ entry H n
  same_entry is none n h = ap (λ star. find (λ s. same_port s.port n.port) star.spots) (is.cover n.at (no_dirt K nodes none n h))

  dirt_given : (G : Ground) (o : Option Dirt) → IsTrue ask.barriers.consistent → dirt G nodes ≡ o → trace_reply G ask nodes ≡ reply_given_dirt o G ask nodes
  dirt_given G o consistent e =
      (λ i. reply_given_dirt (if consistent i then dirt G nodes else None) G ask nodes) ∙ ap (λ o. reply_given_dirt o G ask nodes) e

  trace_same : IsState s → IsTrue ask.barriers.consistent → (o : Option Dirt) → dirt K nodes ≡ o → trace_reply K ask nodes ≡ trace_reply H ask nodes
  trace_same is consistent (Some d) e = dirt_given K (Some d) consistent e ∙ sym (dirt_given H (Some d) consistent e)
  trace_same is consistent None e =
      dirt_given K None consistent e ∙ reply_agrees K H ask nodes (same_entry is e) ∙ sym (dirt_given H None consistent e)

  loops_same : IsState s → (o : Option Dirt) → dirt K nodes ≡ o → loops_reply K ask nodes ≡ loops_reply H ask nodes
  loops_same is (Some d) e = ap (λ o. loops_given_dirt o K ask nodes) e ∙ sym (ap (λ o. loops_given_dirt o H ask nodes) e)
  loops_same is None e =
      ap (λ o. loops_given_dirt o K ask nodes) e
      ∙ ap (λ segments. Loops segments 0) (same_loops K H refl ask.barriers nodes (same_entry is e))
      ∙ sym (ap (λ o. loops_given_dirt o H ask nodes) e)

  isolation_same : IsState s → is_isolation ask.kind ≡ true → isolation_reply K ask nodes ≡ isolation_reply H ask nodes
  isolation_same is isolation =
      same_isolation K H ask nodes refl
      (subst (λ m. IsReach (leads K ask.barriers m) ask.starts nodes) (ap mode_of (for_isolation ask.kind isolation).0) (kept_reach s ask))
      (λ none n h. same_entry is none n (among_from_contains nodes n h))

  reply_same : IsState s → IsTrue ask.barriers.consistent → reply_over K ask nodes ≡ reply_over H ask nodes
  reply_same is consistent = go (is_loops ask.kind) (is_isolation ask.kind) refl
    where
      go : (loops isolation : Bool) → is_isolation ask.kind ≡ isolation → reply_by loops isolation K ask nodes ≡ reply_by loops isolation H ask nodes
      go true isolation e = loops_same is (dirt K nodes) refl
      go false true e = isolation_same is e
      go false false e = trace_same is consistent (dirt K nodes) refl

-- in consistent mode the kept topology serves as well as all features: the result is the same, or the refusal for dirty ground
pub fresh_trace : (s : State) (ask : TypedAsk) → IsState s → IsTrue ask.barriers.consistent → traced (kept_survey s) ask ≡ traced (fresh_survey s) ask
fresh_trace s ask is consistent =
    reply_same s ask is consistent
    ∙ ap (reply_over (fresh_ground_of s) ask)
    (reached_fresh s is ask.barriers (mode_of ask.kind) consistent ask.starts (reached_from (kept_survey s) ask) (kept_reach s ask))

-- in either mode it serves as well as what the history leaves
pub history_trace : (S : Setup) (history : List Command) (ask : TypedAsk) → MayAllHappen S history → traced (kept_survey (after_all S history)) ask ≡ traced (history_survey S history) ask
history_trace S history ask may =
    let is = kept_is_history S history may in
    let nodes = reached_reply S history may is ask.barriers (mode_of ask.kind) ask.starts (reached_from (kept_survey (after_all S history)) ask) (kept_reach (after_all S history) ask) in
    λ i. reply_over (same_ground S history is i) ask (nodes i)
