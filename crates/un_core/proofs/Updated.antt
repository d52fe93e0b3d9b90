-- An update over the kept topology does what one over all features does, and what its parts say.
use Rattle.std.proofs.Common.{◌≡◌, ℕ, suc, ◌==◌, nat_le, not, ◌&&◌, Bool, true, false, true≢false, List, [], ◌∷◌, map, length, Option, None, Some, refl, sym, ap, ◌∙◌, if◌then◌else◌, IfOk, OnOk, arith}
use Rattle.std.proofs.lemmas.Bool.Decides.{nat_tests}
use Rattle.std.specs.Option.{option_map_or}
use Rattle.un_defs.specs.declared.port.Node.{Node}
use Rattle.un_defs.specs.declared.refusal.Refusal.{Refusal}
use Rattle.un_defs.specs.declared.refusal.Refusal.TheVariants.{NoSuchTier, NoSuchSubnetwork, Full}
use Rattle.un_defs.specs.declared.refusal.Limit.TheVariants.{Subnetworks}
use Rattle.un_defs.specs.declared.assoc.Controller.{Controller}
use Rattle.un_defs.specs.Features.{controllers_of}
use Rattle.un_defs.specs.Ground.{Ground}
use Rattle.un_defs.specs.Refusing.{first_refusal, refused_if, Refuses}
use Rattle.un_defs.proofs.Members.{among_from_contains}
use Rattle.un_ask.specs.declared.stored.StoredSubnet.{StoredSubnet}
use Rattle.un_ask.specs.declared.typed.TypedAsk.{TypedAsk}
use Rattle.un_ask.specs.declared.reply.Reply.{Reply}
use Rattle.un_ask.specs.declared.reply.Reply.TheVariants as reply
use Rattle.un_subnet.specs.Outcome.{refuses, removes, stores, unless_refused, has_controllers, has_row, most_rows, walk_outcome, subnet_outcome, outcome_refusal}
use Rattle.un_subnet.specs.Answer.{IsAnswer, walk_refusal, row_of, update_reply}
use Rattle.un_subnet.proofs.Starts.{starts}
use Rattle.un_subnet.proofs.TwoGrounds.{same_outcome}
use Rattle.un_core.specs.State.{State, kept_ground, fresh_ground_of}
use Rattle.un_core.specs.Cover.{IsState}
use Rattle.un_core.specs.Walked.{Survey, reached, kept_survey, fresh_survey}
use Rattle.un_core.specs.Answers.{reached_from}
use Rattle.un_core.specs.Updating.{walk_of, outcome_in, outcome, done, IsOfWalk, row_in_reply}
use Rattle.un_tiers.specs.Lists.{tier_named}
use Rattle.un_defs.specs.declared.walk.Mode.TheVariants.{Any}
use Rattle.un_core.proofs.Grounds.{reached_here, reached_fresh}
use Rattle.un_core.proofs.Asked.{kept_points}
use Rattle.un_core.proofs.Traces.{kept_reach, same_entry}

module _ (s : State) (is : IsState s) where
  -- over both topologies an update does the same
  pub outcome_in_kept : (tier : ℕ) (subnet : List ℕ) → outcome_in s (kept_survey s) tier subnet ≡ outcome_in s (fresh_survey s) tier subnet
  outcome_in_kept tier subnet =
      let ask = walk_of s tier subnet in
      let nodes = reached_from (kept_survey s) ask in
      same_outcome (kept_ground s) (fresh_ground_of s) s.features s.stored ask.barriers.of_tier ask.disjoint (Some tier) subnet nodes
      (record { areas = refl; entries = λ none n h. same_entry s ask is none n (among_from_contains nodes n h) })
      ∙ ap (subnet_outcome (fresh_ground_of s) s.features s.stored tier subnet ask)
      (reached_fresh s is ask.barriers Any refl ask.starts nodes (kept_reach s ask))

  pub outcome_named : (tier subnet : List ℕ) (number : ℕ) → tier_named s.setup.tiers tier ≡ Some number → outcome_in s (kept_survey s) number subnet ≡ outcome s tier subnet
  outcome_named tier subnet number named =
      outcome_in_kept number subnet ∙ ap (λ o. option_map_or (λ number. outcome_in s (fresh_survey s) number subnet) o (refuses NoSuchTier)) (sym named)

pub outcome_unnamed : (s : State) (tier subnet : List ℕ) → tier_named s.setup.tiers tier ≡ None → refuses NoSuchTier ≡ outcome s tier subnet
outcome_unnamed s tier subnet none = ap (λ o. option_map_or (λ number. outcome_in s (fresh_survey s) number subnet) o (refuses NoSuchTier)) (sym none)

-- an outcome that is done refuses nothing
pub done_none : (row : Option StoredSubnet) → outcome_refusal (done row) ≡ None
done_none None = refl
done_none (Some row) = refl

-- ---- the walk

module _ (G : Ground) (ask : TypedAsk) (nodes : List Node) where
  abbrev by : Option Refusal → Reply
  by d = option_map_or (λ r. reply.Refused r None 0) d (reply.Updated (Some (row_of ask nodes)) 0)

  pub of_walk : IsOfWalk (update_reply G ask nodes)
  of_walk = go (walk_refusal G ask nodes)
    where
      go : (d : Option Refusal) → IsOfWalk (by d)
      go None = tt
      go (Some r) = tt

  pub row_where : IfOk (row_in_reply (update_reply G ask nodes)) (λ row. row ≡ row_of ask nodes)
  row_where = go (walk_refusal G ask nodes)
    where
      go : (d : Option Refusal) → IfOk (row_in_reply (by d)) (λ row. row ≡ row_of ask nodes)
      go None = refl
      go (Some r) = tt

  pub none_where : OnOk (row_in_reply (update_reply G ask nodes)) (walk_refusal G ask nodes ≡ None)
  none_where = go (walk_refusal G ask nodes) refl
    where
      go : (d : Option Refusal) → walk_refusal G ask nodes ≡ d → OnOk (row_in_reply (by d)) (walk_refusal G ask nodes ≡ None)
      go None none = none
      go (Some r) cause = tt

  pub refused_where : Refuses (row_in_reply (update_reply G ask nodes)) (walk_refusal G ask nodes)
  refused_where = go (walk_refusal G ask nodes) refl
    where
      go : (d : Option Refusal) → walk_refusal G ask nodes ≡ d → Refuses (row_in_reply (by d)) (walk_refusal G ask nodes)
      go None none = tt
      go (Some r) cause = λ other. cause

-- over what is kept it is the one for the list of reached nodes
pub walk_kept : (s : State) (ask : TypedAsk) (told : Reply) → IsAnswer (kept_ground s) ask told
    → told ≡ update_reply (kept_ground s) ask (reached (kept_survey s) ask.barriers Any ask.starts)
walk_kept s ask told is =
    is.is ∙ ap (update_reply (kept_ground s) ask) (reached_here (kept_survey s) (kept_points s.kept) ask.barriers Any ask.starts is.reached is.reach)

-- ---- the outcome by its parts

module _ (s : State) (v : Survey) (tier : ℕ) (subnet : List ℕ) where
  abbrev ask : TypedAsk
  ask = walk_of s tier subnet

  abbrev nodes : List Node
  nodes = reached v ask.barriers Any ask.starts

  by_parts : (has row : Bool) → has_controllers s.features tier subnet ≡ has → has_row s.stored tier subnet ≡ row
      → outcome_in s v tier subnet ≡ unless_refused (refused_if (not has && not row) NoSuchSubnetwork) (if has then walk_outcome v.topology s.stored tier subnet ask nodes else removes)
  by_parts has row h r = λ i. unless_refused (refused_if (not (h i) && not (r i)) NoSuchSubnetwork) (if h i then walk_outcome v.topology s.stored tier subnet ask nodes else removes)

  pub row_alone : has_controllers s.features tier subnet ≡ false → has_row s.stored tier subnet ≡ true → outcome_in s v tier subnet ≡ removes
  row_alone h r = by_parts false true h r

  pub nothing_there : has_controllers s.features tier subnet ≡ false → has_row s.stored tier subnet ≡ false → outcome_in s v tier subnet ≡ refuses NoSuchSubnetwork
  nothing_there h r = by_parts false false h r

  walk_by : (d : Option Refusal) (row full : Bool) → has_controllers s.features tier subnet ≡ true → walk_refusal v.topology ask nodes ≡ d
      → has_row s.stored tier subnet ≡ row → nat_le most_rows (length s.stored) ≡ full
      → outcome_in s v tier subnet ≡ unless_refused (first_refusal (d ∷ refused_if (not row && full) (Full Subnetworks) ∷ [])) (stores (row_of ask nodes))
  walk_by d row full h due r f =
      by_parts true row h r
      ∙ (λ i. unless_refused (first_refusal (due i ∷ refused_if (not (r i) && f i) (Full Subnetworks) ∷ [])) (stores (row_of ask nodes)))

  pub walk_refused : (r : Refusal) → has_controllers s.features tier subnet ≡ true → walk_refusal v.topology ask nodes ≡ Some r → outcome_refusal (outcome_in s v tier subnet) ≡ Some r
  walk_refused r h due = ap outcome_refusal (walk_by (Some r) (has_row s.stored tier subnet) (nat_le most_rows (length s.stored)) h due refl refl)

  pub is_full : has_controllers s.features tier subnet ≡ true → walk_refusal v.topology ask nodes ≡ None → has_row s.stored tier subnet ≡ false → nat_le most_rows (length s.stored) ≡ true
      → outcome_refusal (outcome_in s v tier subnet) ≡ Some (Full Subnetworks)
  is_full h due r f = ap outcome_refusal (walk_by None false true h due r f)

  -- there is room where the row is there, or where few are stored
  pub is_stored : (row full : Bool) → has_controllers s.features tier subnet ≡ true → walk_refusal v.topology ask nodes ≡ None → has_row s.stored tier subnet ≡ row
      → nat_le most_rows (length s.stored) ≡ full → not row && full ≡ false → outcome_in s v tier subnet ≡ stores (row_of ask nodes)
  is_stored row full h due r f room =
      walk_by None row full h due r f ∙ ap (λ b. unless_refused (first_refusal (None ∷ refused_if b (Full Subnetworks) ∷ [])) (stores (row_of ask nodes))) room

-- ---- the controllers

filled : (n : ℕ) → (suc n == 0) ≡ false
filled n = grind (arith, nat_tests)

at_least_one : (n : ℕ) → nat_le 1 (suc n) ≡ true
at_least_one n = grind (arith, nat_tests)

-- a walk without starts is one of a subnetwork without controllers
pub controllers_by_starts : (s : State) → IsState s → (tier : ℕ) (subnet : List ℕ) (b : Bool) → (length (walk_of s tier subnet).starts == 0) ≡ b
    → has_controllers s.features tier subnet ≡ not b
controllers_by_starts s is tier subnet b empty = go b (walk_of s tier subnet).starts (controllers_of s.features tier subnet) empty (starts s.setup.schema s.features tier subnet is.sound)
  where
    go : (b : Bool) (ns : List Node) (cs : List Controller) → (length ns == 0) ≡ b → map (λ n. n.port) ns ≡ map (λ c. c.port) cs → nat_le 1 (length cs) ≡ not b
    go true [] [] empty e = refl
    go false [] [] empty e = absurd (true≢false empty)
    go b [] (c ∷ cs) empty e = cc
    go b (n ∷ ns) [] empty e = cc
    go true (n ∷ ns) (c ∷ cs) empty e = absurd (true≢false (sym empty ∙ filled (length ns)))
    go false (n ∷ ns) (c ∷ cs) empty e = at_least_one (length cs)
