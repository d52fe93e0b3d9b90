-- No refusal that can be told before a walk is one of want of memory: that is told apart from all causes.
use Rattle.std.proofs.Common.{◌≢◌, ℕ, ◌==◌, ◌&&◌, not, length, map, is_some, Bool, List, [], ◌∷◌, Option, None, Some, ok_or, Result, Ok, Err}
use Rattle.std.specs.Prelude.{⊤}
use Rattle.std.specs.Option.{option_map_or}
use Rattle.un_conds.specs.Conditions.{Condition}
use Rattle.un_schema.specs.declared.place.Place.{Place}
use Rattle.un_schema.specs.declared.place.Place.TheVariants as place
use Rattle.un_schema.specs.declared.rule.Rule.{Rule}
use Rattle.un_schema.specs.Catalog.{Catalog, kind_named}
use Rattle.un_schema.specs.Fits.{has_classes}
use Rattle.un_tiers.specs.Raw.{resolves}
use Rattle.un_defs.specs.declared.port.Port.{Port}
use Rattle.un_defs.specs.declared.refusal.Refusal.{Refusal}
use Rattle.un_defs.specs.declared.refusal.Refusal.TheVariants as refusal
use Rattle.un_defs.specs.Refusing.{first_refusal, refused_if}
use Rattle.un_defs.specs.Features.{Features, row}
use Rattle.un_ask.specs.declared.trace.TraceAsk.{TraceAsk}
use Rattle.un_ask.specs.declared.rule.NamedRule.{NamedRule}
use Rattle.un_ask.specs.declared.path.NamedPath.{NamedPath}
use Rattle.un_ask.specs.declared.path.NamedCheck.{NamedCheck}
use Rattle.un_ask.specs.declared.diagram.NamedDiagram.{NamedDiagram}
use Rattle.un_tiers.specs.declared.setup.Setup.{Setup}
use Rattle.un_defs.proofs.NoMemory.{IsOther, AreOther, first_other, other_where}
use Rattle.un_resolve.specs.Kinds.{needs_tier, is_subnetwork, is_isolation, lacks, lacking}
use Rattle.un_resolve.specs.Starts.{given_starts, start_node, no_feature, no_start, tier_of, no_tier, controller_ports, no_subnet, starts_refusal}
use Rattle.un_resolve.specs.Valves.{isolates, on_valve, valves_refusal}
use Rattle.un_resolve.specs.Rules.{numbered, no_kind, kinds_of, unknown_kind, wrong_class, naming_refusal}
use Rattle.un_resolve.specs.Resolved.{condition_of, bad_condition, conditions_refusal, valve_refusal, resolving_refusal}
use Rattle.un_resolve.specs.Walks.{behind, and_then, node_at, ends_asked, path_from, path_asked, check_from, check_asked, condition_asked, diagram_asked}

lacks_other : (needed given : Bool) (p : Place) → IsOther (lacks needed given p)
lacks_other needed given p = other_where (needed && not given) (refusal.BadRequest p) (λ e. cc)

lacking_other : (ask : TraceAsk) → IsOther (lacking ask)
unfolding AreOther
lacking_other ask = first_other
    (lacks (needs_tier ask.kind) (is_some ask.tier) place.Tier ∷ lacks (is_subnetwork ask.kind) (is_some ask.subnet) place.Subnet
    ∷ lacks (is_isolation ask.kind) (is_some ask.isolators) place.Isolators ∷ []) (
      lacks_other (needs_tier ask.kind) (is_some ask.tier) place.Tier,
      (
        lacks_other (is_subnetwork ask.kind) (is_some ask.subnet) place.Subnet,
        (lacks_other (is_isolation ask.kind) (is_some ask.isolators) place.Isolators, tt),
      ),
    )

-- what is due of each of a list is due of the list
all_other : {A : Type 0} (cause : A → Option Refusal) → ((x : A) → IsOther (cause x)) → (xs : List A) → AreOther (map cause xs)
unfolding AreOther
all_other cause other [] = tt
all_other cause other (x ∷ xs) = (other x, all_other cause other xs)

ports_other : (cause : Port → Option Refusal) → ((q : Port) → IsOther (cause q)) → (ports : List Port) → IsOther (first_refusal (map cause ports))
ports_other cause other ports = first_other (map cause ports) (all_other cause other ports)

feature_other : (F : Features) (q : Port) → IsOther (no_feature F q)
feature_other F q = other_where (not (is_some (row F q.feature))) (refusal.NoSuchFeature q.feature) (λ e. cc)

start_other : (F : Features) (q : Port) → IsOther (no_start F q)
start_other F q = other_where (not (is_some (start_node F q))) (refusal.NoStart q.feature q.number) (λ e. cc)

starts_other : (S : Setup) (F : Features) (ask : TraceAsk) → IsOther (starts_refusal S F ask)
unfolding AreOther
starts_other S F ask = first_other
    (first_refusal (map (no_feature F) (given_starts ask)) ∷ no_tier S ask ∷ no_subnet S F ask ∷ first_refusal (map (no_start F) (given_starts ask)) ∷ []) (
      ports_other (no_feature F) (feature_other F) (given_starts ask),
      (
        other_where (is_some ask.tier && not (is_some (tier_of S ask))) refusal.NoSuchTier (λ e. cc),
        (
          other_where (is_subnetwork ask.kind && (length (controller_ports S F ask) == 0)) refusal.NoSuchSubnetwork (λ e. cc),
          (ports_other (no_start F) (start_other F) (given_starts ask), tt),
        ),
      ),
    )

condition_other : (S : Catalog) (cond : Option (Condition (List ℕ))) (p : Place) → IsOther (bad_condition S cond p)
condition_other S cond p = other_where (not (resolves S.attributes S.categories cond)) (refusal.BadCondition p) (λ e. cc)

conditions_other : (S : Catalog) (ask : TraceAsk) → IsOther (conditions_refusal S ask)
unfolding AreOther
conditions_other S ask = first_other (bad_condition S ask.isolators place.Isolators ∷ bad_condition S ask.barriers place.Barriers ∷ [])
    (condition_other S ask.isolators place.Isolators, (condition_other S ask.barriers place.Barriers, tt))

valves_other : (S : Catalog) (F : Features) (isolators : Option (Condition ℕ)) (ports : List Port) → IsOther (valves_refusal S F isolators ports)
valves_other S F isolators ports =
    ports_other (on_valve S F isolators) (λ q. other_where (isolates S F isolators q) (refusal.StartIsValve q.feature q.number) (λ e. cc)) ports

pub resolving_other : (S : Setup) (F : Features) (ask : TraceAsk) → IsOther (resolving_refusal S F ask)
unfolding AreOther
resolving_other S F ask = first_other (lacking ask ∷ starts_refusal S F ask ∷ conditions_refusal S.schema ask ∷ valve_refusal S F ask ∷ [])
    (lacking_other ask, (starts_other S F ask, (conditions_other S.schema ask, (valves_other S.schema F (condition_of S.schema ask.isolators) (given_starts ask), tt))))

-- ---- rules

kind_other : (S : Catalog) (name : List ℕ) → IsOther (no_kind S name)
unfolding IsOther
kind_other S name = go (kind_named S name)
  where
    go : (o : Option ℕ) → IsOther (option_map_or (λ k. None) o (Some (refusal.NoSuchKind name)))
    go None = λ e. cc
    go (Some k) = tt

class_other : (S : Catalog) (named : NamedRule) → IsOther (wrong_class S named)
unfolding IsOther
class_other S named = go (numbered S named)
  where
    go : (o : Option Rule) → IsOther (option_map_or (λ r. refused_if (not (has_classes S r)) refusal.WrongKind) o None)
    go None = tt
    go (Some r) = other_where (not (has_classes S r)) refusal.WrongKind (λ e. cc)

pub naming_other : (S : Catalog) (named : NamedRule) → IsOther (naming_refusal S named)
unfolding AreOther
naming_other S named = first_other (unknown_kind S named ∷ wrong_class S named ∷ [])
    (first_other (map (no_kind S) (kinds_of named)) (all_other (no_kind S) (kind_other S) (kinds_of named)), (class_other S named, tt))

-- ---- paths, checks and diagrams

-- what comes out is no want of memory
abbrev pub IsOtherOf : {A : Type 0} → Result A Refusal → Type 0
IsOtherOf (Err r) = r ≢ refusal.Memory
IsOtherOf (Ok a) = ⊤

module _ {A : Type 0} where
  behind_other : (d : Option Refusal) (next : Result A Refusal) → IsOther d → IsOtherOf next → IsOtherOf (behind d next)
  unfolding IsOther
  behind_other None next cause rest = rest
  behind_other (Some r) next cause rest = cause

  and_then_other : {B : Type 0} (f : A → Result B Refusal) (x : Result A Refusal) → ((a : A) → IsOtherOf (f a)) → IsOtherOf x → IsOtherOf (and_then f x)
  and_then_other f (Err r) later now = now
  and_then_other f (Ok a) later now = later a

  found_other : (o : Option A) (r : Refusal) → r ≢ refusal.Memory → IsOtherOf (ok_or o r)
  found_other None r other = other
  found_other (Some a) r other = tt

node_other : (F : Features) (q : Port) → IsOtherOf (node_at F q)
node_other F q = found_other (start_node F q) (refusal.NoStart q.feature q.number) (λ e. cc)

ends_other : (S : Catalog) (F : Features) (from to : Port) (barriers : Option (Condition (List ℕ))) (stops : List Port) → IsOtherOf (ends_asked S F from to barriers stops)
ends_other S F from to barriers stops =
    behind_other (first_refusal (map (no_feature F) (from ∷ to ∷ []))) _ (ports_other (no_feature F) (feature_other F) (from ∷ to ∷ []))
    (and_then_other _ (node_at F from)
    (λ a. and_then_other _ (node_at F to) (λ b. behind_other (bad_condition S barriers place.Barriers) _ (condition_other S barriers place.Barriers) tt) (node_other F to))
    (node_other F from))

pub path_other : (S : Catalog) (F : Features) (ask : NamedPath) → IsOtherOf (path_asked S F ask)
path_other S F ask =
    and_then_other (λ ends. Ok (path_from S ask ends)) (ends_asked S F ask.from ask.to ask.barriers ask.stops) (λ ends. tt)
    (ends_other S F ask.from ask.to ask.barriers ask.stops)

pub check_other : (S : Catalog) (F : Features) (ask : NamedCheck) → IsOtherOf (check_asked S F ask)
check_other S F ask =
    and_then_other (λ ends. Ok (check_from S ask ends)) (ends_asked S F ask.from ask.to ask.barriers ask.stops) (λ ends. tt)
    (ends_other S F ask.from ask.to ask.barriers ask.stops)

pub diagram_other : (S : Catalog) (F : Features) (ask : NamedDiagram) → IsOtherOf (diagram_asked S F ask)
diagram_other S F ask =
    behind_other (first_refusal (map (no_feature F) ask.starts)) _ (ports_other (no_feature F) (feature_other F) ask.starts)
    (behind_other (first_refusal (map (no_start F) ask.starts)) _ (ports_other (no_start F) (start_other F) ask.starts)
    (and_then_other _ (condition_asked S ask.keep place.Keep)
    (λ keep. behind_other (bad_condition S ask.barriers place.Barriers) _ (condition_other S ask.barriers place.Barriers) tt)
    (found_other (condition_of S (Some ask.keep)) (refusal.BadCondition place.Keep) (λ e. cc))))
