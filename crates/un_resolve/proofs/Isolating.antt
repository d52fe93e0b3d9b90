-- A trace for isolation that is not refused has a condition for isolating devices, and starts on none of them.
use Rattle.std.proofs.Common.{◌≡◌, ℕ, ◌==◌, not, is_some, Bool, true, false, List, [], ◌∷◌, map, Option, None, Some, IsSome, IsTrue, refl, sym, ap, subst, ◌∙◌, inl, inr, eqb-true}
use Rattle.std.specs.Prelude.{Contains, option_and_then, if◌then◌else◌}
use Rattle.std.specs.Option.{option_map}
use Rattle.un_conds.specs.Conditions.{Condition}
use Rattle.un_schema.specs.Catalog.{Catalog}
use Rattle.un_schema.specs.declared.place.Place.{Place}
use Rattle.un_schema.specs.declared.place.Place.TheVariants as place
use Rattle.un_defs.specs.declared.port.Port.{Port}
use Rattle.un_defs.specs.declared.port.Node.{Node}
use Rattle.un_defs.specs.declared.row.Row.{Row}
use Rattle.un_defs.specs.declared.refusal.Refusal.{Refusal}
use Rattle.un_defs.specs.declared.refusal.Refusal.TheVariants as refusal
use Rattle.un_defs.specs.Features.{Features, row}
use Rattle.un_defs.specs.Ports.{point_of_port, node_of, has_port, port_node}
use Rattle.un_defs.specs.Refusing.{first_refusal, refused_if}
use Rattle.un_defs.proofs.Rising.{Among}
use Rattle.un_defs.proofs.Members.{among_from_contains, among_from-filter_map}
use Rattle.un_defs.proofs.Unique.{from_find}
use Rattle.un_tiers.specs.declared.setup.Setup.{Setup}
use Rattle.un_ask.specs.declared.trace.TraceKind.{TraceKind}
use Rattle.un_ask.specs.declared.trace.TraceKind.TheVariants as kind
use Rattle.un_ask.specs.declared.trace.TraceAsk.{TraceAsk}
use Rattle.un_resolve.specs.Kinds.{needs_tier, is_subnetwork, is_isolation, lacks, lacking}
use Rattle.un_resolve.specs.Starts.{given_starts, start_node, start_ports, start_nodes}
use Rattle.un_resolve.specs.Valves.{isolates, on_valve}
use Rattle.un_resolve.specs.Resolved.{condition_of, bad_condition, conditions_refusal, valve_refusal}
use Rattle.un_resolve.proofs.Tiers.{some_none, none_first, is_given}

-- where nothing is due of a list, nothing is due of the rest
none_rest : (d : Option Refusal) (ds : List (Option Refusal)) → first_refusal (d ∷ ds) ≡ None → first_refusal ds ≡ None
none_rest None ds e = e
none_rest (Some r) ds e = some_none r e

not_due : (b : Bool) (r : Refusal) → refused_if b r ≡ None → b ≡ false
not_due true r e = some_none r e
not_due false r e = refl

-- ---- the condition

resolved_is : (b : Bool) (r : Refusal) → refused_if (not b) r ≡ None → b ≡ true
resolved_is true r e = refl
resolved_is false r e = some_none r e

has_condition : (S : Catalog) (cond : Option (Condition (List ℕ))) (p : Place) → is_some cond ≡ true → bad_condition S cond p ≡ None → IsSome (condition_of S cond)
has_condition S None p given good = absurd (apart given)
  where
    apart : false ≡ true → ⊥
    apart e = cc
has_condition S (Some c) p given good = resolved_is (is_some (condition_of S (Some c))) (refusal.BadCondition p) good

pub has_isolators : (S : Catalog) (ask : TraceAsk) → lacking ask ≡ None → conditions_refusal S ask ≡ None → IsTrue (is_isolation ask.kind)
    → IsSome (condition_of S ask.isolators)
has_isolators S ask whole good needed =
    let tier = lacks (needs_tier ask.kind) (is_some ask.tier) place.Tier in
    let subnet = lacks (is_subnetwork ask.kind) (is_some ask.subnet) place.Subnet in
    let isolators = lacks (is_isolation ask.kind) (is_some ask.isolators) place.Isolators in
    let third : isolators ≡ None = none_first isolators [] (none_rest subnet (isolators ∷ []) (none_rest tier (subnet ∷ isolators ∷ []) whole)) in
    has_condition S ask.isolators place.Isolators (is_given (is_isolation ask.kind) (is_some ask.isolators) place.Isolators third needed)
    (none_first (bad_condition S ask.isolators place.Isolators) (bad_condition S ask.barriers place.Barriers ∷ []) good)

-- ---- the starts

none_due : (cause : Port → Option Refusal) (ports : List Port) → first_refusal (map cause ports) ≡ None → (q : Port) → Among ports q → cause q ≡ None
none_due cause [] none q h = absurd h
none_due cause (p ∷ ports) none q h = elim h [
  | inl same ↦ ap cause (sym same) ∙ none_first (cause p) (map cause ports) none
  | inr among ↦ none_due cause ports (none_rest (cause p) (map cause ports) none) q among
]

none_some : {A : Type 0} {x : A} → None ≡ Some x → ⊥
none_some e = cc

some_is : {A : Type 0} {x y : A} → Some x ≡ Some y → x ≡ y
some_is e = cc

mapped : {A B : Type 0} (f : A → B) (o : Option A) (b : B) → option_map f o ≡ Some b → (a : A) × (f a ≡ b)
mapped f None b e = absurd (none_some e)
mapped f (Some a) b e = (a, some_is e)

-- the node of a port of a row has the row's id
id_of_node : (r : Row) (number : ℕ) (n : Node) → port_node r number ≡ Some n → n.port.feature ≡ r.id
id_of_node r number n e = go (has_port r number) e
  where
    go : (b : Bool) → (if b then node_of r number else None) ≡ Some n → n.port.feature ≡ r.id
    go true e = ap (λ (m : Node). m.port.feature) (sym (mapped _ (point_of_port r number) n e).1)
    go false e = absurd (none_some e)

feature_of_start : (F : Features) (q : Port) (n : Node) → start_node F q ≡ Some n → n.port.feature ≡ q.feature
feature_of_start F q n e = go (row F q.feature) refl e
  where
    go : (o : Option Row) → row F q.feature ≡ o → option_and_then (λ r. port_node r q.number) o ≡ Some n → n.port.feature ≡ q.feature
    go None found e = absurd (none_some e)
    go (Some r) found e = id_of_node r q.number n e ∙ eqb-true r.id q.feature (from_find (λ r. r.id == q.feature) F.rows r found).1

-- a trace for isolation starts at the ports that the request gives
as_given : (S : Setup) (F : Features) (ask : TraceAsk) → is_isolation ask.kind ≡ true → start_ports S F ask ≡ given_starts ask
as_given S F ask e = go ask.kind e
  where
    other : false ≡ true → ⊥
    other e = cc

    go : (k : TraceKind) → is_isolation k ≡ true → start_ports S F (record ask { kind = k }) ≡ given_starts (record ask { kind = k })
    go kind.Isolation e = refl
    go _ e = absurd (other e)

pub are_clear : (S : Setup) (F : Features) (ask : TraceAsk) → valve_refusal S F ask ≡ None → IsTrue (is_isolation ask.kind)
    → (n : Node) → Contains (start_nodes S F ask) n → isolates S.schema F (condition_of S.schema ask.isolators) n.port ≡ false
are_clear S F ask none isolation n h =
    let isolators = condition_of S.schema ask.isolators in
    let q = among_from-filter_map (start_node F) (start_ports S F ask) n (among_from_contains (start_nodes S F ask) n h) in
    let given : Among (given_starts ask) q.0 = subst (λ ports. Among ports q.0) (as_given S F ask isolation) q.1 in
    let clear : isolates S.schema F isolators q.0 ≡ false =
    not_due (isolates S.schema F isolators q.0) (refusal.StartIsValve q.0.feature q.0.number) (none_due (on_valve S.schema F isolators) (given_starts ask) none q.0 given) in
    ap (λ id. isolates S.schema F isolators (record { feature = id; number = n.port.number })) (feature_of_start F q.0 n q.2) ∙ clear
