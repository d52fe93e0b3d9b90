-- What the paths, checks and diagrams have that requests ask for: their barriers, and nodes of the features.
use Rattle.std.proofs.Common.{◌≡◌, ℕ, List, [], ◌∷◌, map, Option, Some, None, ok_or, Result, Ok, Err, Contains, refl, ap, subst}
use Rattle.un_conds.specs.Conditions.{Condition}
use Rattle.un_schema.specs.Catalog.{Catalog}
use Rattle.un_schema.specs.declared.place.Place.TheVariants as place
use Rattle.un_defs.specs.declared.port.Port.{Port}
use Rattle.un_defs.specs.declared.port.Node.{Node}
use Rattle.un_defs.specs.declared.refusal.Refusal.{Refusal}
use Rattle.un_defs.specs.declared.refusal.Refusal.TheVariants as refusal
use Rattle.un_defs.specs.declared.walk.Barriers.{Barriers}
use Rattle.un_defs.specs.Features.{Features}
use Rattle.un_defs.specs.Ports.{nodes}
use Rattle.un_defs.specs.Refusing.{first_refusal}
use Rattle.un_defs.proofs.Members.{contains_from_among, among_from_contains, among_from-filter_map}
use Rattle.un_ask.specs.declared.path.NamedPath.{NamedPath}
use Rattle.un_ask.specs.declared.path.NamedCheck.{NamedCheck}
use Rattle.un_ask.specs.declared.diagram.NamedDiagram.{NamedDiagram}
use Rattle.un_ask.specs.declared.typed.PathAsk.{PathAsk}
use Rattle.un_ask.specs.declared.typed.CheckAsk.{CheckAsk}
use Rattle.un_ask.specs.declared.typed.DiagramAsk.{DiagramAsk}
use Rattle.un_resolve.specs.declared.paths.Ends.{Ends}
use Rattle.un_resolve.specs.Starts.{no_feature, no_start, start_node, nodes_of}
use Rattle.un_resolve.specs.Resolved.{bad_condition}
use Rattle.un_resolve.specs.Walks.{behind, and_then, node_at, barriers_with, ends_asked, path_from, path_asked, check_from, check_asked, condition_asked, diagram_asked}
use Rattle.un_resolve.proofs.StartsStand.{node_stands}

module _ {A : Type 0} where
  err_ok : {B : Type 0} (r : Refusal) (a : A) → Err r ≡ Ok a → B
  err_ok r a e = absurd (apart e)
    where
      apart : Err r ≡ Ok a → ⊥
      apart e = cc

  behind_ok : (d : Option Refusal) (next : Result A Refusal) (a : A) → behind d next ≡ Ok a → next ≡ Ok a
  behind_ok None next a e = e
  behind_ok (Some r) next a e = err_ok r a e

and_then_ok : {A B : Type 0} (f : A → Result B Refusal) (x : Result A Refusal) (b : B) → and_then f x ≡ Ok b → (a : A) × (x ≡ Ok a) × (f a ≡ Ok b)
and_then_ok f (Ok a) b e = (a, refl, e)
and_then_ok f (Err r) b e = err_ok r b e

module _ {A : Type 0} where
  abbrev asked : A → Result A Refusal
  asked a = Ok a

  same_ok : {a b : A} → asked a ≡ asked b → a ≡ b
  same_ok e = cc

found : (o : Option Node) (r : Refusal) (n : Node) → ok_or o r ≡ Ok n → o ≡ Some n
found None r n e = err_ok r n e
found (Some m) r n e = ap Some (same_ok e)

-- the node of a port is one of the features
node_asked : (F : Features) (q : Port) (n : Node) → node_at F q ≡ Ok n → Contains (nodes F) n
node_asked F q n e =
    contains_from_among (nodes F) n (node_stands F q n (found (start_node F q) (refusal.NoStart q.feature q.number) n e))

-- the ends of a path: where its walks stop, and its two nodes
pub record AreEnds (S : Catalog) (F : Features) (barriers : Option (Condition (List ℕ))) (stops : List Port) (from to : Node) (B : Barriers) : Type 0 where
  pub stop : B ≡ barriers_with S barriers stops
  pub from_stands : Contains (nodes F) from
  pub to_stands : Contains (nodes F) to

are_ends : (S : Catalog) (F : Features) (from to : Port) (barriers : Option (Condition (List ℕ))) (stops : List Port) (ends : Ends)
    → ends_asked S F from to barriers stops ≡ Ok ends → AreEnds S F barriers stops ends.from ends.to ends.barriers
are_ends S F from to barriers stops ends e =
    let made : Node → Node → Result Ends Refusal =
    λ a b. behind (bad_condition S barriers place.Barriers) (Ok (record { from = a; to = b; barriers = barriers_with S barriers stops })) in
    let behind_features = behind_ok (first_refusal (map (no_feature F) (from ∷ to ∷ []))) (and_then (λ a. and_then (made a) (node_at F to)) (node_at F from)) ends e in
    let first = and_then_ok (λ a. and_then (made a) (node_at F to)) (node_at F from) ends behind_features in
    let second = and_then_ok (made first.0) (node_at F to) ends first.2 in
    let is = same_ok (behind_ok (bad_condition S barriers place.Barriers) (Ok (record { from = first.0; to = second.0; barriers = barriers_with S barriers stops })) ends second.2) in
    let made_so : AreEnds S F barriers stops first.0 second.0 (barriers_with S barriers stops) = record {
      stop = refl;
      from_stands = node_asked F from first.0 first.1;
      to_stands = node_asked F to second.0 second.1;
    } in
    subst (λ (t : Ends). AreEnds S F barriers stops t.from t.to t.barriers) is made_so

pub path_ends : (S : Catalog) (F : Features) (ask : NamedPath) (typed : PathAsk) → path_asked S F ask ≡ Ok typed
    → AreEnds S F ask.barriers ask.stops typed.from typed.to typed.barriers
path_ends S F ask typed e =
    let ends = and_then_ok (λ ends. Ok (path_from S ask ends)) (ends_asked S F ask.from ask.to ask.barriers ask.stops) typed e in
    subst (λ (t : PathAsk). AreEnds S F ask.barriers ask.stops t.from t.to t.barriers) (same_ok ends.2)
    (are_ends S F ask.from ask.to ask.barriers ask.stops ends.0 ends.1)

pub check_ends : (S : Catalog) (F : Features) (ask : NamedCheck) (typed : CheckAsk) → check_asked S F ask ≡ Ok typed
    → AreEnds S F ask.barriers ask.stops typed.from typed.to typed.barriers
check_ends S F ask typed e =
    let ends = and_then_ok (λ ends. Ok (check_from S ask ends)) (ends_asked S F ask.from ask.to ask.barriers ask.stops) typed e in
    subst (λ (t : CheckAsk). AreEnds S F ask.barriers ask.stops t.from t.to t.barriers) (same_ok ends.2)
    (are_ends S F ask.from ask.to ask.barriers ask.stops ends.0 ends.1)

-- the starts of a diagram, and where its walks stop
pub record AreStarts (S : Catalog) (F : Features) (ask : NamedDiagram) (typed : DiagramAsk) : Type 0 where
  pub stop : typed.barriers ≡ barriers_with S ask.barriers ask.stops
  pub stand : (n : Node) → Contains typed.starts n → Contains (nodes F) n

starts_of_ports : (F : Features) (ports : List Port) (n : Node) → Contains (nodes_of F ports) n → Contains (nodes F) n
starts_of_ports F ports n h =
    let q = among_from-filter_map (start_node F) ports n (among_from_contains (nodes_of F ports) n h) in
    contains_from_among (nodes F) n (node_stands F q.0 n q.2)

pub diagram_starts : (S : Catalog) (F : Features) (ask : NamedDiagram) (typed : DiagramAsk) → diagram_asked S F ask ≡ Ok typed → AreStarts S F ask typed
diagram_starts S F ask typed e =
    let drawn : Condition ℕ → DiagramAsk = λ keep. record { starts = nodes_of F ask.starts; keep = keep; barriers = barriers_with S ask.barriers ask.stops } in
    let made : Condition ℕ → Result DiagramAsk Refusal = λ keep. behind (bad_condition S ask.barriers place.Barriers) (Ok (drawn keep)) in
    let next = and_then made (condition_asked S ask.keep place.Keep) in
    let behind_ports = behind_ok (first_refusal (map (no_start F) ask.starts)) next typed
    (behind_ok (first_refusal (map (no_feature F) ask.starts)) (behind (first_refusal (map (no_start F) ask.starts)) next) typed e) in
    let keep = and_then_ok made (condition_asked S ask.keep place.Keep) typed behind_ports in
    let is = same_ok (behind_ok (bad_condition S ask.barriers place.Barriers) (Ok (drawn keep.0)) typed keep.2) in
    let made_so : AreStarts S F ask (drawn keep.0) = record { stop = refl; stand = starts_of_ports F ask.starts } in
    subst (AreStarts S F ask) is made_so
