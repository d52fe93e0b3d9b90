-- The test of two stars tells whether they are one.
use Rattle.std.proofs.Common.{◌≡◌, ◌==◌, ℕ, ℤ, Bool, true, false, ◌&&◌, refl, sym, ap, subst, Option, Some, None, true≢false, eqb-true, eq-eqb}
use Rattle.std.specs.Bool.{Decides}
use Rattle.std.specs.Ordering.{int_eq}
use Rattle.std.specs.Cmp.Lexicographic.{pointwise, pointwise_decides}
use Rattle.un_geom.specs.Places.{same_point}
use Rattle.un_schema.specs.declared.kind.Class.{Class}
use Rattle.un_schema.specs.declared.kind.Class.TheVariants.{Device, Junction, Line, Assembly, Structure}
use Rattle.un_schema.specs.Classes.{same_class}
use Rattle.un_conds.specs.Names.{same_text}
use Rattle.un_defs.specs.declared.assoc.Controller.{Controller}
use Rattle.un_defs.specs.declared.link.LinkName.{LinkName}
use Rattle.un_defs.specs.declared.link.LinkName.TheVariants.{Seg, Path, Coin, Assoc}
use Rattle.un_defs.specs.declared.link.Tie.{Tie}
use Rattle.un_defs.specs.declared.star.ErrorKind.{ErrorKind}
use Rattle.un_defs.specs.declared.star.ErrorKind.TheVariants.{Stacked, MissingJunction, NoRule, BadTerminal, MidspanTerminal, AssociationRule}
use Rattle.un_defs.specs.declared.star.TopoError.{TopoError}
use Rattle.un_defs.specs.declared.star.Spot.{Spot}
use Rattle.un_defs.specs.declared.star.Star.{Star}
use Rattle.un_defs.specs.Orders.{same_port, same_node, error_rank}
use Rattle.un_defs.proofs.LinkCases.{both_true, true_both}
use Rattle.un_defs.proofs.Unique.{int_same, int_itself, port_same, port_itself, point_same, point_itself, node_same, node_itself}
use Rattle.un_defs.specs.SameStar.{same_flag, same_name, same_tie, same_value, same_controller, same_controllers, same_head, same_rest, same_spot, same_error, same_star}
use Rattle.un_defs.specs.Laws.{SameStarLaw}

-- a test of two values that tells whether they are one
abbrev pub DecidesSame : {A : Type 0} → (A → A → Bool) → Type 0
DecidesSame {A} same = (a b : A) → Decides (same a b) (a ≡ b)

-- it is enough that it says so of two that are one, and that it holds of each thing and itself
decides : {A : Type 0} (same : A → A → Bool) → ((a b : A) → same a b ≡ true → a ≡ b) → ((a : A) → same a a ≡ true) → DecidesSame same
decides same says itself a b = (says a b, λ e. subst (λ c. same a c ≡ true) e (itself a))

untrue : {A : Type 0} → false ≡ true → A
untrue e = absurd (true≢false (sym e))

-- ---- parts

pub numbers : DecidesSame ◌==◌
numbers = decides ◌==◌ eqb-true (λ a. eq-eqb a a refl)

pub texts : DecidesSame same_text
texts = pointwise_decides numbers

pub points : DecidesSame same_point
points = decides same_point point_same point_itself

flag_says : (a b : Bool) → same_flag a b ≡ true → a ≡ b
flag_says true true e = refl
flag_says true false e = untrue e
flag_says false true e = untrue e
flag_says false false e = refl

flag_itself : (a : Bool) → same_flag a a ≡ true
flag_itself true = refl
flag_itself false = refl

value_says : (a b : ℕ × ℤ) → same_value a b ≡ true → a ≡ b
value_says a b e =
    let parts = both_true (a.0 == b.0) (int_eq a.1 b.1) e in
    let firsts = eqb-true a.0 b.0 parts.0 in
    let seconds = int_same a.1 b.1 parts.1 in
    λ i. (firsts i, seconds i)

values : DecidesSame same_value
values = decides same_value value_says (λ a. true_both (a.0 == a.0) (int_eq a.1 a.1) (eq-eqb a.0 a.0 refl) (int_itself a.1))

-- ---- names and links

name_says : (x y : LinkName) → same_name x y ≡ true → x ≡ y
name_says (Seg line index) (Seg line2 index2) e =
    let parts = both_true (line == line2) (index == index2) e in
    let lines = eqb-true line line2 parts.0 in
    let indices = eqb-true index index2 parts.1 in
    λ i. Seg (lines i) (indices i)
name_says (Path device low high) (Path device2 low2 high2) e =
    let parts = both_true ((device == device2) && (low == low2)) (high == high2) e in
    let firsts = both_true (device == device2) (low == low2) parts.0 in
    let devices = eqb-true device device2 firsts.0 in
    let lows = eqb-true low low2 firsts.1 in
    let highs = eqb-true high high2 parts.1 in
    λ i. Path (devices i) (lows i) (highs i)
name_says (Coin junction terminal line vertex) (Coin junction2 terminal2 line2 vertex2) e =
    let a = both_true ((junction == junction2) && (terminal == terminal2) && (line == line2)) (vertex == vertex2) e in
    let b = both_true ((junction == junction2) && (terminal == terminal2)) (line == line2) a.0 in
    let c = both_true (junction == junction2) (terminal == terminal2) b.0 in
    let junctions = eqb-true junction junction2 c.0 in
    let terminals = eqb-true terminal terminal2 c.1 in
    let lines = eqb-true line line2 b.1 in
    let vertices = eqb-true vertex vertex2 a.1 in
    λ i. Coin (junctions i) (terminals i) (lines i) (vertices i)
name_says (Assoc id) (Assoc id2) e = ap Assoc (eqb-true id id2 e)
name_says (Seg line index) _ e = untrue e
name_says (Path device low high) _ e = untrue e
name_says (Coin junction terminal line vertex) _ e = untrue e
name_says (Assoc id) _ e = untrue e

number_itself : (n : ℕ) → (n == n) ≡ true
number_itself n = eq-eqb n n refl

name_itself : (x : LinkName) → same_name x x ≡ true
name_itself (Seg line index) = true_both (line == line) (index == index) (number_itself line) (number_itself index)
name_itself (Path device low high) =
    true_both ((device == device) && (low == low)) (high == high) (true_both (device == device) (low == low) (number_itself device) (number_itself low)) (number_itself high)
name_itself (Coin junction terminal line vertex) =
    true_both ((junction == junction) && (terminal == terminal) && (line == line)) (vertex == vertex)
    (true_both ((junction == junction) && (terminal == terminal)) (line == line)
    (true_both (junction == junction) (terminal == terminal) (number_itself junction) (number_itself terminal)) (number_itself line)) (number_itself vertex)
name_itself (Assoc id) = number_itself id

tie_says : (s t : Tie) → same_tie s t ≡ true → s ≡ t
tie_says s t e =
    let a = both_true (same_name s.name t.name && same_node s.to t.to && same_flag s.out t.out) (same_flag s.back t.back) e in
    let b = both_true (same_name s.name t.name && same_node s.to t.to) (same_flag s.out t.out) a.0 in
    let c = both_true (same_name s.name t.name) (same_node s.to t.to) b.0 in
    let names = name_says s.name t.name c.0 in
    let nodes = node_same s.to t.to c.1 in
    let outs = flag_says s.out t.out b.1 in
    let backs = flag_says s.back t.back a.1 in
    λ i. record { name = names i; to = nodes i; out = outs i; back = backs i }

tie_itself : (t : Tie) → same_tie t t ≡ true
tie_itself t =
    true_both (same_name t.name t.name && same_node t.to t.to && same_flag t.out t.out) (same_flag t.back t.back)
    (true_both (same_name t.name t.name && same_node t.to t.to) (same_flag t.out t.out)
    (true_both (same_name t.name t.name) (same_node t.to t.to) (name_itself t.name) (node_itself t.to)) (flag_itself t.out)) (flag_itself t.back)

ties : DecidesSame same_tie
ties = decides same_tie tie_says tie_itself

-- ---- controllers

controller_says : (c d : Controller) → same_controller c d ≡ true → c ≡ d
controller_says c d e =
    let a = both_true (same_port c.port d.port && (c.tier == d.tier)) (same_text c.subnet d.subnet) e in
    let b = both_true (same_port c.port d.port) (c.tier == d.tier) a.0 in
    let ports = port_same c.port d.port b.0 in
    let tiers = eqb-true c.tier d.tier b.1 in
    let subnets = (texts c.subnet d.subnet).0 a.1 in
    λ i. record { port = ports i; tier = tiers i; subnet = subnets i }

controller_itself : (c : Controller) → same_controller c c ≡ true
controller_itself c =
    true_both (same_port c.port c.port && (c.tier == c.tier)) (same_text c.subnet c.subnet)
    (true_both (same_port c.port c.port) (c.tier == c.tier) (port_itself c.port) (number_itself c.tier)) ((texts c.subnet c.subnet).1 refl)

optional_says : (c d : Option Controller) → same_controllers c d ≡ true → c ≡ d
optional_says None None e = refl
optional_says None (Some d) e = untrue e
optional_says (Some c) None e = untrue e
optional_says (Some c) (Some d) e = ap Some (controller_says c d e)

optional_itself : (c : Option Controller) → same_controllers c c ≡ true
optional_itself None = refl
optional_itself (Some c) = controller_itself c

-- ---- entries

class_says : (a b : Class) → same_class a b ≡ true → a ≡ b
class_says Device Device e = refl
class_says Junction Junction e = refl
class_says Line Line e = refl
class_says Assembly Assembly e = refl
class_says Structure Structure e = refl
class_says Device _ e = untrue e
class_says Junction _ e = untrue e
class_says Line _ e = untrue e
class_says Assembly _ e = untrue e
class_says Structure _ e = untrue e

class_itself : (a : Class) → same_class a a ≡ true
class_itself Device = refl
class_itself Junction = refl
class_itself Line = refl
class_itself Assembly = refl
class_itself Structure = refl

module _ (s t : Spot) where
  abbrev ports : Bool
  ports = same_port s.port t.port

  abbrev kinds : Bool
  kinds = s.kind == t.kind

  abbrev classes : Bool
  classes = same_class s.class t.class

  abbrev bits : Bool
  bits = s.cats.0 == t.cats.0

  abbrev attributes : Bool
  attributes = pointwise same_value s.attrs t.attrs

  abbrev links : Bool
  links = pointwise same_tie s.ties t.ties

  abbrev controls : Bool
  controls = same_controllers s.controller t.controller

  abbrev containers : Bool
  containers = s.container == t.container

  abbrev contents : Bool
  contents = pointwise ◌==◌ s.contents t.contents

  abbrev structures : Bool
  structures = pointwise ◌==◌ s.structures t.structures

  spot_says : same_spot s t ≡ true → s ≡ t
  spot_says e =
      let parts = both_true (same_head s t) (same_rest s t) e in
      let a = both_true (ports && kinds && classes && bits) attributes parts.0 in
      let b = both_true (ports && kinds && classes) bits a.0 in
      let c = both_true (ports && kinds) classes b.0 in
      let d = both_true ports kinds c.0 in
      let f = both_true (links && controls && containers && contents) structures parts.1 in
      let g = both_true (links && controls && containers) contents f.0 in
      let h = both_true (links && controls) containers g.0 in
      let k = both_true links controls h.0 in
      let same_ports = port_same s.port t.port d.0 in
      let same_kinds = eqb-true s.kind t.kind d.1 in
      let same_classes = class_says s.class t.class c.1 in
      let same_bits = eqb-true s.cats.0 t.cats.0 b.1 in
      let same_attributes = (pointwise_decides values s.attrs t.attrs).0 a.1 in
      let same_links = (pointwise_decides ties s.ties t.ties).0 k.0 in
      let same_controls = optional_says s.controller t.controller k.1 in
      let same_containers = eqb-true s.container t.container h.1 in
      let same_contents = (pointwise_decides numbers s.contents t.contents).0 g.1 in
      let same_structures = (pointwise_decides numbers s.structures t.structures).0 f.1 in
      λ i. record {
        port = same_ports i;
        kind = same_kinds i;
        class = same_classes i;
        cats = record { 0 = same_bits i };
        attrs = same_attributes i;
        ties = same_links i;
        controller = same_controls i;
        container = same_containers i;
        contents = same_contents i;
        structures = same_structures i;
      }

spot_itself : (s : Spot) → same_spot s s ≡ true
spot_itself s =
    true_both (same_head s s) (same_rest s s)
    (true_both (ports s s && kinds s s && classes s s && bits s s) (attributes s s)
    (true_both (ports s s && kinds s s && classes s s) (bits s s)
    (true_both (ports s s && kinds s s) (classes s s) (true_both (ports s s) (kinds s s) (port_itself s.port) (number_itself s.kind)) (class_itself s.class))
    (number_itself s.cats.0)) ((pointwise_decides values s.attrs s.attrs).1 refl))
    (true_both (links s s && controls s s && containers s s && contents s s) (structures s s)
    (true_both (links s s && controls s s && containers s s) (contents s s)
    (true_both (links s s && controls s s) (containers s s)
    (true_both (links s s) (controls s s) ((pointwise_decides ties s.ties s.ties).1 refl) (optional_itself s.controller)) (number_itself s.container))
    ((pointwise_decides numbers s.contents s.contents).1 refl)) ((pointwise_decides numbers s.structures s.structures).1 refl))

spots : DecidesSame same_spot
spots = decides same_spot spot_says spot_itself

-- ---- errors

rank_says : (a b : ErrorKind) → (error_rank a == error_rank b) ≡ true → a ≡ b
rank_says Stacked Stacked e = refl
rank_says MissingJunction MissingJunction e = refl
rank_says NoRule NoRule e = refl
rank_says BadTerminal BadTerminal e = refl
rank_says MidspanTerminal MidspanTerminal e = refl
rank_says AssociationRule AssociationRule e = refl
rank_says Stacked _ e = untrue e
rank_says MissingJunction _ e = untrue e
rank_says NoRule _ e = untrue e
rank_says BadTerminal _ e = untrue e
rank_says MidspanTerminal _ e = untrue e
rank_says AssociationRule _ e = untrue e

error_says : (d e : TopoError) → same_error d e ≡ true → d ≡ e
error_says d e h =
    let a = both_true ((error_rank d.kind == error_rank e.kind) && (d.feature == e.feature) && (d.number == e.number)) (d.assoc == e.assoc) h in
    let b = both_true ((error_rank d.kind == error_rank e.kind) && (d.feature == e.feature)) (d.number == e.number) a.0 in
    let c = both_true (error_rank d.kind == error_rank e.kind) (d.feature == e.feature) b.0 in
    let kinds = rank_says d.kind e.kind c.0 in
    let features = eqb-true d.feature e.feature c.1 in
    let numbers = eqb-true d.number e.number b.1 in
    let assocs = eqb-true d.assoc e.assoc a.1 in
    λ i. record { kind = kinds i; feature = features i; number = numbers i; assoc = assocs i }

error_itself : (e : TopoError) → same_error e e ≡ true
error_itself e =
    true_both ((error_rank e.kind == error_rank e.kind) && (e.feature == e.feature) && (e.number == e.number)) (e.assoc == e.assoc)
    (true_both ((error_rank e.kind == error_rank e.kind) && (e.feature == e.feature)) (e.number == e.number)
    (true_both (error_rank e.kind == error_rank e.kind) (e.feature == e.feature) (number_itself (error_rank e.kind)) (number_itself e.feature)) (number_itself e.number))
    (number_itself e.assoc)

errors : DecidesSame same_error
errors = decides same_error error_says error_itself

-- ---- stars

star_says : (a b : Star) → same_star a b ≡ true → a ≡ b
star_says a b e =
    let parts = both_true (pointwise same_spot a.spots b.spots) (pointwise same_error a.errors b.errors) e in
    let same_spots = (pointwise_decides spots a.spots b.spots).0 parts.0 in
    let same_errors = (pointwise_decides errors a.errors b.errors).0 parts.1 in
    λ i. record { spots = same_spots i; errors = same_errors i }

star_itself : (a : Star) → same_star a a ≡ true
star_itself a =
    true_both (pointwise same_spot a.spots a.spots) (pointwise same_error a.errors a.errors) ((pointwise_decides spots a.spots a.spots).1 refl)
    ((pointwise_decides errors a.errors a.errors).1 refl)

pub stars : SameStarLaw
stars = decides same_star star_says star_itself
