-- The parts of a page are read back as they are shown.
use Rattle.std.proofs.Common.{◌≡◌, ℕ, ◌<◌, ◌≤◌, ◌^◌, ◌==◌, ℤ, pos, negsuc, neg_ℤ, ◌≤ℤ◌, int_le, true, if◌then◌else◌, List, [], ◌∷◌, length, All, Option, None, Some, IfSome, option_and_then, refl, ap, ◌∙◌, arith}
use Rattle.std.specs.Prelude.{⊤}
use Rattle.std.specs.Option.{option_map}
use Rattle.std.proofs.lemmas.Bool.{le-leb, lt-ltb, and_from}
use Rattle.std.proofs.lemmas.Int.{ints}
use Rattle.std.proofs.lemmas.List.Elements.{All-head, All-tail}
use Rattle.serde_json.specs.Data.{Data, string}
use Rattle.serde_json.specs.Find.{as_bool}
use Rattle.un_geom.specs.declared.point.Point.{Point}
use Rattle.un_geom.specs.Places.{in_range, IsPlace}
use Rattle.un_geom.specs.Rectangle.{IsCoordinate}
use Rattle.un_defs.specs.declared.link.LinkName.{LinkName}
use Rattle.un_defs.specs.declared.link.LinkName.TheVariants.{Seg, Path, Coin, Assoc}
use Rattle.un_defs.specs.declared.link.Tie.{Tie}
use Rattle.un_defs.specs.declared.star.ErrorKind.{ErrorKind}
use Rattle.un_defs.specs.declared.star.ErrorKind.TheVariants as kind
use Rattle.un_defs.specs.declared.star.TopoError.{TopoError}
use Rattle.un_json.specs.Forms as forms
use Rattle.un_values.specs.Values.{count, counts, whole, list, items_of}
use Rattle.un_feed_json.specs.Shown as shown
use Rattle.un_feed_json.specs.Forms.{number_of, coordinate_of, port_at, field, link_name_of, point_of_link, tie_of, error_of, error_kind_of, port, point, node, tie, topo_error, ids_of}
use Rattle.un_feed_json.specs.Sound.{IsId, IsBase, IsPort, IsLinkName, IsLink, IsError}

-- ---- values that are there

pub then_some : {A B : Type 0} (f : A → Option B) (o : Option A) (x : A) (y : B) → o ≡ Some x → f x ≡ Some y → option_and_then f o ≡ Some y
then_some f o x y is next = ap (option_and_then f) is ∙ next

pub map_some : {A B : Type 0} (f : A → B) (o : Option A) (x : A) → o ≡ Some x → option_map f o ≡ Some (f x)
map_some f o x is = ap (option_map f) is

-- ---- numbers

pub count_back : (low high n : ℕ) → low ≤ n → n ≤ high → forms.count_from_to low high (count n) ≡ Some n
count_back low high n l h = ap (λ b. if b then Some n else None) (and_from _ _ (le-leb low n l) (le-leb n high h))

pub id_back : (n : ℕ) → IsId n → forms.id_of (count n) ≡ Some n
id_back n h = count_back 1 9007199254740991 n h.some h.few

pub base_back : (n : ℕ) → IsBase n → forms.base_of (count n) ≡ Some n
base_back n h = count_back 0 9007199254740991 n (omega arith) h

pub number_back : (n : ℕ) → n ≤ 63 → number_of (count n) ≡ Some n
number_back n h = count_back 0 63 n (omega arith) h

-- a whole number of 64 bits
abbrev pub IsShort : ℤ → Type 0
IsShort (pos n) = n < 2 ^ 63
IsShort (negsuc n) = ⊤

pub whole_back : (z : ℤ) → IsShort z → forms.whole (whole z) ≡ Some z
whole_back (pos n) h = ap (λ b. if b then Some (pos n) else None) (lt-ltb n (2 ^ 63) h)
whole_back (negsuc n) h = refl

-- ---- points

coordinate_short : (z : ℤ) → IsCoordinate z → IsShort z
coordinate_short (pos n) h = let high : pos n ≤ℤ pos 1_000_000_000 = h.not_above in omega (arith, ints)
coordinate_short (negsuc n) h = tt

pub in_range_true : (z : ℤ) → IsCoordinate z → in_range z ≡ true
in_range_true z h =
    let low : neg_ℤ (pos 1_000_000_000) ≤ℤ z = h.not_below in
    let high : z ≤ℤ pos 1_000_000_000 = h.not_above in
    let above : int_le (neg_ℤ (pos 1_000_000_000)) z ≡ true = grind (arith, ints) in
    let below : int_le z (pos 1_000_000_000) ≡ true = grind (arith, ints) in
    and_from _ _ above below

pub coordinate_back : (z : ℤ) → IsCoordinate z → coordinate_of (whole z) ≡ Some z
coordinate_back z h = ap (forms.kept in_range) (whole_back z (coordinate_short z h)) ∙ ap (λ b. if b then Some z else None) (in_range_true z h)

three_numbers : (a b c : Option ℤ) (x y z : ℤ) → a ≡ Some x → b ≡ Some y → c ≡ Some z
    → option_and_then (λ n. option_map (λ ns. n ∷ ns) (option_and_then (λ n. option_map (λ ns. n ∷ ns) (option_and_then (λ n. option_map (λ ns. n ∷ ns) (Some [])) c)) b)) a ≡ Some (x ∷ y ∷ z ∷ [])
three_numbers a b c x y z p q r = rw (p, q, r) refl

pub point_back : (p : Point) → IsPlace p → forms.point_of (shown.point p) ≡ Some p
point_back p h =
    ap (λ o. option_and_then forms.point_from (forms.kept (λ xs. length xs == 3) o))
    (three_numbers _ _ _ p.x p.y p.z (whole_back p.x (coordinate_short p.x h.x)) (whole_back p.y (coordinate_short p.y h.y)) (whole_back p.z (coordinate_short p.z h.z)))
    ∙ ap (λ b. if b then Some p else None)
    (and_from _ _ (in_range_true p.x h.x) (and_from _ _ (in_range_true p.y h.y) (and_from _ _ (in_range_true p.z h.z) refl)))

pub place_back : (o : Option Point) → IfSome o IsPlace → forms.or_null forms.point_of (shown.place o) ≡ Some o
place_back None h = refl
place_back (Some p) h = map_some Some _ p (point_back p h)

-- ---- links and errors

pub port_back : (i j : ℕ) (d : Data) (id n : ℕ) → IsPort id n → field i forms.id_of d ≡ forms.id_of (count id) → field j number_of d ≡ number_of (count n) → port_at i j d ≡ Some (port id n)
port_back i j d id n h first second =
    then_some (λ x. option_map (port x) (field j number_of d)) _ id (port id n) (first ∙ id_back id h.feature) (map_some (port id) _ n (second ∙ number_back n h.within))

link_name_back : (l : LinkName) → IsLinkName l → link_name_of (shown.link_name l) ≡ Some l
link_name_back (Seg line index) h = map_some (λ q. Seg q.feature q.number) _ (port line index) (port_back 1 2 (shown.link_name (Seg line index)) line index h refl refl)
link_name_back (Path device low high) h =
    then_some _ _ (port device low) _ (port_back 1 2 (shown.link_name (Path device low high)) device low h.0 refl refl) (map_some (Path device low) _ high (number_back high h.1))
link_name_back (Coin junction terminal line vertex) h =
    then_some _ _ (port junction terminal) _ (port_back 1 2 (shown.link_name (Coin junction terminal line vertex)) junction terminal h.0 refl refl)
    (map_some (λ v. Coin junction terminal v.feature v.number) _ (port line vertex) (port_back 3 4 (shown.link_name (Coin junction terminal line vertex)) line vertex h.1 refl refl))
link_name_back (Assoc id) h = map_some Assoc _ id (id_back id h)

pub tie_back : (t : Tie) → IsLink t → tie_of (shown.link t) ≡ Some t
tie_back t h =
    then_some _ _ t.name _ (link_name_back t.name h.name)
    (then_some _ _ t.to _
    (then_some (λ q. option_map (node q) (point_of_link (shown.link t))) _ t.to.port t.to (port_back 1 2 (shown.link t) t.to.port.feature t.to.port.number h.port refl refl)
    (map_some (node t.to.port) _ t.to.at
    (then_some _ _ t.to.at.x t.to.at (coordinate_back t.to.at.x h.at.x) (then_some _ _ t.to.at.y t.to.at (coordinate_back t.to.at.y h.at.y) (map_some (point t.to.at.x t.to.at.y) _ t.to.at.z (coordinate_back t.to.at.z h.at.z))))))
    (then_some (λ out. option_map (tie t.name t.to out) (field 7 as_bool (shown.link t))) (field 6 as_bool (shown.link t)) t.out t refl
    (map_some (tie t.name t.to t.out) (field 7 as_bool (shown.link t)) t.back refl)))

error_kind_back : (e : ErrorKind) → error_kind_of (string (shown.error_text e)) ≡ Some e
error_kind_back kind.Stacked = refl
error_kind_back kind.MissingJunction = refl
error_kind_back kind.NoRule = refl
error_kind_back kind.BadTerminal = refl
error_kind_back kind.MidspanTerminal = refl
error_kind_back kind.AssociationRule = refl

pub error_back : (e : TopoError) → IsError e → error_of (shown.error e) ≡ Some e
error_back e h =
    then_some _ _ e.kind _ (error_kind_back e.kind)
    (then_some _ _ (port e.feature e.number) _ (port_back 1 2 (shown.error e) e.feature e.number h.port refl refl)
    (map_some (topo_error e.kind (port e.feature e.number)) _ e.assoc (base_back e.assoc h.assoc)))

-- ---- lists

pub each_back : {A : Type 0} (f : Data → Option A) (g : A → Data) (P : A → Type 0) → ((x : A) → P x → f (g x) ≡ Some x) → (xs : List A) → All P xs → forms.each_item f (items_of g xs) ≡ Some xs
each_back f g P one [] h = refl
each_back f g P one (x ∷ xs) h =
    then_some (λ y. option_map (λ ys. y ∷ ys) (forms.each_item f (items_of g xs))) _ x (x ∷ xs) (one x (All-head P x xs h))
    (map_some (λ ys. x ∷ ys) _ xs (each_back f g P one xs (All-tail P x xs h)))

pub list_back : {A : Type 0} (f : Data → Option A) (g : A → Data) (P : A → Type 0) → ((x : A) → P x → f (g x) ≡ Some x) → (xs : List A) → All P xs → forms.list_of f (list g xs) ≡ Some xs
list_back f g P one xs h = each_back f g P one xs h

pub ids_back : (ids : List ℕ) → All IsId ids → ids_of (counts ids) ≡ Some ids
ids_back ids h = list_back forms.id_of count IsId id_back ids h
