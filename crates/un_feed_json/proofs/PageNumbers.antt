-- The numbers of a sound page have at most 64 bits.
use Rattle.std.proofs.Common.{◌≡◌, ℕ, suc, ◌<◌, ◌≤◌, ◌^◌, ℤ, pos, negsuc, neg_ℤ, ◌≤ℤ◌, true, List, length, All, Option, Some, None, IfSome, arith}
use Rattle.std.proofs.lemmas.Bool.{le-leb, lt-ltb}
use Rattle.std.proofs.lemmas.Bool.Decides.{nat_tests}
use Rattle.std.proofs.lemmas.Int.{ints}
use Rattle.serde_json.specs.Data.{unsigned}
use Rattle.serde_json.specs.Find.{of_integer}
use Rattle.un_geom.specs.declared.point.Point.{Point}
use Rattle.un_geom.specs.Places.{IsPlace}
use Rattle.un_geom.specs.Rectangle.{IsCoordinate}
use Rattle.un_attrs.specs.Attributes.{in_range, IsAttributes}
use Rattle.un_schema.specs.Catalog.{Catalog}
use Rattle.un_tiers.specs.declared.tier.Tier.{Tier}
use Rattle.un_defs.specs.declared.assoc.Controller.{Controller}
use Rattle.un_defs.specs.declared.link.LinkName.{LinkName}
use Rattle.un_defs.specs.declared.link.LinkName.TheVariants.{Seg, Path, Coin, Assoc}
use Rattle.un_defs.specs.declared.link.Tie.{Tie}
use Rattle.un_defs.specs.declared.star.TopoError.{TopoError}
use Rattle.un_defs.specs.declared.star.Spot.{Spot}
use Rattle.un_feed.specs.Differences.{Difference, ChangesShown}
use Rattle.un_values.specs.Values.{count, counts}
use Rattle.un_values.specs.ReadBack.{Has64Bits, EachNumber}
use Rattle.un_values.proofs.Numbers.{of_list, of_attributes}
use Rattle.un_feed_json.specs.Names.{named}
use Rattle.un_feed_json.specs.Shown.{point, link_name, link, error, attributes, controller, entry, change, place, changes_value}
use Rattle.un_feed_json.specs.Sound.{IsSetup, IsId, IsLinkName, IsLink, IsError, IsEntry, IsChange, IsPage}
use Rattle.un_feed_json.proofs.AttrsBack.{to_all, in_range_named}

-- ---- numbers

count_short : (n : ℕ) → n ≤ 9007199254740991 → Has64Bits (unsigned n)
count_short n h = lt-ltb n (2 ^ 64) (omega arith)

coordinate_short : (z : ℤ) → IsCoordinate z → Has64Bits (of_integer z)
coordinate_short (pos n) h = let high : pos n ≤ℤ pos 1_000_000_000 = h.not_above in lt-ltb n (2 ^ 64) (omega (arith, ints))
coordinate_short (negsuc n) h = let low : neg_ℤ (pos 1_000_000_000) ≤ℤ negsuc n = h.not_below in le-leb (suc n) (2 ^ 63) (omega (arith, ints))

value_short : (z : ℤ) → in_range z ≡ true → Has64Bits (of_integer z)
value_short (pos n) h = let few : n < 2 ^ 64 = grind (arith, nat_tests, ints, h) in lt-ltb n (2 ^ 64) few
value_short (negsuc n) h = let few : suc n ≤ 2 ^ 63 = grind (arith, nat_tests, ints, h) in le-leb (suc n) (2 ^ 63) few

-- ---- parts of a star

of_ids : (ids : List ℕ) → All IsId ids → EachNumber Has64Bits (counts ids)
of_ids ids h = of_list Has64Bits IsId count (λ n id. count_short n id.few) ids h

of_point : (p : Point) → IsPlace p → EachNumber Has64Bits (point p)
of_point p h = (coordinate_short p.x h.x, (coordinate_short p.y h.y, (coordinate_short p.z h.z, tt)))

of_link_name : (name : LinkName) → IsLinkName name → EachNumber Has64Bits (link_name name)
of_link_name (Seg line index) h = (tt, (count_short line h.feature.few, (count_short index (omega (arith, h.within)), tt)))
of_link_name (Path device low high) h =
    (tt, (count_short device h.0.feature.few, (count_short low (omega (arith, h.0.within)), (count_short high (omega (arith, h.1)), tt))))
of_link_name (Coin junction terminal line vertex) h =
    (tt, (count_short junction h.0.feature.few, (count_short terminal (omega (arith, h.0.within)), (count_short line h.1.feature.few, (count_short vertex (omega (arith, h.1.within)), tt)))))
of_link_name (Assoc id) h = (tt, (count_short id h.few, tt))

of_link : (t : Tie) → IsLink t → EachNumber Has64Bits (link t)
of_link t h = (
  of_link_name t.name h.name,
  (
    count_short t.to.port.feature h.port.feature.few,
    (
      count_short t.to.port.number (omega (arith, h.port.within)),
      (coordinate_short t.to.at.x h.at.x, (coordinate_short t.to.at.y h.at.y, (coordinate_short t.to.at.z h.at.z, (tt, (tt, tt))))),
    ),
  ),
)

of_error : (e : TopoError) → IsError e → EachNumber Has64Bits (error e)
of_error e h = (tt, (count_short e.feature h.port.feature.few, (count_short e.number (omega (arith, h.port.within)), (count_short e.assoc h.assoc, tt))))

of_controller : (T : List Tier) (c : Option Controller) → EachNumber Has64Bits (controller T c)
of_controller T None = tt
of_controller T (Some c) = (tt, (tt, tt))

module _ (S : Catalog) (T : List Tier) (setup : IsSetup S T) where
  of_named : (attrs : List (ℕ × ℤ)) → IsAttributes attrs → All (λ pair. pair.0 < length S.attributes) attrs → EachNumber Has64Bits (attributes S attrs)
  of_named attrs rules have =
      of_attributes Has64Bits (named S attrs) (to_all (λ pair. Has64Bits (of_integer pair.1)) (named S attrs) (λ q i. value_short q.1 (in_range_named S setup.catalog attrs rules have q i)))

  of_entry : (s : Spot) → IsEntry S T s → EachNumber Has64Bits (entry S T s)
  of_entry s h = (
    count_short s.port.feature h.port.feature.few,
    (
      count_short s.port.number (omega (arith, h.port.within)),
      (
        tt,
        (
          of_named s.attrs h.attrs h.names.attributes,
          (of_list Has64Bits IsLink link of_link s.ties h.links, (of_controller T s.controller, (count_short s.container h.container, (of_ids s.contents h.contents, (of_ids s.structures h.structures, tt))))),
        ),
      ),
    ),
  )

  of_change : (d : Difference) → IsChange S T d → EachNumber Has64Bits (change S T d)
  of_change (p, None) h = (of_point p h.at, (tt, (tt, tt)))
  of_change (p, Some star) h =
      (of_point p h.at, (of_list Has64Bits (IsEntry S T) (entry S T) of_entry star.spots h.star.entries, (of_list Has64Bits IsError error of_error star.errors h.star.errors, tt)))

  of_place : (o : Option Point) → IfSome o IsPlace → EachNumber Has64Bits (place o)
  of_place None h = tt
  of_place (Some p) h = of_point p h

  pub page_short : (t : ChangesShown) → IsPage S T t → EachNumber Has64Bits (changes_value S T t)
  page_short t h = (
    of_place t.after h.after,
    (
      of_list Has64Bits (IsChange S T) (change S T) of_change t.page.pairs h.changes,
      (
        tt,
        (
          tt,
          (count_short t.since (omega (arith, h.forward, h.upto)), (count_short t.upto h.upto, (count_short t.version h.version, tt))),
        ),
      ),
    ),
  )
