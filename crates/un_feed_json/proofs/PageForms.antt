-- The values of pages have the form of values that are read back, and few levels.
use Rattle.std.proofs.Common.{ℕ, suc, List, [], ◌∷◌, map, codes, Option, Some, None, arith}
use Rattle.serde_json.specs.Data.{null, boolean, string}
use Rattle.un_geom.specs.declared.point.Point.{Point}
use Rattle.un_schema.specs.Catalog.{Catalog}
use Rattle.un_tiers.specs.declared.tier.Tier.{Tier}
use Rattle.un_defs.specs.declared.assoc.Controller.{Controller}
use Rattle.un_defs.specs.declared.link.LinkName.{LinkName}
use Rattle.un_defs.specs.declared.link.LinkName.TheVariants.{Seg, Path, Coin, Assoc}
use Rattle.un_defs.specs.declared.link.Tie.{Tie}
use Rattle.un_defs.specs.declared.star.TopoError.{TopoError}
use Rattle.un_defs.specs.declared.star.Spot.{Spot}
use Rattle.un_feed.specs.Differences.{Difference, ChangesShown}
use Rattle.un_values.specs.Values.{count, counts, whole, list, attribute}
use Rattle.un_values.specs.Formed.{IsFormedTo}
use Rattle.un_values.proofs.Formed.{of_count, of_whole, of_truth, of_text, of_tuple, of_list, of_counts, of_object, of_attributes}
use Rattle.un_feed_json.specs.Names.{named, kind_name, tier_name}
use Rattle.un_feed_json.specs.Shown.{point, link_name, link, error_text, error, attributes, controller, entry, change, place, changes_value}

-- ---- parts of a star

of_point : (n : ℕ) (p : Point) → IsFormedTo (suc n) (point p)
of_point n p = of_tuple n (whole p.x ∷ whole p.y ∷ whole p.z ∷ []) (of_whole n p.x, (of_whole n p.y, (of_whole n p.z, tt)))

of_link_name : (n : ℕ) (name : LinkName) → IsFormedTo (suc n) (link_name name)
of_link_name n (Seg line index) = of_tuple n (string (codes "seg") ∷ count line ∷ count index ∷ []) (of_text n _, (of_count n line, (of_count n index, tt)))
of_link_name n (Path device low high) =
    of_tuple n (string (codes "path") ∷ count device ∷ count low ∷ count high ∷ []) (of_text n _, (of_count n device, (of_count n low, (of_count n high, tt))))
of_link_name n (Coin junction terminal line vertex) =
    of_tuple n (string (codes "coin") ∷ count junction ∷ count terminal ∷ count line ∷ count vertex ∷ [])
    (of_text n _, (of_count n junction, (of_count n terminal, (of_count n line, (of_count n vertex, tt)))))
of_link_name n (Assoc id) = of_tuple n (string (codes "assoc") ∷ count id ∷ []) (of_text n _, (of_count n id, tt))

of_link : (t : Tie) → IsFormedTo 2 (link t)
of_link t =
    of_tuple 1
    (link_name t.name ∷ count t.to.port.feature ∷ count t.to.port.number ∷ whole t.to.at.x ∷ whole t.to.at.y ∷ whole t.to.at.z ∷ boolean t.out ∷ boolean t.back ∷ [])
    (of_link_name 0 t.name, (of_count 1 _, (of_count 1 _, (of_whole 1 t.to.at.x, (of_whole 1 t.to.at.y, (of_whole 1 t.to.at.z, (of_truth 1 t.out, (of_truth 1 t.back, tt))))))))

of_error : (e : TopoError) → IsFormedTo 4 (error e)
of_error e =
    of_tuple 3 (string (error_text e.kind) ∷ count e.feature ∷ count e.number ∷ count e.assoc ∷ []) (of_text 3 _, (of_count 3 e.feature, (of_count 3 e.number, (of_count 3 e.assoc, tt))))

of_controller : (T : List Tier) (c : Option Controller) → IsFormedTo 3 (controller T c)
of_controller T None = record { formed = tt; shallow = omega arith }
of_controller T (Some c) = of_tuple 2 (string (tier_name T c.tier) ∷ string c.subnet ∷ []) (of_text 2 _, (of_text 2 _, tt))

of_entry : (S : Catalog) (T : List Tier) (s : Spot) → IsFormedTo 4 (entry S T s)
of_entry S T s =
    of_tuple 3
    (count s.port.feature ∷ count s.port.number ∷ string (kind_name S s.kind) ∷ attributes S s.attrs ∷ list link s.ties ∷ controller T s.controller ∷ count s.container
    ∷ counts s.contents ∷ counts s.structures ∷ []) (
      of_count 3 _,
      (
        of_count 3 _,
        (
          of_text 3 _,
          (
            of_object 2 (map attribute (named S s.attrs)) (of_attributes 2 (named S s.attrs)),
            (
              of_list 2 link of_link s.ties,
              (of_controller T s.controller, (of_count 3 _, (of_counts 2 s.contents, (of_counts 2 s.structures, tt)))),
            ),
          ),
        ),
      ),
    )

-- ---- pages

of_change : (S : Catalog) (T : List Tier) (d : Difference) → IsFormedTo 6 (change S T d)
of_change S T (p, None) =
    of_tuple 5 (point p ∷ null ∷ null ∷ []) (of_point 4 p, (record { formed = tt; shallow = omega arith }, (record { formed = tt; shallow = omega arith }, tt)))
of_change S T (p, Some star) =
    of_tuple 5 (point p ∷ list (entry S T) star.spots ∷ list error star.errors ∷ [])
    (of_point 4 p, (of_list 4 (entry S T) (of_entry S T) star.spots, (of_list 4 error of_error star.errors, tt)))

of_place : (o : Option Point) → IsFormedTo 7 (place o)
of_place None = record { formed = tt; shallow = omega arith }
of_place (Some p) = of_point 6 p

pub of_page : (S : Catalog) (T : List Tier) (t : ChangesShown) → IsFormedTo 8 (changes_value S T t)
of_page S T t =
    of_object 7
    ((codes "after", place t.after) ∷ (codes "changes", list (change S T) t.page.pairs) ∷ (codes "more", boolean t.page.more)
    ∷ (codes "ok", string (codes "changes")) ∷ (codes "since", count t.since) ∷ (codes "upto", count t.upto) ∷ (codes "version", count t.version) ∷ [])
    (of_place t.after, (of_list 6 (change S T) (of_change S T) t.page.pairs, (of_truth 7 t.page.more, (of_text 7 _, (of_count 7 t.since, (of_count 7 t.upto, (of_count 7 t.version, tt)))))))
