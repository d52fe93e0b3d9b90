-- What is read of the entries of the result nodes is what the definitions of a result say.
pub use Rattle.un_walk.proofs.Entered.{head_of, tail_of, AreEntries, each_entry}
use Rattle.std.proofs.Common.{◌≡◌, ℕ, ℤ, pos, ◌==◌, not, true, false, cond, List, [], ◌∷◌, ◌++◌, length, map, filter, filter_map, flat_map, slice_get, Option, Some, None, refl, sym, ap, ◌∙◌, inl, inr}
use Rattle.std.specs.Ordering.{nat_cmp}
use Rattle.std.specs.List.{cons_option}
use Rattle.std.specs.Option.{option_map_or}
use Rattle.std.specs.Prelude.{option_and_then}
use Rattle.std.proofs.lemmas.List.{length-map}
use Rattle.un_attrs.specs.Attributes.{attribute}
use Rattle.un_defs.specs.declared.port.Node.{Node}
use Rattle.un_defs.specs.declared.star.Spot.{Spot}
use Rattle.un_defs.specs.Orders.{rising}
use Rattle.un_defs.specs.Ground.{Ground}
use Rattle.un_defs.specs.Result.{entries, feature_ids, nodes_of_feature, attrs_of_feature, values, int_sum, least_value, greatest_value, result_containers, result_contents, result_structures}
use Rattle.un_defs.proofs.Members.{among_from-filter}
use Rattle.un_defs.proofs.ListLemmas.{filter-map}
use Rattle.un_ask.specs.declared.typed.Func.{Func}
use Rattle.un_ask.specs.declared.typed.Func.TheVariants.{Count, Sum, Least, Greatest}
use Rattle.un_walk.specs.declared.seen.Seen.{Seen}
use Rattle.un_trace.specs.declared.included.Inclusion.TheVariants.{Containers, Content, Structures}
use Rattle.un_trace.specs.Seen.{node_of, nodes_of, spots_of, of_feature, first_spot}
use Rattle.un_trace.specs.Included.{ids_of}
use Rattle.un_trace.specs.Functions.{values_of, total_of}
use Rattle.un_trace.specs.TraceReply.{total, parts, part_of}

pub entries_are : (G : Ground) (seen : List Seen) → AreEntries G seen → entries G (nodes_of seen) ≡ spots_of seen
entries_are G [] h = refl
entries_are G (s ∷ ss) h = λ i. cons_option (sym (h s (inl refl)) i) (entries_are G ss (λ t g. h t (inr g)) i)

module _ (G : Ground) (seen : List Seen) (each : AreEntries G seen) where
  -- ---- inclusions

  nonzero : (ss : List Spot) → flat_map (ids_of Containers) ss ≡ filter (λ id. not (id == 0)) (map (λ s. s.container) ss)
  nonzero [] = refl
  nonzero (s ∷ ss) =
      let rest = nonzero ss in
      elim (s.container == 0) as (λ b. cond b [] (s.container ∷ []) ++ flat_map (ids_of Containers) ss ≡ cond (not b) (s.container ∷ filter (λ id. not (id == 0)) (map (λ s. s.container) ss)) (filter (λ id. not (id == 0)) (map (λ s. s.container) ss))) [
        | true ↦ rest
        | false ↦ ap (λ l. s.container ∷ l) rest
      ]

  pub containers_are : rising nat_cmp (flat_map (ids_of Containers) (spots_of seen)) ≡ result_containers G (nodes_of seen)
  containers_are =
      ap (rising nat_cmp) (nonzero (spots_of seen))
      ∙ ap (λ ss. rising nat_cmp (filter (λ id. not (id == 0)) (map (λ s. s.container) ss))) (sym (entries_are G seen each))

  pub contents_are : rising nat_cmp (flat_map (ids_of Content) (spots_of seen)) ≡ result_contents G (nodes_of seen)
  contents_are = ap (λ ss. rising nat_cmp (flat_map (λ (s : Spot). s.contents) ss)) (sym (entries_are G seen each))

  pub structures_are : rising nat_cmp (flat_map (ids_of Structures) (spots_of seen)) ≡ result_structures G (nodes_of seen)
  structures_are = ap (λ ss. rising nat_cmp (flat_map (λ (s : Spot). s.structures) ss)) (sym (entries_are G seen each))

  -- ---- functions

  first_is : (id : ℕ) → first_spot seen id ≡ slice_get (entries G (nodes_of_feature (nodes_of seen) id)) 0
  first_is id =
      ap (λ ss. slice_get ss 0) (sym (entries_are G (of_feature seen id) (λ s g. each s (among_from-filter (λ (s : Seen). s.node.port.feature == id) seen s g).0)))
      ∙ ap (λ ns. slice_get (entries G ns) 0) (sym (filter-map node_of (λ (n : Node). n.port.feature == id) seen))

  abbrev firsts : List Spot
  firsts = filter_map (first_spot seen) (feature_ids (nodes_of seen))

  read_one : (g : Spot → Option ℤ) (o : Option Spot) (ss : List Spot) → filter_map g (cons_option o ss) ≡ cons_option (option_and_then g o) (filter_map g ss)
  read_one g None ss = refl
  read_one g (Some x) ss = refl

  read_twice : (f : ℕ → Option Spot) (g : Spot → Option ℤ) (h : ℕ → Option ℤ) → ((id : ℕ) → option_and_then g (f id) ≡ h id)
      → (ids : List ℕ) → filter_map g (filter_map f ids) ≡ filter_map h ids
  read_twice f g h e [] = refl
  read_twice f g h e (i ∷ is) = read_one g (f i) (filter_map f is) ∙ (λ j. cons_option (e i j) (read_twice f g h e is j))

  read_attribute : (a : ℕ) (o : Option Spot) → option_and_then (λ (s : Spot). attribute s.attrs a) o ≡ attribute (option_map_or (λ (s : Spot). s.attrs) o []) a
  read_attribute a None = refl
  read_attribute a (Some s) = refl

  values_are : (a : Option ℕ) → values_of firsts a ≡ values G (nodes_of seen) a
  values_are None = refl
  values_are (Some a) =
      read_twice (first_spot seen) (λ s. attribute s.attrs a) (λ id. attribute (attrs_of_feature G (nodes_of seen) id) a)
      (λ id. ap (option_and_then (λ (s : Spot). attribute s.attrs a)) (first_is id) ∙ read_attribute a (slice_get (entries G (nodes_of_feature (nodes_of seen) id)) 0))
      (feature_ids (nodes_of seen))

  total_is : (count : ℕ) → count ≡ length (feature_ids (nodes_of seen)) → (f : Func) → total_of firsts count f ≡ total G (nodes_of seen) f
  total_is count e Count = ap (λ n. Some (pos n)) e
  total_is count e (Sum a) = ap (λ vs. Some (int_sum vs)) (values_are a)
  total_is count e (Least a) = ap least_value (values_are a)
  total_is count e (Greatest a) = ap greatest_value (values_are a)

  pub totals_are : (count : ℕ) → count ≡ length (feature_ids (nodes_of seen)) → (fs : List Func) → map (total_of firsts count) fs ≡ map (total G (nodes_of seen)) fs
  totals_are count e [] = refl
  totals_are count e (f ∷ fs) = λ i. total_is count e f i ∷ totals_are count e fs i

-- there are as many parts as features
pub parts_count : (nodes : List Node) → length (parts nodes) ≡ length (feature_ids nodes)
parts_count nodes =
    length-map (map (λ (id : ℕ). (id, rising nat_cmp (map (λ n. n.port.number) (nodes_of_feature nodes id)))) (feature_ids nodes)) part_of
    ∙ length-map (feature_ids nodes) (λ (id : ℕ). (id, rising nat_cmp (map (λ n. n.port.number) (nodes_of_feature nodes id))))
