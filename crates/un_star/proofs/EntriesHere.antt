-- The entries at a point, from the rows of the ports there and their associations, are those of the star.
use Rattle.std.proofs.Common.{◌≡◌, ℕ, Bool, true, false, cond, ◌&&◌, ◌||◌, ◌==◌, List, [], ◌∷◌, map, filter, refl, sym, ap, ◌∙◌, subst, Some, slice_get, nat_cmp, Ordering, Less, eqb-true, eq-eqb}
use Rattle.std.specs.FinMap.{nat_cmp-IsAntisymmetric}
use Rattle.std.specs.Cmp.{IsTotalOrder, on_total, nat_cmp_total}
use Rattle.std.specs.List.{AllByRecursion}
use Rattle.std.specs.List.Sorted.{IsStrictlySortedBy}
use Rattle.std.specs.Option.{option_map, option_map_or}
use Rattle.un_geom.specs.declared.point.Point.{Point}
use Rattle.un_schema.specs.Catalog.{Catalog}
use Rattle.un_defs.specs.declared.assoc.Assoc.{Assoc}
use Rattle.un_defs.specs.declared.assoc.AssocKind.{AssocKind}
use Rattle.un_defs.specs.declared.port.Port.{Port}
use Rattle.un_defs.specs.Orders.{rising}
use Rattle.un_defs.specs.Features.{Features, row, is_end_of, by_id, associations_of}
use Rattle.un_defs.specs.Ports.{ports}
use Rattle.un_defs.specs.Permit.{permitted}
use Rattle.un_defs.specs.Sound.{IsSound}
use Rattle.un_defs.specs.Star.{permitted_of, container, contents, structures, is_containment, is_attachment, spot_of, spots}
use Rattle.un_defs.proofs.Rising.{Among, TiesAreOne, among_from-rising, among-rising, rising_same, rising_unique, sorted-rising}
use Rattle.un_defs.proofs.Members.{among_from-filter, among-filter, among_from-map, among-map}
use Rattle.un_defs.proofs.Unique.{unique_by}
use Rattle.un_defs.proofs.ListLemmas.{find-first, filter_map-agree}
use Rattle.un_star.specs.Entries.{permitted_at, container_here, contents_here, structures_here, spot_here, spots_here}
use Rattle.un_star.proofs.Apart.{filter_map-flat}
use Rattle.un_star.proofs.Standers.{from_port}
use Rattle.un_star.proofs.LinksHere.{links_here}

-- ---- sorted lists

module _ {A : Type 0} (cmp : A → A → Ordering) where
  all_filter : (P : A → Type 0) (p : A → Bool) (xs : List A) → AllByRecursion P xs → AllByRecursion P (filter p xs)
  all_filter P p [] h = tt
  all_filter P p (x ∷ xs) h = elim (p x) as (λ b. AllByRecursion P (cond b (x ∷ filter p xs) (filter p xs))) [ true ↦ (h.0, all_filter P p xs h.1) | false ↦ all_filter P p xs h.1 ]

  sorted-filter : (p : A → Bool) (xs : List A) → IsStrictlySortedBy cmp xs → IsStrictlySortedBy cmp (filter p xs)
  unfolding IsStrictlySortedBy
  sorted-filter p [] h = tt
  sorted-filter p (x ∷ xs) h = elim (p x) as (λ b. IsStrictlySortedBy cmp (cond b (x ∷ filter p xs) (filter p xs))) [
    | true ↦ (all_filter (λ z. cmp x z ≡ Less) p xs h.0, sorted-filter p xs h.1)
    | false ↦ sorted-filter p xs h.1
  ]

by_id_total : IsTotalOrder by_id
by_id_total = on_total (λ (a : Assoc). a.id) nat_cmp_total

module _ (S : Catalog) (F : Features) (sound : IsSound S F) where
  ties_one : TiesAreOne by_id F.associations
  ties_one a b h g e = unique_by (λ a. a.id) F.associations sound.associations a b h g (nat_cmp-IsAntisymmetric a.id b.id e)

  module _ (is_sort : AssocKind → Bool) (key : Assoc → ℕ) (id : ℕ) (is_key : (a : Assoc) → key a ≡ id → is_end_of id a ≡ true) where
    -- the permitted associations of the sort that name the row so, in order of id
    here : List Assoc
    here = filter (λ a. key a == id) (permitted_at F is_sort id)

    all : List Assoc
    all = filter (λ a. key a == id) (permitted_of F is_sort)

    from_all : (a : Assoc) → Among all a → Among F.associations a × ((is_sort a.sort && permitted F a) ≡ true) × (key a ≡ id)
    unfolding all
    from_all a h =
        let outer = among_from-filter (λ a. key a == id) (permitted_of F is_sort) a h in
        let inner = among_from-filter (λ a. is_sort a.sort && permitted F a) F.associations a outer.0 in
        (inner.0, inner.1, eqb-true (key a) id outer.1)

    here_to : (a : Assoc) → Among here a → Among all a
    unfolding here all
    here_to a h =
        let outer = among_from-filter (λ a. key a == id) (permitted_at F is_sort id) a h in
        let inner = among_from-filter (λ a. is_sort a.sort && permitted F a) (associations_of F id) a outer.0 in
        let lives = (among_from-filter (is_end_of id) F.associations a (among_from-rising by_id (filter (is_end_of id) F.associations) a inner.0)).0 in
        among-filter (λ a. key a == id) (permitted_of F is_sort) a (among-filter (λ a. is_sort a.sort && permitted F a) F.associations a lives inner.1) outer.1

    here_from : (a : Assoc) → Among all a → Among here a
    unfolding here
    here_from a h =
        let parts = from_all a h in
        among-filter (λ a. key a == id) (permitted_at F is_sort id) a
        (among-filter (λ a. is_sort a.sort && permitted F a) (associations_of F id) a
        (among-rising by_id (filter (is_end_of id) F.associations)
        (λ x y p q. ties_one x y (among_from-filter (is_end_of id) F.associations x p).0 (among_from-filter (is_end_of id) F.associations y q).0)
        a (among-filter (is_end_of id) F.associations a parts.0 (is_key a parts.2))) parts.1)
        (eq-eqb (key a) id parts.2)

    pub here_is : filter (λ a. key a == id) (permitted_at F is_sort id) ≡ rising by_id (filter (λ a. key a == id) (permitted_of F is_sort))
    unfolding here all
    here_is = rising_unique by_id_total all here (λ a b h g. ties_one a b (from_all a h).0 (from_all b g).0)
        (sorted-filter by_id (λ a. key a == id) (permitted_at F is_sort id) (sorted-filter by_id (λ a. is_sort a.sort && permitted F a) (associations_of F id) (sorted-rising by_id_total (filter (is_end_of id) F.associations))))
        here_to here_from

    pub ids_here : (other : Assoc → ℕ) → rising nat_cmp (map other (filter (λ a. key a == id) (permitted_at F is_sort id))) ≡ rising nat_cmp (map other (filter (λ a. key a == id) (permitted_of F is_sort)))
    unfolding here all
    ids_here other = rising_same nat_cmp_total (map other here) (map other all) (λ x y _ _ e. nat_cmp-IsAntisymmetric x y e) (λ x y _ _ e. nat_cmp-IsAntisymmetric x y e)
        (λ x h. let a = among_from-map other here x h in subst (Among (map other all)) a.2 (among-map other all a.0 (here_to a.0 a.1)))
        (λ x h. let a = among_from-map other all x h in subst (Among (map other here)) a.2 (among-map other here a.0 (here_from a.0 a.1)))

  from_end : (id : ℕ) (a : Assoc) → a.from.feature ≡ id → is_end_of id a ≡ true
  from_end id a e = ap (λ b. b || (a.to.feature == id)) (eq-eqb a.from.feature id e)

  to_end : (id : ℕ) (a : Assoc) → a.to.feature ≡ id → is_end_of id a ≡ true
  to_end id a e = either (a.from.feature == id) (a.to.feature == id) (eq-eqb a.to.feature id e)
    where
      either : (b c : Bool) → c ≡ true → (b || c) ≡ true
      either true c e = refl
      either false c e = e

  pub container_is : (id : ℕ) → container_here F id ≡ container F id
  container_is id = ap (λ o. option_map_or (λ a. a.from.feature) o 0)
      (find-first (λ a. a.to.feature == id) (permitted_at F is_containment id) ∙ ap (λ l. slice_get l 0) (here_is is_containment (λ a. a.to.feature) id (to_end id)))

  pub contents_are : (id : ℕ) → contents_here F id ≡ contents F id
  contents_are id = ids_here is_containment (λ a. a.from.feature) id (from_end id) (λ a. a.to.feature)

  pub structures_are : (id : ℕ) → structures_here F id ≡ structures F id
  structures_are id = ids_here is_attachment (λ a. a.to.feature) id (to_end id) (λ a. a.from.feature)

  -- ---- entries

  pub spots_are : F.rules ≡ S.rules → (p : Point) → spots_here S F p ≡ spots S F p
  spots_are rules p = filter_map-flat (λ q. option_map (spot_here S F p q) (row F q.feature)) (ports F p)
      ∙ filter_map-agree (λ q. option_map (spot_here S F p q) (row F q.feature)) (λ q. option_map (spot_of S F p q) (row F q.feature)) (ports F p) each
    where
      each : (q : Port) → Among (ports F p) q → option_map (spot_here S F p q) (row F q.feature) ≡ option_map (spot_of S F p q) (row F q.feature)
      each q h =
          let port = from_port S F sound p q h in
          let ties = links_here S F sound rules (record { port = q; at = p }) port.row (record { lives = port.lives; found = port.found; number = port.number; is = port.node }) h in
          ap (option_map (spot_here S F p q)) port.found
          ∙ (λ i. Some (record (spot_of S F p q port.row) { ties = ties i; container = container_is (port.row).id i; contents = contents_are (port.row).id i; structures = structures_are (port.row).id i }))
          ∙ sym (ap (option_map (spot_of S F p q)) port.found)
