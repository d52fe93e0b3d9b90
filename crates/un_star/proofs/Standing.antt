-- The ports at a point with their rows, and what is made of them.
use Rattle.std.proofs.Common.{◌≡◌, List, [], ◌∷◌, ◌++◌, map, filter_map, flat_map, option_to_list, inl, inr, refl, ap, sym, ◌∙◌, subst, Option, Some, None, option_and_then}
use Rattle.std.specs.List.{cons_option}
use Rattle.std.specs.Option.{option_map}
use Rattle.un_geom.specs.declared.point.Point.{Point}
use Rattle.un_schema.specs.Catalog.{Catalog}
use Rattle.un_defs.specs.declared.port.Port.{Port}
use Rattle.un_defs.specs.declared.row.Row.{Row}
use Rattle.un_defs.specs.Features.{Features, row}
use Rattle.un_defs.specs.Ports.{ports}
use Rattle.un_defs.proofs.Rising.{Among}
use Rattle.un_defs.proofs.Members.{among-map, among_from-flat_map}
use Rattle.un_defs.proofs.ListLemmas.{map-map}
use Rattle.un_star.specs.declared.meet.Standing.{Standing}
use Rattle.un_star.specs.Meet.{pair_of, pairs_of, stander, standers, joint_of_port, joints_here, joints_among, end_of_port, end_here, ends_here}
use Rattle.un_star.specs.Entries.{spot_here, spots_here}
use Rattle.un_star.proofs.Apart.{filter_map-flat}

filter_map-of-map : {A B C : Type 0} (f : A → B) (g : B → Option C) (xs : List A) → filter_map g (map f xs) ≡ filter_map (λ x. g (f x)) xs
filter_map-of-map f g [] = refl
filter_map-of-map f g (x ∷ xs) = ap (cons_option (g (f x))) (filter_map-of-map f g xs)

where_some : {A B : Type 0} (f : A → Option B) (o : Option A) → option_and_then (λ _. option_and_then f o) o ≡ option_and_then f o
where_some f None = refl
where_some f (Some x) = refl

module _ (F : Features) where
  -- what some of the ports with their rows give is what the ports give whose row is there
  some_through : {B : Type 0} (g : Port → Row → Option B) (qs : List Port)
      → filter_map (λ (x : Port × Row). g x.0 x.1) (flat_map (λ q. option_to_list (stander F q)) qs) ≡ filter_map (λ q. option_and_then (g q) (row F q.feature)) qs
  some_through g [] = refl
  some_through {B} g (q ∷ qs) = go (row F q.feature) (some_through g qs)
    where
      go : (o : Option Row) → filter_map (λ (x : Port × Row). g x.0 x.1) (flat_map (λ q. option_to_list (stander F q)) qs) ≡ filter_map (λ q. option_and_then (g q) (row F q.feature)) qs
          → filter_map (λ (x : Port × Row). g x.0 x.1) (option_to_list (option_map (λ (r : Row). (q, r)) o) ++ flat_map (λ q. option_to_list (stander F q)) qs)
          ≡ cons_option (option_and_then (g q) o) (filter_map (λ q. option_and_then (g q) (row F q.feature)) qs)
      go None h = h
      go (Some r) h = ap (cons_option (g q r)) h

  -- the same, where each of them gives something
  each_through : {B : Type 0} (h : Port → Row → B) (qs : List Port)
      → map (λ (x : Port × Row). h x.0 x.1) (flat_map (λ q. option_to_list (stander F q)) qs) ≡ flat_map (λ q. option_to_list (option_map (h q) (row F q.feature))) qs
  each_through h [] = refl
  each_through {B} h (q ∷ qs) = go (row F q.feature) (each_through h qs)
    where
      go : (o : Option Row) → map (λ (x : Port × Row). h x.0 x.1) (flat_map (λ q. option_to_list (stander F q)) qs) ≡ flat_map (λ q. option_to_list (option_map (h q) (row F q.feature))) qs
          → map (λ (x : Port × Row). h x.0 x.1) (option_to_list (option_map (λ (r : Row). (q, r)) o) ++ flat_map (λ q. option_to_list (stander F q)) qs)
          ≡ option_to_list (option_map (h q) o) ++ flat_map (λ q. option_to_list (option_map (h q) (row F q.feature))) qs
      go None e = e
      go (Some r) e = ap (λ l. h q r ∷ l) e

  module _ (p : Point) (ss : List Standing) (are : pairs_of ss ≡ standers F p) where
    -- each stands with its own row
    pub row_of_standing : (s : Standing) → Among ss s → row F s.port.feature ≡ Some s.row.now
    row_of_standing s h =
        let from = among_from-flat_map (λ q. option_to_list (stander F q)) (ports F p) (pair_of s) (subst (λ l. Among l (pair_of s)) are (among-map pair_of ss s h)) in
        go from.0 (row F (from.0).feature) refl from.2
      where
        go : (q : Port) (o : Option Row) → row F q.feature ≡ o → Among (option_to_list (option_map (λ (r : Row). (q, r)) o)) (pair_of s) → row F s.port.feature ≡ Some s.row.now
        go q None e h = absurd h
        go q (Some r) e h = elim h [
          | inl same ↦ ap (λ (x : Port × Row). row F (x.0).feature) (sym same) ∙ e ∙ ap (λ (x : Port × Row). Some x.1) same
          | inr none ↦ absurd none
        ]

    -- the devices and junctions among them are those at the point
    pub joints_are : joints_among ss ≡ joints_here F p
    joints_are = sym (filter_map-of-map pair_of (λ (x : Port × Row). joint_of_port x.0 x.1) ss)
        ∙ ap (filter_map (λ (x : Port × Row). joint_of_port x.0 x.1)) are
        ∙ some_through joint_of_port (ports F p)

    -- so are the vertices of lines
    pub ends_are : (S : Catalog) → flat_map (λ (s : Standing). option_to_list (end_here S F p s.port)) ss ≡ ends_here S F p
    ends_are S = filter_map-flat (λ (s : Standing). end_here S F p s.port) ss
        ∙ sym (filter_map-of-map pair_of (λ (x : Port × Row). end_here S F p x.0) ss)
        ∙ ap (filter_map (λ (x : Port × Row). end_here S F p x.0)) are
        ∙ some_through (λ q _. end_here S F p q) (ports F p)
        ∙ ap (λ f. filter_map f (ports F p)) (λ i q. where_some (end_of_port S p q) (row F q.feature) i)

    -- and the entries
    pub entries_are : (S : Catalog) → map (λ (s : Standing). spot_here S F p s.port s.row.now) ss ≡ spots_here S F p
    entries_are S = sym (map-map pair_of (λ (x : Port × Row). spot_here S F p x.0 x.1) ss)
        ∙ ap (map (λ (x : Port × Row). spot_here S F p x.0 x.1)) are
        ∙ each_through (spot_here S F p) (ports F p)
