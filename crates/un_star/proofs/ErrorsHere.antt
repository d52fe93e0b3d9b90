-- The errors at a point, from what meets there and the associations of the rows there, are those of the star.
use Rattle.std.proofs.Common.{◌≡◌, ℕ, suc, Bool, true, false, not, ◌&&◌, ◌||◌, ◌==◌, if◌then◌else◌, inl, inr, List, [], ◌∷◌, ◌++◌, length, map, filter, option_to_list, refl, sym, ap, ◌∙◌, subst, Option, Some, None, slice_get, slice_index, nat_le, eqb-true, eq-eqb}
use Rattle.std.specs.FinMap.{nat_cmp-IsAntisymmetric}
use Rattle.std.specs.Option.{option_map, option_map_or}
use Rattle.un_geom.specs.declared.point.Point.{Point}
use Rattle.un_geom.specs.Places.{same_point}
use Rattle.un_schema.specs.Catalog.{Catalog}
use Rattle.un_defs.specs.declared.assoc.Assoc.{Assoc}
use Rattle.un_defs.specs.declared.port.Port.{Port}
use Rattle.un_defs.specs.declared.port.Node.{Node}
use Rattle.un_defs.specs.declared.row.Row.{Row}
use Rattle.un_defs.specs.declared.star.ErrorKind.{ErrorKind}
use Rattle.un_defs.specs.declared.star.ErrorKind.TheVariants.{Stacked, MissingJunction, NoRule, BadTerminal, MidspanTerminal}
use Rattle.un_defs.specs.declared.star.TopoError.{TopoError}
use Rattle.un_defs.specs.Features.{Features, row, is_joint, is_end_of, by_id, associations_of}
use Rattle.un_defs.specs.Ports.{ports, nodes_of, node_of, standing_at, port_numbers_of}
use Rattle.un_defs.specs.Permit.{permitted}
use Rattle.un_defs.specs.Sound.{IsSound}
use Rattle.un_defs.specs.Links.{Vertex, vertices, vertices_at, may_connect, chosen, has_chosen, joins_to, is_end, is_first, is_last, end_number, joints_at, is_joint_at}
use Rattle.un_defs.specs.Errors.{error_of, each_vertex, lacks_rule, lacks_terminal, is_midspan, joint_errors, error_at_row, end_error, error_at_end, association_errors, errors}
use Rattle.un_defs.proofs.Rising.{Among, among_from-rising, among-rising, rising_same}
use Rattle.un_defs.proofs.Members.{among_cases, among_left, among_right, among_from-map, among-map, among_from-filter, among-filter, among_from-flat_map, among-flat_map, among_from-filter_map}
use Rattle.un_defs.proofs.OrderLaws.{error_total, error_ties}
use Rattle.un_defs.proofs.LinkCases.{some_same, both_true, true_both, from-node_of}
use Rattle.un_defs.proofs.Unique.{unique_by, point_same}
use Rattle.un_defs.proofs.Standing.{from_row, port_stands}
use Rattle.un_defs.proofs.ListLemmas.{map-map}
use Rattle.un_star.specs.Meet.{joint_of, joints_here, end_of, ends_here}
use Rattle.un_star.specs.Errors.{end_error_kind, end_error_of, loose_errors, joint_errors_here, stacked, meeting_errors_of, errors_of_association, association_errors_of, association_errors_here, errors_here}
use Rattle.un_star.proofs.Apart.{Same, same-map, Alike, none, one, several, alike_two}
use Rattle.un_star.proofs.Standers.{joint_rows, joints_here_are, same_joints, alike_joints, vertex_rows, ends_here_are, same_vertices, alike_vertices}
use Rattle.un_star.proofs.Coins.{chosen_same, joins_same}

-- ---- lists with the same elements

same_by : {A : Type 0} (xs ys zs ws : List A) → xs ≡ ys → zs ≡ ws → Same ys ws → Same xs zs
same_by xs ys zs ws e f s = record {
  to = λ x h. subst (λ l. Among l x) (sym f) (s.to x (subst (λ l. Among l x) e h));
  from = λ x h. subst (λ l. Among l x) (sym e) (s.from x (subst (λ l. Among l x) f h));
}

same_if : {A : Type 0} (b : Bool) (xs ys : List A) → Same xs ys → Same (if b then xs else []) (if b then ys else [])
same_if true xs ys s = s
same_if false xs ys s = record { to = λ x h. h; from = λ x h. h }

same_append : {A : Type 0} (xs ys zs ws : List A) → Same xs zs → Same ys ws → Same (xs ++ ys) (zs ++ ws)
same_append xs ys zs ws s t = record {
  to = λ x h. elim (among_cases xs ys x h) [ inl g ↦ among_left zs ws x (s.to x g) | inr g ↦ among_right zs ws x (t.to x g) ];
  from = λ x h. elim (among_cases zs ws x h) [ inl g ↦ among_left xs ys x (s.from x g) | inr g ↦ among_right xs ys x (t.from x g) ];
}

length-map : {A B : Type 0} (f : A → B) (xs : List A) → length (map f xs) ≡ length xs
length-map f [] = refl
length-map f (x ∷ xs) = ap suc (length-map f xs)

and_false : (b : Bool) → (b && false) ≡ false
and_false true = refl
and_false false = refl

not_true : (b : Bool) → not b ≡ true → b ≡ false
not_true true e = sym e
not_true false e = refl

true_not : (b : Bool) → b ≡ false → not b ≡ true
true_not true e = sym e
true_not false e = refl

-- ---- what is wrong with one vertex

-- by four tests: its terminal is there, it joins, it is the first or last, there are several terminals
error_by : Bool → Bool → Bool → Bool → Option ErrorKind
error_by has joins outer many = if has then (if joins then None else Some NoRule) else (if outer then Some BadTerminal else (if many then Some MidspanTerminal else None))

-- an inner vertex has no terminal where there are several
mid_unchosen : (j : Row) (v : Vertex) → is_end v ≡ false → nat_le 2 j.terminals ≡ true → has_chosen j v ≡ false
mid_unchosen j v inner many =
    (λ i. (is_joint j.class && nat_le 1 (none i)) && nat_le (chosen v j) j.terminals) ∙ ap (λ b. b && nat_le (chosen v j) j.terminals) (and_false (is_joint j.class))
  where
    neither : (a b : Bool) → (a || b) ≡ false → (a ≡ false) × (b ≡ false)
    neither true b e = cc
    neither false b e = (refl, e)

    zero_number : end_number v ≡ 0
    zero_number = λ i. if (neither (is_first v) (is_last v) inner).0 i then slice_index v.line.ends 0 else (if (neither (is_first v) (is_last v) inner).1 i then slice_index v.line.ends 1 else 0)

    not_one : (t : ℕ) → nat_le 2 t ≡ true → (t == 1) ≡ false
    not_one t e = go (t == 1) refl
      where
        go : (b : Bool) → (t == 1) ≡ b → b ≡ false
        go false h = refl
        go true h = sym (subst (λ n. nat_le 2 n ≡ true) (eqb-true t 1 h) e)

    none : chosen v j ≡ 0
    none = (λ i. if (zero_number i == 0) && (j.terminals == 1) then 1 else zero_number i) ∙ (λ i. if not_one j.terminals many i then 1 else 0)

module _ (S : Catalog) (F : Features) (sound : IsSound S F) (rules : F.rules ≡ S.rules) (p : Point) where
  -- ---- what meets at the point

  module _ (j : Row) (class : is_joint j.class ≡ true) where
    abbrev pub wrong : List TopoError
    wrong = each_vertex NoRule (filter (lacks_rule S F j) (vertices_at S F p))
        ++ each_vertex BadTerminal (filter (lacks_terminal j) (vertices_at S F p))
        ++ each_vertex MidspanTerminal (filter (is_midspan j) (vertices_at S F p))

    record IsHere (v : Vertex) : Type 0 where
      lives : Among (vertices_at S F p) v
      may : may_connect S v ≡ true
      at : v.at ≡ p

    here_of : (v : Vertex) → Among (vertices_at S F p) v → IsHere v
    here_of v h =
        let tests = both_true (same_point v.at p) (may_connect S v) (among_from-filter (λ v. same_point v.at p && may_connect S v) (vertices F) v h).1 in
        record { lives = h; may = tests.1; at = point_same v.at p tests.0 }

    error_is : (v : Vertex) → IsHere v → end_error_kind S.rules (joint_of j) (ends_here S F p) (end_of v) ≡ error_by (has_chosen j v) (joins_to S F j v) (is_end v) (nat_le 2 j.terminals)
    unfolding error_by
    error_is v here = λ i.
        if sym (chosen_same j v class) i then (if sym (joins_same S F sound rules p j class v here.may here.at) i then None else Some NoRule)
        else (if is_end v then Some BadTerminal else (if nat_le 2 j.terminals then Some MidspanTerminal else None))

    among_each : (kind : ErrorKind) (test : Vertex → Bool) (v : Vertex) → Among (vertices_at S F p) v → test v ≡ true → Among (each_vertex kind (filter test (vertices_at S F p))) (error_of kind v.line.id v.index)
    among_each kind test v h e = among-map (λ v. error_of kind v.line.id v.index) (filter test (vertices_at S F p)) v (among-filter test (vertices_at S F p) v h e)

    -- a error of a vertex is one of the three sorts
    sorts : (v : Vertex) → IsHere v → (has joins outer many : Bool) → has_chosen j v ≡ has → joins_to S F j v ≡ joins → is_end v ≡ outer → nat_le 2 j.terminals ≡ many
        → (k : ErrorKind) → error_by has joins outer many ≡ Some k → Among wrong (error_of k v.line.id v.index)
    unfolding error_by
    sorts v here true true outer many a b c d k e = cc
    sorts v here true false outer many a b c d k e =
        subst (λ k. Among wrong (error_of k v.line.id v.index)) (some_same NoRule k e)
        (among_left (each_vertex NoRule (filter (lacks_rule S F j) (vertices_at S F p)) ++ each_vertex BadTerminal (filter (lacks_terminal j) (vertices_at S F p))) _ _
        (among_left (each_vertex NoRule (filter (lacks_rule S F j) (vertices_at S F p))) _ _
        (among_each NoRule (lacks_rule S F j) v here.lives (true_both (has_chosen j v) _ a (true_not (joins_to S F j v) b)))))
    sorts v here false joins true many a b c d k e =
        subst (λ k. Among wrong (error_of k v.line.id v.index)) (some_same BadTerminal k e)
        (among_left (each_vertex NoRule (filter (lacks_rule S F j) (vertices_at S F p)) ++ each_vertex BadTerminal (filter (lacks_terminal j) (vertices_at S F p))) _ _
        (among_right (each_vertex NoRule (filter (lacks_rule S F j) (vertices_at S F p))) _ _
        (among_each BadTerminal (lacks_terminal j) v here.lives (true_both (is_end v) _ c (true_not (has_chosen j v) a)))))
    sorts v here false joins false true a b c d k e =
        subst (λ k. Among wrong (error_of k v.line.id v.index)) (some_same MidspanTerminal k e)
        (among_right (each_vertex NoRule (filter (lacks_rule S F j) (vertices_at S F p)) ++ each_vertex BadTerminal (filter (lacks_terminal j) (vertices_at S F p))) _ _
        (among_each MidspanTerminal (is_midspan j) v here.lives (true_both (not (is_end v)) _ (true_not (is_end v) c) d)))
    sorts v here false joins false false a b c d k e = cc

    -- an end's error, if it has this error
    error_there : (v : Vertex) → IsHere v → (k : ErrorKind) → error_by (has_chosen j v) (joins_to S F j v) (is_end v) (nat_le 2 j.terminals) ≡ Some k
        → Among (joint_errors_here S.rules (joint_of j) (ends_here S F p)) (error_of k v.line.id v.index)
    error_there v here k e =
        among-flat_map (λ e. option_to_list (option_map (end_error_of e) (end_error_kind S.rules (joint_of j) (ends_here S F p) e))) (ends_here S F p) (end_of v) (error_of k v.line.id v.index)
        (subst (λ l. Among l (end_of v)) (sym (ends_here_are S F p)) (among-map end_of (vertex_rows S F p) v ((same_vertices S F sound p).from v here.lives)))
        (subst (λ o. Among (option_to_list (option_map (end_error_of (end_of v)) o)) (error_of k v.line.id v.index)) (sym (error_is v here ∙ e)) (inl refl))

    no_rule : (v : Vertex) → lacks_rule S F j v ≡ true → error_by (has_chosen j v) (joins_to S F j v) (is_end v) (nat_le 2 j.terminals) ≡ Some NoRule
    unfolding error_by
    no_rule v e =
        let tests = both_true (has_chosen j v) (not (joins_to S F j v)) e in
        λ i. if tests.0 i then (if not_true (joins_to S F j v) tests.1 i then None else Some NoRule) else (if is_end v then Some BadTerminal else (if nat_le 2 j.terminals then Some MidspanTerminal else None))

    bad : (v : Vertex) → lacks_terminal j v ≡ true → error_by (has_chosen j v) (joins_to S F j v) (is_end v) (nat_le 2 j.terminals) ≡ Some BadTerminal
    unfolding error_by
    bad v e =
        let tests = both_true (is_end v) (not (has_chosen j v)) e in
        λ i. if not_true (has_chosen j v) tests.1 i then (if joins_to S F j v then None else Some NoRule) else (if tests.0 i then Some BadTerminal else (if nat_le 2 j.terminals then Some MidspanTerminal else None))

    mid : (v : Vertex) → is_midspan j v ≡ true → error_by (has_chosen j v) (joins_to S F j v) (is_end v) (nat_le 2 j.terminals) ≡ Some MidspanTerminal
    unfolding error_by
    mid v e =
        let tests = both_true (not (is_end v)) (nat_le 2 j.terminals) e in
        let inner = not_true (is_end v) tests.0 in
        λ i. if mid_unchosen j v inner tests.1 i then (if joins_to S F j v then None else Some NoRule) else (if inner i then Some BadTerminal else (if tests.1 i then Some MidspanTerminal else None))

    pub one_same : Same (joint_errors_here S.rules (joint_of j) (ends_here S F p)) wrong
    one_same = record {
      to = λ x h.
          let e = among_from-flat_map (λ e. option_to_list (option_map (end_error_of e) (end_error_kind S.rules (joint_of j) (ends_here S F p) e))) (ends_here S F p) x h in
          let v = among_from-map end_of (vertex_rows S F p) e.0 (subst (λ l. Among l e.0) (ends_here_are S F p) e.1) in
          let here = here_of v.0 ((same_vertices S F sound p).to v.0 v.1) in
          back v.0 here x (error_by (has_chosen j v.0) (joins_to S F j v.0) (is_end v.0) (nat_le 2 j.terminals)) refl
          (subst (λ o. Among (option_to_list (option_map (end_error_of (end_of v.0)) o)) x) (error_is v.0 here)
          (subst (λ e. Among (option_to_list (option_map (end_error_of e) (end_error_kind S.rules (joint_of j) (ends_here S F p) e))) x) (sym v.2) e.2));
      from = λ x h. forth x h;
    }
      where
        back : (v : Vertex) → IsHere v → (x : TopoError) (o : Option ErrorKind) → error_by (has_chosen j v) (joins_to S F j v) (is_end v) (nat_le 2 j.terminals) ≡ o
            → Among (option_to_list (option_map (end_error_of (end_of v)) o)) x → Among wrong x
        back v here x None e g = absurd g
        back v here x (Some k) e g =
            elim g [
              | inl i ↦ subst (Among wrong) i (sorts v here (has_chosen j v) (joins_to S F j v) (is_end v) (nat_le 2 j.terminals) refl refl refl refl k e)
              | inr i ↦ absurd i
            ]

        of_kind : (kind : ErrorKind) (test : Vertex → Bool) → ((v : Vertex) → test v ≡ true → error_by (has_chosen j v) (joins_to S F j v) (is_end v) (nat_le 2 j.terminals) ≡ Some kind)
            → (x : TopoError) → Among (each_vertex kind (filter test (vertices_at S F p))) x → Among (joint_errors_here S.rules (joint_of j) (ends_here S F p)) x
        of_kind kind test is x h =
            let v = among_from-map (λ v. error_of kind v.line.id v.index) (filter test (vertices_at S F p)) x h in
            let parts = among_from-filter test (vertices_at S F p) v.0 v.1 in
            subst (Among (joint_errors_here S.rules (joint_of j) (ends_here S F p))) v.2 (error_there v.0 (here_of v.0 parts.0) kind (is v.0 parts.1))

        forth : (x : TopoError) → Among wrong x → Among (joint_errors_here S.rules (joint_of j) (ends_here S F p)) x
        forth x h = elim (among_cases (each_vertex NoRule (filter (lacks_rule S F j) (vertices_at S F p)) ++ each_vertex BadTerminal (filter (lacks_terminal j) (vertices_at S F p))) (each_vertex MidspanTerminal (filter (is_midspan j) (vertices_at S F p))) x h) [
          | inr g ↦ of_kind MidspanTerminal (is_midspan j) mid x g
          | inl h ↦ elim (among_cases (each_vertex NoRule (filter (lacks_rule S F j) (vertices_at S F p))) (each_vertex BadTerminal (filter (lacks_terminal j) (vertices_at S F p))) x h) [
            | inl g ↦ of_kind NoRule (lacks_rule S F j) no_rule x g
            | inr g ↦ of_kind BadTerminal (lacks_terminal j) bad x g
          ]
        ]

  joint_part : Same (meeting_errors_of S.rules (joints_here F p) (ends_here S F p)) (joint_errors S F (joints_at F p) (vertices_at S F p))
  joint_part = go (alike_joints S F sound p)
    where
      go : Alike (joint_rows F p) (joints_at F p) → Same (meeting_errors_of S.rules (joints_here F p) (ends_here S F p)) (joint_errors S F (joints_at F p) (vertices_at S F p))
      go (none e f) = same_by _ _ _ _
          (ap (λ js. meeting_errors_of S.rules js (ends_here S F p)) (joints_here_are F p ∙ ap (map joint_of) e)
          ∙ ap loose_errors (ends_here_are S F p)
          ∙ (λ i. if nat_le 2 (length-map end_of (vertex_rows S F p) i) then map-map end_of (λ e. end_error_of e MissingJunction) (vertex_rows S F p) i else [])
          ∙ (λ i. if alike_two (vertex_rows S F p) (vertices_at S F p) (alike_vertices S F sound p) i then each_vertex MissingJunction (vertex_rows S F p) else []))
          (ap (λ js. joint_errors S F js (vertices_at S F p)) f)
          (same_if (nat_le 2 (length (vertices_at S F p))) (each_vertex MissingJunction (vertex_rows S F p)) (each_vertex MissingJunction (vertices_at S F p))
          (same-map (λ v. error_of MissingJunction v.line.id v.index) (vertex_rows S F p) (vertices_at S F p) (same_vertices S F sound p)))
      go (one j e f) = same_by _ _ _ _
          (ap (λ js. meeting_errors_of S.rules js (ends_here S F p)) (joints_here_are F p ∙ ap (map joint_of) e))
          (ap (λ js. joint_errors S F js (vertices_at S F p)) f)
          (one_same j (both_true (is_joint j.class) _ (among_from-filter (is_joint_at p) F.rows j (subst (λ l. Among l j) (sym f) (inl refl))).1).0)
      go (several a b rest e c d cs f) = same_by _ _ _ _
          (ap (λ js. meeting_errors_of S.rules js (ends_here S F p)) (joints_here_are F p ∙ ap (map joint_of) e)
          ∙ ap (λ js. map stacked (map joint_of js)) (sym e) ∙ map-map joint_of stacked (joint_rows F p))
          (ap (λ js. joint_errors S F js (vertices_at S F p)) f ∙ ap (map (λ r. error_of Stacked r.id 1)) (sym f))
          (same-map (λ r. error_of Stacked r.id 1) (joint_rows F p) (joints_at F p) (same_joints S F sound p))

  -- ---- associations

  first_among : {A : Type 0} (xs : List A) (x : A) → slice_get xs 0 ≡ Some x → Among xs x
  first_among [] x e = cc
  first_among (y ∷ ys) x e = inl (some_same y x e)

  end_port : (a : Assoc) (end : Port) (x : TopoError) → Among (error_at_end F p a end) x → (q : Port) × Among (ports F p) q × (q.feature ≡ end.feature)
  end_port a end x h = by_row (row F end.feature) refl h
    where
      by_node : (r : Row) → row F end.feature ≡ Some r → (o : Option Node) → slice_get (standing_at p (nodes_of r)) 0 ≡ o
          → Among (option_map_or (end_error a end) (option_map (λ n. n.port.number) o) []) x → (q : Port) × Among (ports F p) q × (q.feature ≡ end.feature)
      by_node r e None f g = absurd g
      by_node r e (Some n) f g =
          let parts = among_from-filter (λ n. same_point n.at p) (nodes_of r) n (first_among (standing_at p (nodes_of r)) n f) in
          let lives = from_row F end.feature r e in
          let k = among_from-filter_map (node_of r) (port_numbers_of r) n parts.0 in (
            n.port,
            subst (λ q. Among (ports F q) n.port) (point_same n.at p parts.1) (port_stands F n (among-flat_map nodes_of F.rows r n lives.0 parts.0)),
            (from-node_of r k.0 n k.2).feature ∙ lives.1,
          )

      by_row : (o : Option Row) → row F end.feature ≡ o → Among (option_map_or (error_at_row p a end) o []) x → (q : Port) × Among (ports F p) q × (q.feature ≡ end.feature)
      by_row None e g = absurd g
      by_row (Some r) e g = by_node r e (slice_get (standing_at p (nodes_of r)) 0) refl g

  listed : (id : ℕ) (a : Assoc) → Among F.associations a → is_end_of id a ≡ true → Among (associations_of F id) a
  listed id a h e = among-rising by_id (filter (is_end_of id) F.associations)
      (λ x y g k t. unique_by (λ a. a.id) F.associations sound.associations x y (among_from-filter (is_end_of id) F.associations x g).0 (among_from-filter (is_end_of id) F.associations y k).0 (nat_cmp-IsAntisymmetric x.id y.id t))
      a (among-filter (is_end_of id) F.associations a h e)

  association_part : Same (association_errors_here F p) (association_errors F p)
  association_part = record {
    to = λ x h.
        let q = among_from-flat_map (λ q. association_errors_of F p q.feature) (ports F p) x h in
        let a = among_from-flat_map (errors_of_association F p) (associations_of F (q.0).feature) x q.2 in
        let lives = (among_from-filter (is_end_of (q.0).feature) F.associations a.0 (among_from-rising by_id (filter (is_end_of (q.0).feature) F.associations) a.0 a.1)).0 in
        there x a.0 lives (permitted F a.0) refl a.2;
    from = λ x h.
        let a = among_from-flat_map (λ a. error_at_end F p a a.from ++ error_at_end F p a a.to) (filter (λ a. not (permitted F a)) F.associations) x h in
        let parts = among_from-filter (λ a. not (permitted F a)) F.associations a.0 a.1 in
        elim (among_cases (error_at_end F p a.0 (a.0).from) (error_at_end F p a.0 (a.0).to) x a.2) [
          | inl g ↦ let q = end_port a.0 (a.0).from x g in
              by_port x a.0 q.0 q.1 (listed (q.0).feature a.0 parts.0 (ap (λ b. b || ((a.0).to.feature == (q.0).feature)) (eq-eqb (a.0).from.feature (q.0).feature (sym q.2)))) (not_true (permitted F a.0) parts.1) a.2
          | inr g ↦ let q = end_port a.0 (a.0).to x g in
              by_port x a.0 q.0 q.1 (listed (q.0).feature a.0 parts.0 (either_true ((a.0).from.feature == (q.0).feature) _ (eq-eqb (a.0).to.feature (q.0).feature (sym q.2)))) (not_true (permitted F a.0) parts.1) a.2
        ];
  }
    where
      either_true : (a b : Bool) → b ≡ true → (a || b) ≡ true
      either_true true b e = refl
      either_true false b e = e

      there : (x : TopoError) (a : Assoc) → Among F.associations a → (b : Bool) → permitted F a ≡ b → Among (if b then [] else error_at_end F p a a.from ++ error_at_end F p a a.to) x → Among (association_errors F p) x
      there x a lives true e g = absurd g
      there x a lives false e g = among-flat_map (λ a. error_at_end F p a a.from ++ error_at_end F p a a.to) (filter (λ a. not (permitted F a)) F.associations) a x
          (among-filter (λ a. not (permitted F a)) F.associations a lives (true_not (permitted F a) e)) g

      by_port : (x : TopoError) (a : Assoc) (q : Port) → Among (ports F p) q → Among (associations_of F q.feature) a → permitted F a ≡ false
          → Among (error_at_end F p a a.from ++ error_at_end F p a a.to) x → Among (association_errors_here F p) x
      by_port x a q port lives e g = among-flat_map (λ q. association_errors_of F p q.feature) (ports F p) q x port
          (among-flat_map (errors_of_association F p) (associations_of F q.feature) a x lives
          (subst (λ b. Among (if b then [] else error_at_end F p a a.from ++ error_at_end F p a a.to) x) (sym e) g))

  pub errors_are : errors_here S F p ≡ errors S F p
  errors_are =
      let same = same_append (meeting_errors_of S.rules (joints_here F p) (ends_here S F p)) (association_errors_here F p) (joint_errors S F (joints_at F p) (vertices_at S F p)) (association_errors F p) joint_part association_part in
      rising_same error_total (meeting_errors_of S.rules (joints_here F p) (ends_here S F p) ++ association_errors_here F p) (joint_errors S F (joints_at F p) (vertices_at S F p) ++ association_errors F p)
      (λ x y _ _ e. error_ties x y e) (λ x y _ _ e. error_ties x y e) (λ x h. same.to x h) (λ x h. same.from x h)
