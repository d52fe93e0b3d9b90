-- What an accepted edit of a row leaves, told by the row before it and the row after it.
use Rattle.std.proofs.Common.{◌≡◌, ℕ, suc, ◌<◌, ◌==◌, ℤ, Bool, true, false, cond, List, [], ◌∷◌, ◌++◌, map, length, All, AllPairs, position, Option, Some, None, IfSome, option_to_list, flat_map, refl, sym, ap, subst, ◌∙◌, inl, inr, arith, eq-eqb, append-nil, if◌then◌else◌}
use Rattle.std.specs.Prelude.{not, ◌≢◌}
use Rattle.std.proofs.lemmas.Bool.Decides.{nat_tests}
use Rattle.std.specs.Option.{option_map, option_map_or}
use Rattle.std.proofs.lemmas.Option.{slice_get_cases}
use Rattle.std.proofs.lemmas.List.Quantifiers.{position-Some}
use Rattle.un_geom.specs.declared.point.Point.{Point}
use Rattle.un_geom.specs.Places.{envelope, point_of}
use Rattle.un_schema.specs.declared.kind.Kind.{Kind}
use Rattle.un_schema.specs.Catalog.{kind_at, kind_named, same_text}
use Rattle.un_defs.specs.declared.port.Port.{Port}
use Rattle.un_defs.specs.declared.row.Flow.{Flow}
use Rattle.un_defs.specs.declared.row.Row.{Row}
use Rattle.un_defs.specs.declared.assoc.Assoc.{Assoc}
use Rattle.un_defs.specs.declared.edit.Edit.{Edit}
use Rattle.un_defs.specs.declared.edit.Edit.TheVariants as edit
use Rattle.un_defs.specs.declared.refusal.Refusal.TheVariants as refusal
use Rattle.un_defs.specs.Refusing.{refused_if}
use Rattle.un_defs.specs.Features.{Features, association}
use Rattle.un_defs.specs.Ports.{nodes_of}
use Rattle.un_defs.specs.Links.{is_connectivity}
use Rattle.un_defs.specs.Change.{Setting, Next, changed, add_row, change_row, new_row, moved, of_kind, on_path, numbered}
use Rattle.un_defs.specs.Dirtied.{dirtied, envelope_of, envelope_of_given, partners}
use Rattle.un_defs.proofs.RowEdits.{touch}
use Rattle.un_store.specs.Words.{IsRowEdit, row_of}
use Rattle.un_store.specs.Keyed.{row_with}
use Rattle.un_store.specs.Edits.{rows_after}
use Rattle.un_store.specs.Refusals.{refusal_of, no_kind, no_row}
use Rattle.un_store.proofs.Fitting.{none_refused}
use Rattle.un_store.proofs.Held.{found_id}
use Rattle.un_store.proofs.Makings.{rows_alone}
use Rattle.un_grid.specs.Grids.{IsGridOf, HasRow, HasInPlace, LacksRow, InsertLaw, RemoveLaw, ReplaceLaw, StayLaw, without_row}
use Rattle.un_assoc.specs.Words.{IsLinkEdit}
use Rattle.un_facts.specs.Rectangles.{envelope_of_row, own_rectangles, other_rectangles}
use Rattle.un_facts.specs.Standers.{HasPorts}

-- ---- rows with an id

position_inside : {A : Type 0} (p : A → Bool) (xs : List A) (i : ℕ) → position p xs ≡ Some i → i < length xs
position_inside p [] i e = let n : None ≡ Some i = e in cc
position_inside p (x ∷ xs) i e = (position-Some p (x ∷ xs) i x e).0

-- a row that is the first with its id is found behind the others
found_last : (rows : List Row) (new : Row) → All (λ r. r.id < new.id) rows → row_with (rows ++ new ∷ []) new.id ≡ Some new
found_last [] new below = ap (λ b. cond b (Some new) None) (eq-eqb new.id new.id refl)
found_last (r ∷ rows) new below =
    ap (λ b. cond b (Some r) (row_with (rows ++ new ∷ []) new.id)) other ∙ found_last rows new (λ k d l. below (suc k) d (omega (arith, l)))
  where
    other : (r.id == new.id) ≡ false
    other = let less : r.id < new.id = below 0 r (omega arith) in grind (arith, nat_tests)

-- a row that is changed is found by its id
found_changed : (id : ℕ) (f : Row → Row) → ((r : Row) → (f r).id ≡ r.id) → (rows : List Row)
    → row_with (map (touch id f) rows) id ≡ option_map f (row_with rows id)
found_changed id f keeps [] = refl
found_changed id f keeps (r ∷ rows) = go (r.id == id) refl (found_changed id f keeps rows)
  where
    go : (b : Bool) → (r.id == id) ≡ b → row_with (map (touch id f) rows) id ≡ option_map f (row_with rows id)
        → cond ((if b then f r else r).id == id) (Some (if b then f r else r)) (row_with (map (touch id f) rows) id) ≡ option_map f (cond b (Some r) (row_with rows id))
    go true e rest = ap (λ b. cond b (Some (f r)) (row_with (map (touch id f) rows) id)) (ap (λ n. n == id) (keeps r) ∙ e)
    go false e rest = ap (λ b. cond b (Some r) (row_with (map (touch id f) rows) id)) e ∙ rest

-- a row of which no refusal is due is there
there : (rows : List Row) (id base : ℕ) → no_row rows id base ≡ None → (r : Row) × (row_with rows id ≡ Some r)
there rows id base = go (row_with rows id)
  where
    go : (o : Option Row) → option_map_or (λ r. refused_if (not (r.moment == base)) (refusal.Moved r.moment)) o (Some (refusal.NoSuchFeature id)) ≡ None → (r : Row) × (o ≡ Some r)
    go None e = let n : Some (refusal.NoSuchFeature id) ≡ None = e in cc
    go (Some r) e = (r, refl)

-- ---- what an edit of a row leaves

module _ (T : Setting) (N : Next) (F : Features) where
  abbrev left : Edit → Features
  left e = changed T N F e

  -- the rows alone are changed
  chosen : {A : Type 0} (o : Option A) (f : A → Features) → ((a : A) → f a ≡ record F { rows = (f a).rows }) → option_map_or f o F ≡ record F { rows = (option_map_or f o F).rows }
  chosen None f h = refl
  chosen (Some a) f h = h a

  rows_only : (e : Edit) → IsRowEdit e → left e ≡ record F { rows = (left e).rows }
  rows_only (edit.Insert kind points attrs flow ends note) word = chosen (kind_named T.catalog kind) _ (λ k. chosen (kind_at T.catalog k) _ (λ kd. refl))
  rows_only (edit.Reshape id base points) word = refl
  rows_only (edit.Attrs id base attrs) word = refl
  rows_only (edit.Kind id base kind) word = chosen (kind_named T.catalog kind) _ (λ k. refl)
  rows_only (edit.Path id base path) word = refl
  rows_only (edit.Flow id base flow) word = refl
  rows_only (edit.Ends id base ends) word = refl
  rows_only (edit.Note id base note) word = refl
  rows_only (edit.Delete id base) word = refl
  rows_only _ word = absurd word

  pub features_are : (e : Edit) → IsRowEdit e → (rows_left : List Row) → rows_left ≡ rows_after T.catalog N.feature N.moment F.rows e → record F { rows = rows_left } ≡ left e
  features_are e word rows_left are =
      ap (λ rows. record F { rows = rows }) (are ∙ sym (rows_alone T N F e)) ∙ sym (rows_only e word)

  -- ---- an insert

  -- the new row, where nothing is due
  record IsInserted (points : List (List ℤ)) (G : Features) : Type 0 where
    row : Row
    is : G ≡ add_row F row
    id : row.id ≡ N.feature
    shape : row.shape ≡ map point_of points

  module _ (kind : List ℕ) (points : List (List ℤ)) (attrs : List (List ℕ × ℤ)) (flow : Flow) (ends note : List ℕ) where
    abbrev inserted_row : ℕ → Kind → Row
    inserted_row k kd = new_row T.catalog N k kd points attrs flow ends note

    inserted_by : (o : Option ℕ) → kind_named T.catalog kind ≡ o → option_map_or (λ k. None) o (Some (refusal.NoSuchKind kind)) ≡ None
        → IsInserted points (option_map_or (λ k. option_map_or (λ kd. add_row F (inserted_row k kd)) (kind_at T.catalog k) F) o F)
    inserted_by None named cause = let n : Some (refusal.NoSuchKind kind) ≡ None = cause in cc
    inserted_by (Some k) named cause =
        elim (slice_get_cases T.catalog.kinds k).1 [
          | inl i ↦ record { row = inserted_row k i.0; is = ap (λ kd. option_map_or (λ kd. add_row F (inserted_row k kd)) kd F) i.2; id = refl; shape = refl }
          | inr p ↦ absurd (omega (arith, position_inside (λ kd. same_text kind kd.name) T.catalog.kinds k named, p.0))
        ]

    inserted : no_kind T.catalog kind ≡ None → IsInserted points (left (edit.Insert kind points attrs flow ends note))
    inserted cause = inserted_by (kind_named T.catalog kind) refl cause

  found_inserted : All (λ r. r.id < N.feature) F.rows → (points : List (List ℤ)) (G : Features) (i : IsInserted points G) → row_with G.rows N.feature ≡ Some i.row
  found_inserted below points G i =
      ap (λ G. row_with G.rows N.feature) i.is
      ∙ subst (λ n. row_with (F.rows ++ i.row ∷ []) n ≡ Some i.row) i.id (found_last F.rows i.row (subst (λ n. All (λ r. r.id < n) F.rows) (sym i.id) below))

  -- ---- a row that is changed

  -- the change, where nothing is due
  record IsChanged (id : ℕ) (G : Features) : Type 0 where
    change : Row → Row
    is : G ≡ change_row F id change
    keeps : (r : Row) → (change r).id ≡ r.id

  kind_changed : (id base : ℕ) (kind : List ℕ) → no_kind T.catalog kind ≡ None → IsChanged id (left (edit.Kind id base kind))
  kind_changed id base kind = of_name (kind_named T.catalog kind)
    where
      of_name : (o : Option ℕ) → option_map_or (λ k. None) o (Some (refusal.NoSuchKind kind)) ≡ None
          → IsChanged id (option_map_or (λ k. change_row F id (of_kind T.catalog N k)) o F)
      of_name None cause = let n : Some (refusal.NoSuchKind kind) ≡ None = cause in cc
      of_name (Some k) cause = record { change = of_kind T.catalog N k; is = refl; keeps = λ r. refl }

  reshaped : (id base : ℕ) (points : List (List ℤ)) → IsChanged id (left (edit.Reshape id base points))
  reshaped id base points = record { change = moved N points; is = refl; keeps = λ r. refl }

  after_changed : (id : ℕ) (G : Features) (c : IsChanged id G) → row_with G.rows id ≡ option_map c.change (row_with F.rows id)
  after_changed id G c = ap (λ G. row_with G.rows id) c.is ∙ found_changed id c.change c.keeps F.rows

  -- ---- the rectangles

  pub rectangles_are : All (λ r. r.id < N.feature) F.rows → (e : Edit) → IsRowEdit e → refusal_of T.catalog F.rows e ≡ None
      → own_rectangles e (row_with F.rows (row_of N.feature e)) (row_with (left e).rows (row_of N.feature e)) ++ other_rectangles F e ≡ dirtied F e
  rectangles_are below (edit.Insert kind points attrs flow ends note) word cause =
      let i = inserted kind points attrs flow ends note (none_refused (no_kind T.catalog kind) _ cause).0 in
      append-nil _ ∙ ap envelope_of_row (found_inserted below points (left (edit.Insert kind points attrs flow ends note)) i) ∙ ap (λ shape. option_to_list (envelope shape)) i.shape
  rectangles_are below (edit.Reshape id base points) word cause =
      let r = there F.rows id base (none_refused (no_row F.rows id base) _ cause).0 in
      let move = moved N points in
      let later : envelope_of_row (row_with (left (edit.Reshape id base points)).rows id) ≡ envelope_of_given points =
      ap envelope_of_row (found_changed id move (λ r. refl) F.rows ∙ ap (option_map move) r.1) in
      ap (λ rects. envelope_of F id ++ rects ++ flat_map (envelope_of F) (partners F is_connectivity id)) later
  rectangles_are below (edit.Attrs id base attrs) word cause = append-nil (envelope_of F id)
  rectangles_are below (edit.Kind id base kind) word cause = refl
  rectangles_are below (edit.Path id base path) word cause = append-nil (envelope_of F id)
  rectangles_are below (edit.Flow id base flow) word cause = append-nil (envelope_of F id)
  rectangles_are below (edit.Ends id base ends) word cause = append-nil (envelope_of F id)
  rectangles_are below (edit.Note id base note) word cause = refl
  rectangles_are below (edit.Delete id base) word cause = append-nil (envelope_of F id)
  rectangles_are below _ word cause = absurd word

  -- ---- the ports

  module _ (insert_law : InsertLaw) (remove_law : RemoveLaw) (replace_law : ReplaceLaw) (stay_law : StayLaw)
      (below : All (λ r. r.id < N.feature) F.rows) (apart : AllPairs (λ r s. r.id ≢ s.id) F.rows)
      (old new : List (Point × List Port)) (of : IsGridOf old F) where
    stays : (id : ℕ) (f : Row → Row) → ((r : Row) → nodes_of (f r) ≡ nodes_of r) → new ≡ old → IsGridOf new (change_row F id f)
    stays id f same e = subst (λ g. IsGridOf g (change_row F id f)) (sym e) (stay_law old F id f same of)

    besides : (points : List (List ℤ)) (G : Features) → IsInserted points G → IfSome (row_with G.rows N.feature) (HasRow old new) → IsGridOf new G
    besides points G i has =
        subst (IsGridOf new) (sym i.is) (insert_law old new F i.row of (subst (λ o. IfSome o (HasRow old new)) (found_inserted below points G i) has))

    in_place : (id base : ℕ) (G : Features) → IsChanged id G → no_row F.rows id base ≡ None
        → IfSome (row_with F.rows id) (λ r. IfSome (row_with G.rows id) (HasInPlace old new r)) → IsGridOf new G
    in_place id base G c cause has =
        let r = there F.rows id base cause in
        let same : (r.0).id ≡ id = found_id F.rows id r.0 r.1 in
        let of_row : IfSome (row_with G.rows id) (HasInPlace old new r.0) = subst (λ o. IfSome o (λ r. IfSome (row_with G.rows id) (HasInPlace old new r))) r.1 has in
        let of_both : HasInPlace old new r.0 (c.change r.0) = subst (λ o. IfSome o (HasInPlace old new r.0)) (after_changed id G c ∙ ap (option_map c.change) r.1) of_row in
        subst (IsGridOf new) (ap (λ n. change_row F n c.change) same ∙ sym c.is)
        (replace_law old new F r.0 c.change apart (ap (row_with F.rows) same ∙ r.1) (c.keeps r.0) of of_both)

    taken_out : (id base : ℕ) → no_row F.rows id base ≡ None → IfSome (row_with F.rows id) (LacksRow old new) → IsGridOf new (without_row F id)
    taken_out id base cause has =
        let r = there F.rows id base cause in
        let same : (r.0).id ≡ id = found_id F.rows id r.0 r.1 in
        subst (IsGridOf new) (ap (without_row F) same) (remove_law old new F r.0 apart (ap (row_with F.rows) same ∙ r.1) of (subst (λ o. IfSome o (LacksRow old new)) r.1 has))

    pub grid_is : (e : Edit) → IsRowEdit e → refusal_of T.catalog F.rows e ≡ None
        → HasPorts e (row_with F.rows (row_of N.feature e)) (row_with (left e).rows (row_of N.feature e)) old new → IsGridOf new (left e)
    grid_is (edit.Insert kind points attrs flow ends note) word cause has =
        besides points (left (edit.Insert kind points attrs flow ends note)) (inserted kind points attrs flow ends note (none_refused (no_kind T.catalog kind) _ cause).0) has
    grid_is (edit.Reshape id base points) word cause has =
        in_place id base (left (edit.Reshape id base points)) (reshaped id base points) (none_refused (no_row F.rows id base) _ cause).0 has
    grid_is (edit.Attrs id base attrs) word cause has = stays id (λ r. record r { attrs = numbered T.catalog attrs; moment = N.moment }) (λ r. refl) has
    grid_is (edit.Kind id base kind) word cause has =
        let behind_row = none_refused (no_row F.rows id base) _ cause in
        in_place id base (left (edit.Kind id base kind)) (kind_changed id base kind (none_refused (no_kind T.catalog kind) _ behind_row.1).0) behind_row.0 has
    grid_is (edit.Path id base path) word cause has = stays id (on_path T.catalog N path) (λ r. refl) has
    grid_is (edit.Flow id base flow) word cause has = stays id (λ r. record r { flow = flow; moment = N.moment }) (λ r. refl) has
    grid_is (edit.Ends id base ends) word cause has = stays id (λ r. record r { ends = ends; moment = N.moment }) (λ r. refl) has
    grid_is (edit.Note id base note) word cause has = stays id (λ r. record r { note = note; moment = N.moment }) (λ r. refl) has
    grid_is (edit.Delete id base) word cause has = taken_out id base cause has
    grid_is _ word cause has = absurd word

-- ---- an edit and the two rows that were looked up

module _ (T : Setting) (N : Next) (F : Features) (below : All (λ r. r.id < N.feature) F.rows)
    (e : Edit) (word : IsRowEdit e) (cause : refusal_of T.catalog F.rows e ≡ None)
    (rows_left : List Row) (are : rows_left ≡ rows_after T.catalog N.feature N.moment F.rows e)
    (id : ℕ) (id_is : id ≡ row_of N.feature e)
    (before_row after_row : Option Row) (before_is : before_row ≡ row_with F.rows id) (after_is : after_row ≡ row_with rows_left id) where
  before_found : before_row ≡ row_with F.rows (row_of N.feature e)
  before_found = before_is ∙ ap (row_with F.rows) id_is

  after_found : after_row ≡ row_with (changed T N F e).rows (row_of N.feature e)
  after_found =
      let same : rows_left ≡ (changed T N F e).rows = are ∙ sym (rows_alone T N F e) in
      after_is ∙ (λ i. row_with (same i) (id_is i))

  pub all_rectangles_are : own_rectangles e before_row after_row ++ other_rectangles F e ≡ dirtied F e
  all_rectangles_are = (λ i. own_rectangles e (before_found i) (after_found i) ++ other_rectangles F e) ∙ rectangles_are T N F below e word cause

  pub grid_after : InsertLaw → RemoveLaw → ReplaceLaw → StayLaw → AllPairs (λ r s. r.id ≢ s.id) F.rows
      → (old new : List (Point × List Port)) → IsGridOf old F → HasPorts e before_row after_row old new → IsGridOf new (changed T N F e)
  grid_after insert_law remove_law replace_law stay_law apart old new of has =
      let ported : HasPorts e (row_with F.rows (row_of N.feature e)) (row_with (changed T N F e).rows (row_of N.feature e)) old new =
      subst (λ o. HasPorts e (row_with F.rows (row_of N.feature e)) o old new) after_found (subst (λ o. HasPorts e o after_row old new) before_found has) in
      grid_is T N F insert_law remove_law replace_law stay_law below apart old new of e word cause ported

-- ---- the rectangles of an edit of an association or of a controller

two_envelopes : (F : Features) (first second : ℕ) → flat_map (envelope_of F) (first ∷ second ∷ []) ≡ envelope_of F first ++ envelope_of F second
two_envelopes F first second = ap (λ l. envelope_of F first ++ l) (append-nil (envelope_of F second))

pub link_rectangles : (F : Features) (e : Edit) → IsLinkEdit e → own_rectangles e None None ++ other_rectangles F e ≡ dirtied F e
link_rectangles F (edit.Connect from to) word = two_envelopes F from.feature to.feature
link_rectangles F (edit.Contain container content) word = two_envelopes F container content
link_rectangles F (edit.Attach structure content) word = two_envelopes F structure content
link_rectangles F (edit.Detach assoc) word = go (association F assoc)
  where
    go : (o : Option Assoc) → flat_map (envelope_of F) (option_map_or (λ a. a.from.feature ∷ a.to.feature ∷ []) o [])
        ≡ option_map_or (λ a. envelope_of F a.from.feature ++ envelope_of F a.to.feature) o []
    go None = refl
    go (Some a) = two_envelopes F a.from.feature a.to.feature
link_rectangles F (edit.Controller id terminal tier subnet) word = append-nil (envelope_of F id)
link_rectangles F (edit.Uncontroller id terminal) word = append-nil (envelope_of F id)
link_rectangles F _ word = absurd word
