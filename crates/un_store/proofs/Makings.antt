-- The rows that an insert leaves, that its row fits its kind, and that edits ask of a network no more than its rows.
use Rattle.std.proofs.Common.{◌≡◌, ℕ, zero, suc, ◌<◌, ◌≤◌, All, ℤ, List, [], ◌∷◌, ◌++◌, length, Option, Some, None, IfSome, IsSome, IsSomeAnd, IsTrue, refl, sym, ◌∙◌, ap, subst, true≢false, arith}
use Rattle.std.specs.Prelude.{slice_get, option_and_then}
use Rattle.std.specs.Option.{option_map, option_map_or}
use Rattle.std.specs.BTreeSet.{insert_key}
use Rattle.std.proofs.lemmas.List.{length-map}
use Rattle.std.proofs.lemmas.Option.{same_Some, get_or_from_slice_get, slice_get_within}
use Rattle.std.proofs.lemmas.List.Quantifiers.{position-Some}
use Rattle.un_geom.specs.Places.{point_of}
use Rattle.un_schema.specs.declared.kind.Class.{Class}
use Rattle.un_schema.specs.declared.kind.Class.TheVariants.{Device, Junction, Line, Assembly, Structure}
use Rattle.un_schema.specs.declared.kind.Kind.{Kind}
use Rattle.un_schema.specs.Catalog.{Catalog, PathSet, kind_at, kind_named, config_of, path_named, place_of, same_text}
use Rattle.un_defs.specs.declared.row.Flow.{Flow}
use Rattle.un_defs.specs.declared.row.Row.{Row}
use Rattle.un_defs.specs.declared.assoc.Controller.{Controller}
use Rattle.un_defs.specs.Result.{controller_cmp}
use Rattle.un_defs.specs.declared.edit.Edit.TheVariants as edit
use Rattle.un_defs.specs.Features.{Features, is_joint}
use Rattle.un_defs.specs.Sound.{FitsKind, least_points, most_points, terminals_by_class, terminals_of_kind}
use Rattle.un_defs.specs.Change.{new_row, add_row, moved, of_kind, on_path, first_path}
use Rattle.un_defs.specs.Laws.{NewFits, StillFits}
use Rattle.un_store.specs.Edits.{rows_after, next_of, only_rows, HasPaths, RowsAloneLaw, FitsAloneLaw}
use Rattle.un_store.specs.Keyed.{row_with}
use Rattle.un_store.proofs.Held.{all_found}

joint_has : (class : Class) (configured : ℕ) → 1 ≤ configured → IsTrue (is_joint class) → 1 ≤ terminals_by_class class configured
joint_has Device n h j = h
joint_has Junction n h j = omega arith
joint_has Line n h j = absurd (true≢false (sym j))
joint_has Assembly n h j = absurd (true≢false (sym j))
joint_has Structure n h j = absurd (true≢false (sym j))

terminals_are : (S : Catalog) (k : ℕ) (kind : Kind) → kind_at S k ≡ Some kind → terminals_of_kind S k ≡ terminals_by_class kind.class (option_map_or (λ c. c.config.terminals) (config_of S k) 1)
terminals_are S k kind h = ap (λ o. option_map_or (λ kd. terminals_by_class kd.class (option_map_or (λ c. c.config.terminals) (config_of S k) 1)) o 0) h

-- ---- the rows after an insert

module _ (S : Catalog) (id moment : ℕ) (name : List ℕ) (points : List (List ℤ)) (attrs : List (List ℕ × ℤ)) (flow : Flow) (ends note : List ℕ) (k : ℕ) (kind : Kind) where
  pub insert_leaves : (rows : List Row) → kind_named S name ≡ Some k → kind_at S k ≡ Some kind
      → rows_after S id moment rows (edit.Insert name points attrs flow ends note) ≡ rows ++ new_row S (next_of id moment) k kind points attrs flow ends note ∷ []
  insert_leaves rows e h =
      let F = only_rows rows in
      let make : ℕ → Kind → Features = λ k kind. add_row F (new_row S (next_of id moment) k kind points attrs flow ends note) in
      ap (λ o. (option_map_or (λ k. option_map_or (make k) (kind_at S k) F) o F).rows) e ∙ ap (λ o. (option_map_or (make k) o F).rows) h

  -- ---- the new row fits its kind

  pub new_fits : kind_named S name ≡ Some k → kind_at S k ≡ Some kind
      → 1 ≤ option_map_or (λ c. c.config.terminals) (config_of S k) 1
      → IfSome (first_path S k) (λ path. IsSomeAnd (config_of S k) (λ c. IsSome (slice_get c.config.paths path)))
      → least_points kind.class ≤ length points → length points ≤ most_points kind.class
      → NewFits S name (λ k kind. new_row S (next_of id moment) k kind points attrs flow ends note)
  new_fits e h some path enough few j named other is = subst (λ i. (c : Kind) → kind_at S i ≡ Some c → FitsKind S (new_row S (next_of id moment) i c points attrs flow ends note)) (same_Some k j (sym e ∙ named)) here other is
    where
      fits : FitsKind S (new_row S (next_of id moment) k kind points attrs flow ends note)
      fits = record {
        class = ap (option_map (λ kd. kd.class)) h;
        terminals = refl;
        terminal = λ joint. subst (λ n. 1 ≤ n) (sym (terminals_are S k kind h)) (joint_has kind.class (option_map_or (λ c. c.config.terminals) (config_of S k) 1) some joint);
        path = path;
        enough = let e = length-map points point_of in omega arith;
        few = let e = length-map points point_of in omega arith;
      }

      here : (c : Kind) → kind_at S k ≡ Some c → FitsKind S (new_row S (next_of id moment) k c points attrs flow ends note)
      here c at = subst (λ c. FitsKind S (new_row S (next_of id moment) k c points attrs flow ends note)) (same_Some kind c (sym h ∙ at)) fits

-- ---- a changed row fits its kind

pub all_at : {X : Type 0} (P : X → Type 0) (xs : List X) (i : ℕ) (x : X) → All P xs → slice_get xs i ≡ Some x → P x
all_at P xs i x all at = subst P (get_or_from_slice_get xs i x x at) (all i x (slice_get_within xs i x at))

pub some_at : {X : Type 0} (xs : List X) (i : ℕ) → i < length xs → IsSome (slice_get xs i)
some_at [] i h = absurd (omega arith)
some_at (x ∷ xs) zero h = refl
some_at (x ∷ xs) (suc i) h = some_at xs i (omega arith)

-- a path that is named by a configuration is one of it
path_is_there : (S : Catalog) (k : ℕ) (name : List ℕ) (path : ℕ) → HasPaths S → path_named S k name ≡ Some path
    → IsSomeAnd (config_of S k) (λ c. IsSome (slice_get c.config.paths path))
path_is_there S k name path has e = of_kind_at (kind_at S k) e
  where
    of_set : (c : PathSet) → length c.paths ≡ length c.config.paths → place_of name c.paths ≡ Some path → IsSome (slice_get c.config.paths path)
    of_set c same e =
        let within : path < length c.paths = (position-Some (same_text name) c.paths path [] e).0 in
        some_at c.config.paths path (omega arith)

    of_config : (o : Option PathSet) → ((c : PathSet) → o ≡ Some c → length c.paths ≡ length c.config.paths)
        → option_and_then (λ c. place_of name c.paths) o ≡ Some path → IsSomeAnd o (λ c. IsSome (slice_get c.config.paths path))
    of_config None all e = cc
    of_config (Some c) all e = of_set c (all c refl) e

    of_number : (o : Option ℕ) → option_and_then (λ c. place_of name c.paths) (option_and_then (slice_get S.configs) o) ≡ Some path
        → IsSomeAnd (option_and_then (slice_get S.configs) o) (λ c. IsSome (slice_get c.config.paths path))
    of_number None e = cc
    of_number (Some n) e = of_config (slice_get S.configs n) (λ c at. all_at (λ c. length c.paths ≡ length c.config.paths) S.configs n c has at) e

    of_kind_at : (o : Option Kind) → option_and_then (λ c. place_of name c.paths) (option_and_then (λ k. option_and_then (slice_get S.configs) k.config) o) ≡ Some path
        → IsSomeAnd (option_and_then (λ k. option_and_then (slice_get S.configs) k.config) o) (λ c. IsSome (slice_get c.config.paths path))
    of_kind_at None e = cc
    of_kind_at (Some k) e = of_number k.config e

module _ (S : Catalog) (id moment : ℕ) (rows : List Row) (fitting : All (FitsKind S) rows) (key : ℕ) (old : Row) (at : row_with rows key ≡ Some old) where
  was : FitsKind S old
  was = all_found (FitsKind S) rows key old fitting at

  still : (change : Row → Row) → FitsKind S (change old) → StillFits S (only_rows rows) key change
  still change fits r is = subst (λ r. FitsKind S (change r)) (same_Some old r (sym at ∙ is)) fits

  pub moved_fits : (points : List (List ℤ)) → least_points old.class ≤ length points → length points ≤ most_points old.class
      → StillFits S (only_rows rows) key (moved (next_of id moment) points)
  moved_fits points enough few = still (moved (next_of id moment) points) (record {
    class = was.class;
    terminals = was.terminals;
    terminal = was.terminal;
    path = was.path;
    enough = let e = length-map points point_of in omega arith;
    few = let e = length-map points point_of in omega arith;
  })

  pub kind_fits : (name : List ℕ) (k : ℕ) (kind : Kind) → kind_named S name ≡ Some k → kind_at S k ≡ Some kind → kind.class ≡ old.class
      → 1 ≤ option_map_or (λ c. c.config.terminals) (config_of S k) 1
      → IfSome (first_path S k) (λ path. IsSomeAnd (config_of S k) (λ c. IsSome (slice_get c.config.paths path)))
      → (j : ℕ) → kind_named S name ≡ Some j → StillFits S (only_rows rows) key (of_kind S (next_of id moment) j)
  kind_fits name k kind e h same some path j named = subst (λ i. StillFits S (only_rows rows) key (of_kind S (next_of id moment) i)) (same_Some k j (sym e ∙ named)) (still (of_kind S (next_of id moment) k) (record {
    class = ap (option_map (λ kd. kd.class)) h ∙ ap Some same;
    terminals = refl;
    terminal = λ joint. subst (λ n. 1 ≤ n) (sym (terminals_are S k kind h)) (joint_has kind.class (option_map_or (λ c. c.config.terminals) (config_of S k) 1) some (subst (λ c. IsTrue (is_joint c)) (sym same) joint));
    path = path;
    enough = was.enough;
    few = was.few;
  }))

  pub path_fits : (name : List ℕ) (path : ℕ) → HasPaths S → path_named S old.kind name ≡ Some path → StillFits S (only_rows rows) key (on_path S (next_of id moment) name)
  path_fits name path has e = still (on_path S (next_of id moment) name) (record {
    class = was.class;
    terminals = was.terminals;
    terminal = was.terminal;
    path = subst (λ o. IfSome o (λ path. IsSomeAnd (config_of S old.kind) (λ c. IsSome (slice_get c.config.paths path)))) (sym e) (path_is_there S old.kind name path has e);
    enough = was.enough;
    few = was.few;
  })

-- ---- the rows alone

-- one choice over two networks
both : {A : Type 0} (o : Option A) (f g : A → Features) (F G : Features) → ((a : A) → (f a).rows ≡ (g a).rows) → F.rows ≡ G.rows → (option_map_or f o F).rows ≡ (option_map_or g o G).rows
both None f g F G h e = e
both (Some a) f g F G h e = h a

-- a choice of controllers keeps the rows
keeps : (o : Option ℕ) (some : ℕ → List Controller) (F : Features) → (option_map_or (λ t. record F { controllers = some t }) o F).rows ≡ F.rows
keeps None some F = refl
keeps (Some t) some F = refl

pub rows_alone : RowsAloneLaw
rows_alone T next F (edit.Insert kind points attrs flow ends note) =
    let G = only_rows F.rows in
    both (kind_named T.catalog kind) _ _ F G (λ k. both (kind_at T.catalog k) _ _ F G (λ kd. refl) refl) refl
rows_alone T next F (edit.Reshape id base points) = refl
rows_alone T next F (edit.Attrs id base attrs) = refl
rows_alone T next F (edit.Kind id base kind) = both (kind_named T.catalog kind) _ _ F (only_rows F.rows) (λ k. refl) refl
rows_alone T next F (edit.Path id base path) = refl
rows_alone T next F (edit.Flow id base flow) = refl
rows_alone T next F (edit.Ends id base ends) = refl
rows_alone T next F (edit.Note id base note) = refl
rows_alone T next F (edit.Delete id base) = refl
rows_alone T next F (edit.Connect from to) = refl
rows_alone T next F (edit.Contain container content) = refl
rows_alone T next F (edit.Attach structure content) = refl
rows_alone T next F (edit.Detach assoc) = refl
rows_alone T next F (edit.Controller id terminal tier subnet) =
    let G = only_rows F.rows in
    let put : List Controller → ℕ → List Controller = λ cs t. insert_key controller_cmp cs (record { port = record { feature = id; number = terminal }; tier = t; subnet = subnet }) in
    keeps (place_of tier T.tiers) (put F.controllers) F ∙ sym (keeps (place_of tier []) (put []) G)
rows_alone T next F (edit.Uncontroller id terminal) = refl
rows_alone T next F (edit.Rule rule) = refl

pub fits_alone : FitsAloneLaw
fits_alone T next F (edit.Insert kind points attrs flow ends note) of_row fits = fits
fits_alone T next F (edit.Reshape id base points) of_row fits = fits
fits_alone T next F (edit.Attrs id base attrs) of_row fits = absurd of_row
fits_alone T next F (edit.Kind id base kind) of_row fits = fits
fits_alone T next F (edit.Path id base path) of_row fits = fits
fits_alone T next F (edit.Flow id base flow) of_row fits = absurd of_row
fits_alone T next F (edit.Ends id base ends) of_row fits = absurd of_row
fits_alone T next F (edit.Note id base note) of_row fits = absurd of_row
fits_alone T next F (edit.Delete id base) of_row fits = absurd of_row
fits_alone T next F (edit.Connect from to) of_row fits = absurd of_row
fits_alone T next F (edit.Contain container content) of_row fits = absurd of_row
fits_alone T next F (edit.Attach structure content) of_row fits = absurd of_row
fits_alone T next F (edit.Detach assoc) of_row fits = absurd of_row
fits_alone T next F (edit.Controller id terminal tier subnet) of_row fits = absurd of_row
fits_alone T next F (edit.Uncontroller id terminal) of_row fits = absurd of_row
fits_alone T next F (edit.Rule rule) of_row fits = absurd of_row
