-- Each attribute of each row has a name, whatever edits are made; and what a row names by number is there.
use Rattle.std.proofs.Common.{◌≡◌, ℕ, ◌<◌, ◌==◌, ℤ, Bool, true, false, true≢false, List, [], ◌∷◌, ◌++◌, map, filter, filter_map, length, slice_get, Option, Some, None, IsSome, IfSome, option_map, option_and_then, refl, sym, subst, inl, inr, not, if◌then◌else◌}
use Rattle.std.specs.Option.{option_map_or, IsSomeAnd}
use Rattle.std.specs.Ordering.{nat_cmp}
use Rattle.std.proofs.lemmas.List.Quantifiers.{position-Some}
use Rattle.std.proofs.lemmas.Option.{get_or_from_slice_get}
use Rattle.un_schema.specs.declared.kind.Kind.{Kind}
use Rattle.un_schema.specs.Catalog.{Catalog, PathSet, kind_at, kind_named, config_of, place_of, same_text, path_names}
use Rattle.un_schema.specs.Sound.{IsCatalog, IsPathSet}
use Rattle.un_defs.specs.declared.row.Flow.{Flow}
use Rattle.un_defs.specs.declared.row.Row.{Row}
use Rattle.un_defs.specs.declared.edit.Edit.{Edit}
use Rattle.un_defs.specs.declared.edit.Edit.TheVariants as edit
use Rattle.un_defs.specs.Features.{Features, row}
use Rattle.un_defs.specs.Sound.{IsSound}
use Rattle.un_defs.specs.Change.{Setting, Next, changed, numbered, add_row, new_row, moved, of_kind, on_path}
use Rattle.un_defs.proofs.Rising.{Among, among_from-rising}
use Rattle.un_defs.proofs.Members.{among_cases, among_from-filter, among_from-map, among_from-filter_map}
use Rattle.un_defs.proofs.Unique.{from_all, from_find}
use Rattle.un_defs.proofs.LinkCases.{below_length, some_same}
use Rattle.un_defs.proofs.RowEdits.{touch}
use Rattle.un_defs.proofs.RowFacts.{fits, kind_lives}
use Rattle.un_defs.proofs.KeepsSound.{all_from}
use Rattle.un_facts.specs.Attributes.{HasAttributes, HaveAttributes, HasNames}

-- ---- attributes that are numbered by their names

place_inside : (name : List ℕ) (names : List (List ℕ)) (n : ℕ) → place_of name names ≡ Some n → n < length names
place_inside name names n e = (position-Some (same_text name) names n [] e).0

number_inside : (bound : ℕ) (o : Option ℕ) (v : ℤ) (pair : ℕ × ℤ) → option_map (λ n. (n, v)) o ≡ Some pair → ((n : ℕ) → o ≡ Some n → n < bound)
    → pair.0 < bound
number_inside bound None v pair e inside = let n : None ≡ Some pair = e in cc
number_inside bound (Some n) v pair e inside =
    let same : (n, v) ≡ pair = some_same (n, v) pair e in
    subst (λ p. p.0 < bound) same (inside n refl)

numbered_has : (S : Catalog) (attrs : List (List ℕ × ℤ)) → HasAttributes S (numbered S attrs)
numbered_has S attrs = all_from (λ pair. pair.0 < length S.attributes) (numbered S attrs) (λ pair i.
    let given = among_from-filter_map (λ pair. option_map (λ n. (n, pair.1)) (place_of pair.0 S.attributes)) attrs pair
    (among_from-rising (λ a b. nat_cmp a.0 b.0) (filter_map (λ pair. option_map (λ n. (n, pair.1)) (place_of pair.0 S.attributes)) attrs) pair i) in
    number_inside (length S.attributes) (place_of (given.0).0 S.attributes) (given.0).1 pair given.2 (λ n e. place_inside (given.0).0 S.attributes n e))

-- ---- the rows after an edit

module _ (S : Catalog) where
  abbrev Has : Row → Type 0
  Has r = HasAttributes S r.attrs

  one : (rows : List Row) → HaveAttributes S rows → (r : Row) → Among rows r → Has r
  one rows h r i = from_all Has rows h r i

  pushed : (rows : List Row) (new : Row) → HaveAttributes S rows → Has new → HaveAttributes S (rows ++ new ∷ [])
  pushed rows new h has = all_from Has (rows ++ new ∷ []) (λ r i.
      elim (among_cases rows (new ∷ []) r i) [
        | inl j ↦ one rows h r j
        | inr j ↦ elim j [ inl e ↦ subst Has e has | inr n ↦ absurd n ]
      ])

  fewer : (p : Row → Bool) (rows : List Row) → HaveAttributes S rows → HaveAttributes S (filter p rows)
  fewer p rows h = all_from Has (filter p rows) (λ r i. one rows h r (among_from-filter p rows r i).0)

  either : (b : Bool) (f : Row → Row) (r : Row) → Has r → Has (f r) → Has (if b then f r else r)
  either true f r h g = g
  either false f r h g = h

  touched : (id : ℕ) (f : Row → Row) (rows : List Row) → ((r : Row) → Has r → Has (f r)) → HaveAttributes S rows → HaveAttributes S (map (touch id f) rows)
  touched id f rows keeps h = all_from Has (map (touch id f) rows) (λ r i.
      let s = among_from-map (touch id f) rows r i in
      subst Has s.2 (either ((s.0).id == id) f s.0 (one rows h s.0 s.1) (keeps s.0 (one rows h s.0 s.1))))

module _ (T : Setting) (next : Next) (F : Features) where
  abbrev Have : Features → Type 0
  Have G = HaveAttributes T.catalog G.rows

  inserted : (points : List (List ℤ)) (attrs : List (List ℕ × ℤ)) (flow : Flow) (ends note : List ℕ) → Have F
      → (k : ℕ) (kd : Option Kind) → Have (option_map_or (λ kd. add_row F (new_row T.catalog next k kd points attrs flow ends note)) kd F)
  inserted points attrs flow ends note h k None = h
  inserted points attrs flow ends note h k (Some kd) =
      pushed T.catalog F.rows (new_row T.catalog next k kd points attrs flow ends note) h (numbered_has T.catalog attrs)

  insert_has : (points : List (List ℤ)) (attrs : List (List ℕ × ℤ)) (flow : Flow) (ends note : List ℕ) → Have F → (k : Option ℕ)
      → Have (option_map_or (λ k. option_map_or (λ kd. add_row F (new_row T.catalog next k kd points attrs flow ends note)) (kind_at T.catalog k) F) k F)
  insert_has points attrs flow ends note h None = h
  insert_has points attrs flow ends note h (Some k) = inserted points attrs flow ends note h k (kind_at T.catalog k)

  kind_has : (id : ℕ) → Have F → (k : Option ℕ) → Have (option_map_or (λ k. record F { rows = map (touch id (of_kind T.catalog next k)) F.rows }) k F)
  kind_has id h None = h
  kind_has id h (Some k) = touched T.catalog id (of_kind T.catalog next k) F.rows (λ r has. has) h

  tier_has : {A : Type 0} (f : A → Features) (o : Option A) → ((a : A) → (f a).rows ≡ F.rows) → Have F → Have (option_map_or f o F)
  tier_has f None same h = h
  tier_has f (Some a) same h = subst (HaveAttributes T.catalog) (sym (same a)) h

  pub changed_has : (e : Edit) → Have F → Have (changed T next F e)
  changed_has (edit.Insert kind points attrs flow ends note) h = insert_has points attrs flow ends note h (kind_named T.catalog kind)
  changed_has (edit.Reshape id base points) h = touched T.catalog id (moved next points) F.rows (λ r has. has) h
  changed_has (edit.Attrs id base attrs) h =
      touched T.catalog id (λ r. record r { attrs = numbered T.catalog attrs; moment = next.moment }) F.rows (λ r has. numbered_has T.catalog attrs) h
  changed_has (edit.Kind id base kind) h = kind_has id h (kind_named T.catalog kind)
  changed_has (edit.Path id base path) h = touched T.catalog id (on_path T.catalog next path) F.rows (λ r has. has) h
  changed_has (edit.Flow id base flow) h = touched T.catalog id (λ r. record r { flow = flow; moment = next.moment }) F.rows (λ r has. has) h
  changed_has (edit.Ends id base ends) h = touched T.catalog id (λ r. record r { ends = ends; moment = next.moment }) F.rows (λ r has. has) h
  changed_has (edit.Note id base note) h = touched T.catalog id (λ r. record r { note = note; moment = next.moment }) F.rows (λ r has. has) h
  changed_has (edit.Delete id base) h = fewer T.catalog (λ r. not (r.id == id)) F.rows h
  changed_has (edit.Connect from to) h = h
  changed_has (edit.Contain container content) h = h
  changed_has (edit.Attach structure content) h = h
  changed_has (edit.Detach assoc) h = h
  changed_has (edit.Controller id terminal tier subnet) h = tier_has _ (place_of tier T.tiers) (λ t. refl) h
  changed_has (edit.Uncontroller id terminal) h = h
  changed_has (edit.Rule rule) h = h

-- ---- what a row names by number

-- a path of a kind's configuration has a name
path_named : (S : Catalog) → IsCatalog S → (kind n : ℕ) → IsSomeAnd (config_of S kind) (λ c. IsSome (slice_get c.config.paths n)) → n < length (path_names S kind)
path_named S catalog kind n = of_kind (kind_at S kind)
  where
    inside : {A : Type 0} (xs : List A) (o : Option A) → slice_get xs n ≡ o → IsSome o → n < length xs
    inside xs None e h = absurd (true≢false (sym h))
    inside xs (Some x) e h = below_length xs n x e

    of_config : (i : ℕ) (o : Option PathSet) → slice_get S.configs i ≡ o → IsSomeAnd o (λ c. IsSome (slice_get c.config.paths n))
        → n < length (option_map_or (λ c. c.paths) o [])
    of_config i None e h = absurd h
    of_config i (Some c) e h =
        let set : IsPathSet c = subst IsPathSet (get_or_from_slice_get S.configs i c c e) (catalog.configs i c (below_length S.configs i c e)) in
        subst (λ count. n < count) (sym set.named) (inside c.config.paths (slice_get c.config.paths n) refl h)

    of_number : (o : Option ℕ) → IsSomeAnd (option_and_then (slice_get S.configs) o) (λ c. IsSome (slice_get c.config.paths n))
        → n < length (option_map_or (λ c. c.paths) (option_and_then (slice_get S.configs) o) [])
    of_number None h = absurd h
    of_number (Some i) h = of_config i (slice_get S.configs i) refl h

    of_kind : (o : Option Kind) → IsSomeAnd (option_and_then (λ k. option_and_then (slice_get S.configs) k.config) o) (λ c. IsSome (slice_get c.config.paths n))
        → n < length (option_map_or (λ c. c.paths) (option_and_then (λ k. option_and_then (slice_get S.configs) k.config) o) [])
    of_kind None h = absurd h
    of_kind (Some k) h = of_number k.config h

-- the schema of a state has what a row names by number
pub has_names : (S : Catalog) (F : Features) → IsCatalog S → IsSound S F → HaveAttributes S F.rows → (id : ℕ) (r : Row) → row F id ≡ Some r → HasNames S r
has_names S F catalog sound have id r e = record {
  kind = kind_lives S F sound id r e;
  path = path r.path (fits S F sound id r e).path;
  attributes = from_all (λ r. HasAttributes S r.attrs) F.rows have r (from_find (λ r. r.id == id) F.rows r e).0;
}
  where
    path : (o : Option ℕ) → IfSome o (λ path. IsSomeAnd (config_of S r.kind) (λ c. IsSome (slice_get c.config.paths path))) → IfSome o (λ path. path < length (path_names S r.kind))
    path None h = tt
    path (Some n) h = path_named S catalog r.kind n h
