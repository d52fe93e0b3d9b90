-- What the router finds fits the path: where the pattern of a route has no parameter, the path is that pattern.
use Rattle.std.proofs.Common.{◌≡◌, ◌⊎◌, inl, inr, ℕ, zero, suc, ◌-◌, ◌≤◌, Bool, true, false, cond, List, ◌∷◌, [], refl, sym, ◌∙◌, ap, subst, length, arith, Option, Some, None, codes}
use Rattle.std.specs.Prelude.{◌==◌, nat_lt}
use Rattle.std.specs.List.{list_all}
use Rattle.std.specs.Str.{is_utf8}
use Rattle.std.proofs.lemmas.Bool.Decides.{nat_tests}
use Rattle.matchit.specs.Rows.{RowsOf, param_token, catch_all_token}
use Rattle.matchit.specs.Seek.{segment, has_slash, same_text, longest_suffix, with_suffix, step, own, or_else, param_step, seek, first}
use Rattle.matchit.specs.Router.{RouteOf, map_key}
use Rattle.un_http.specs.declared.kind.Kind.{Kind}
use Rattle.un_http.specs.declared.kind.Kind.TheVariants.{Commands, Queries, Version, Feature, Subnetwork}
use Rattle.un_http.specs.Table.{table, commands_row, queries_row, version_row, feature_row, subnetwork_row}
use Rattle.un_http.specs.Kinds.{kind_at}

-- the path is the pattern up to its first parameter
abbrev Fits : List ℕ → List ℕ → Type 0
Fits [] path = path ≡ []
Fits (token ∷ pattern) path = ((rest : List ℕ) × ((path ≡ token ∷ rest) × Fits pattern rest)) ⊎ (256 ≤ token)

-- a path that fits a pattern without parameters is the pattern
plain_fits : (pattern path : List ℕ) → list_all (λ token. nat_lt token 256) pattern ≡ true → Fits pattern path → path ≡ pattern
plain_fits [] path plain fits = fits
plain_fits (token ∷ pattern) path plain (inl f) = f.1.0 ∙ ap (λ rest. token ∷ rest) (plain_fits pattern f.0 (grind (arith, nat_tests, plain)) f.1.1)
plain_fits (token ∷ pattern) path plain (inr wild) = absurd (grind (arith, nat_tests, plain, wild))

module _ {K : Type 0} where
  -- the rows have this one
  abbrev Has : RowsOf K → List ℕ → K → Type 0
  Has [] pattern key = ⊥
  Has ((tail, found) ∷ rows) pattern key = ((tail ≡ pattern) × (found ≡ key)) ⊎ Has rows pattern key

  some_same : {x y : K} → Some x ≡ Some y → x ≡ y
  some_same e = cc

  own_has : (rows : RowsOf K) (key : K) → own rows ≡ Some key → Has rows [] key
  own_has [] key e = absurd (none_some e)
    where
      none_some : None ≡ Some key → ⊥
      none_some h = cc
  own_has (([], found) ∷ rows) key e = inl (refl, some_same e)
  own_has ((_ ∷ _, _) ∷ rows) key e = inr (own_has rows key e)

  -- where some rows are among others, so are they with one row more
  with_first : (tail : List ℕ) (found : K) (some rows : RowsOf K) (pattern : List ℕ) (key : K) → (Has some pattern key → Has rows pattern key)
      → Has ((tail, found) ∷ some) pattern key → Has ((tail, found) ∷ rows) pattern key
  with_first tail found some rows pattern key among (inl here) = inl here
  with_first tail found some rows pattern key among (inr later) = inr (among later)

  with_token : (x b : ℕ) (tail : List ℕ) (found : K) (some rows : RowsOf K) (pattern : List ℕ) (key : K) → x ≡ b → (Has some pattern key → Has rows (b ∷ pattern) key)
      → Has ((tail, found) ∷ some) pattern key → Has ((x ∷ tail, found) ∷ rows) (b ∷ pattern) key
  with_token x b tail found some rows pattern key same among (inl here) =
      let tails : tail ≡ pattern = here.0 in
      inl (cc, here.1)
  with_token x b tail found some rows pattern key same among (inr later) = inr (among later)

  step_has : (b : ℕ) (rows : RowsOf K) (pattern : List ℕ) (key : K) → Has (step b rows) pattern key → Has rows (b ∷ pattern) key
  step_has b [] pattern key h = h
  step_has b (([], found) ∷ rows) pattern key h = inr (step_has b rows pattern key h)
  step_has b ((x ∷ tail, found) ∷ rows) pattern key h =
      let among = step_has b rows pattern key in
      let P : Bool → Type 0 = λ same. (x == b) ≡ same → Has (cond same ((tail, found) ∷ step b rows) (step b rows)) pattern key → Has ((x ∷ tail, found) ∷ rows) (b ∷ pattern) key in
      elim (x == b) as (λ same. P same) [
        | true ↦ λ is. with_token x b tail found (step b rows) rows pattern key (grind (arith, nat_tests, is)) among
        | false ↦ λ is h. inr (among h)
      ] refl h

  suffix_has : (suffix : List ℕ) (rows : RowsOf K) (pattern : List ℕ) (key : K) → Has (with_suffix suffix rows) pattern key → Has rows pattern key
  suffix_has suffix [] pattern key h = h
  suffix_has suffix ((tail, found) ∷ rows) pattern key h =
      let among = suffix_has suffix rows pattern key in
      let P : Bool → Type 0 = λ same. Has (cond same ((tail, found) ∷ with_suffix suffix rows) (with_suffix suffix rows)) pattern key → Has ((tail, found) ∷ rows) pattern key in
      elim (same_text (segment tail) suffix) as (λ same. P same) [
        | true ↦ with_first tail found (with_suffix suffix rows) rows pattern key among
        | false ↦ λ h. inr (among h)
      ] h

  param_has : (rows : RowsOf K) (path : List ℕ) (pattern : List ℕ) (key : K) → Has (param_step rows path).1 pattern key → Has rows pattern key
  unfolding param_step
  param_has rows path pattern key h =
      let cut = longest_suffix (segment path) rows in
      let plain : ℕ × RowsOf K = cond (has_slash path) (0, []) (length path, rows) in
      let suffixed : ℕ × RowsOf K = (length (segment path) - length cut, with_suffix cut rows) in
      let Slashed : Bool → Type 0 = λ slashed. Has (cond {A = ℕ × RowsOf K} slashed (0, []) (length path, rows)).1 pattern key → Has rows pattern key in
      let Cut : Bool → Type 0 = λ some. Has (cond {A = ℕ × RowsOf K} some suffixed plain).1 pattern key → Has rows pattern key in
      let by_slash = elim (has_slash path) as (λ slashed. Slashed slashed) [ true ↦ λ h. absurd h | false ↦ λ h. h ] in
      elim (nat_lt 0 (length cut)) as (λ some. Cut some) [ true ↦ suffix_has cut rows pattern key | false ↦ by_slash ] h

  -- a row of these with this key, which the path fits where no byte is skipped
  record Found (skip : ℕ) (rows : RowsOf K) (path : List ℕ) (key : K) : Type 0 where
    pub pattern : List ℕ
    pub has : Has rows pattern key
    pub fits : skip ≡ 0 → Fits pattern path

  by_byte : (b : ℕ) (rows : RowsOf K) (path : List ℕ) (key : K) → Found 0 (step b rows) path key → Found 0 rows (b ∷ path) key
  by_byte b rows path key f =
      record { pattern = b ∷ f.pattern; has = step_has b rows f.pattern key f.has; fits = λ _. inl (path, (refl, f.fits refl)) }

  by_param : (skip b : ℕ) (rows : RowsOf K) (path : List ℕ) (key : K) → Found skip (param_step (step param_token rows) (b ∷ path)).1 path key → Found 0 rows (b ∷ path) key
  by_param skip b rows path key f =
      let has = step_has param_token rows f.pattern key (param_has (step param_token rows) (b ∷ path) f.pattern key f.has) in
      record { pattern = param_token ∷ f.pattern; has = has; fits = λ _. inr (omega arith) }

  by_catch_all : (b : ℕ) (rows : RowsOf K) (path : List ℕ) (key : K) → own (step catch_all_token rows) ≡ Some key → Found 0 rows (b ∷ path) key
  by_catch_all b rows path key e =
      record { pattern = catch_all_token ∷ []; has = step_has catch_all_token rows [] key (own_has (step catch_all_token rows) key e); fits = λ _. inr (omega arith) }

  -- the first of two answers that there is
  first_of : (one other : Option K) (key : K) (P : Type 0) → (one ≡ Some key → P) → (other ≡ Some key → P) → or_else one other ≡ Some key → P
  first_of None other key P f g e = g e
  first_of (Some found) other key P f g e = f e

  seek_found : (skip : ℕ) (rows : RowsOf K) (path : List ℕ) (key : K) → seek skip rows path ≡ Some key → Found skip rows path key
  unfolding seek
  seek_found skip rows [] key e = record { pattern = []; has = own_has rows key e; fits = λ _. refl }
  seek_found (suc skip) rows (b ∷ path) key e =
      let f = seek_found skip rows path key e in
      record { pattern = f.pattern; has = f.has; fits = λ none. absurd (omega (arith, none)) }
  seek_found zero rows (b ∷ path) key e =
      let jump = param_step (step param_token rows) (b ∷ path) in
      let Here : Type 0 = Found 0 rows (b ∷ path) key in
      let literal = λ (h : seek 0 (step b rows) path ≡ Some key). by_byte b rows path key (seek_found 0 (step b rows) path key h) in
      let param = λ (h : seek (jump.0 - 1) jump.1 path ≡ Some key). by_param (jump.0 - 1) b rows path key (seek_found (jump.0 - 1) jump.1 path key h) in
      let catch_all = by_catch_all b rows path key in
      first_of (seek 0 (step b rows) path) (or_else (seek (jump.0 - 1) jump.1 path) (own (step catch_all_token rows))) key Here literal
      (first_of (seek (jump.0 - 1) jump.1 path) (own (step catch_all_token rows)) key Here param catch_all) e

-- the pattern of each kind
abbrev pattern_of : Kind → List ℕ
pattern_of Commands = commands_row.0
pattern_of Queries = queries_row.0
pattern_of Version = version_row.0
pattern_of Feature = feature_row.0
pattern_of Subnetwork = subnetwork_row.0

-- each row of the table has the pattern of its kind
table_patterns : (pattern : List ℕ) (route : RouteOf Kind) → Has table pattern route → pattern_of route.value ≡ pattern
table_patterns pattern route (inl row) = ap (λ r. pattern_of r.value) (sym row.1) ∙ row.0
table_patterns pattern route (inr (inl row)) = ap (λ r. pattern_of r.value) (sym row.1) ∙ row.0
table_patterns pattern route (inr (inr (inl row))) = ap (λ r. pattern_of r.value) (sym row.1) ∙ row.0
table_patterns pattern route (inr (inr (inr (inl row)))) = ap (λ r. pattern_of r.value) (sym row.1) ∙ row.0
table_patterns pattern route (inr (inr (inr (inr (inl row))))) = ap (λ r. pattern_of r.value) (sym row.1) ∙ row.0
table_patterns pattern route (inr (inr (inr (inr (inr none))))) = absurd none

-- what the router finds under a kind
route_found : (path : List ℕ) (kind : Kind) (found : Option (RouteOf Kind)) → first table path ≡ found → map_key (λ route. route.value) found ≡ Some kind → Fits (pattern_of kind) path
route_found path kind None is e = absurd (none_some e)
  where
    none_some : None ≡ Some kind → ⊥
    none_some h = cc
route_found path kind (Some route) is e =
    let f = seek_found 0 table path route is in
    let same : route.value ≡ kind = some_same e in
    subst (λ pattern. Fits pattern path) (sym (table_patterns f.pattern route f.has) ∙ ap pattern_of same) (f.fits refl)

kind_fits : (path : List ℕ) (kind : Kind) → kind_at path ≡ Some kind → Fits (pattern_of kind) path
kind_fits path kind e =
    elim (is_utf8 path) as (λ text. cond text (map_key (λ route. route.value) (first table path)) None ≡ Some kind → Fits (pattern_of kind) path) [
      | true ↦ λ h. route_found path kind (first table path) refl h
      | false ↦ λ h. absurd (none_some h)
    ] e
  where
    none_some : None ≡ Some kind → ⊥
    none_some h = cc

pub is_commands : (path : List ℕ) → Some Commands ≡ kind_at path → path ≡ codes "/commands"
is_commands path e = plain_fits (codes "/commands") path refl (kind_fits path Commands (sym e))

pub is_queries : (path : List ℕ) → Some Queries ≡ kind_at path → path ≡ codes "/queries"
is_queries path e = plain_fits (codes "/queries") path refl (kind_fits path Queries (sym e))

pub is_version : (path : List ℕ) → Some Version ≡ kind_at path → path ≡ codes "/version"
is_version path e = plain_fits (codes "/version") path refl (kind_fits path Version (sym e))
