-- The paths of a device by its configuration.
use Rattle.std.proofs.Common.{◌≡◌, ℕ, ◌<◌, Bool, true, false, not, ◌&&◌, ◌||◌, if◌then◌else◌, List, [], length, flat_map, refl, ap, ◌∙◌, subst, Option, Some, None, nat_lt, slice_get, IfSome, IsSomeAnd, IsSome}
use Rattle.std.specs.Option.{option_map, option_map_or}
use Rattle.un_terms.specs.Config.{Config, has_pair, path_pairs}
use Rattle.un_schema.specs.Catalog.{Catalog, PathSet, config_of, directional, pairs_of_path}
use Rattle.un_defs.specs.declared.link.LinkName.TheVariants.{Path}
use Rattle.un_defs.specs.declared.port.Node.{Node}
use Rattle.un_defs.specs.declared.row.Row.{Row}
use Rattle.un_defs.specs.Features.{Features, row}
use Rattle.un_defs.specs.Ports.{node_of}
use Rattle.un_defs.specs.Sound.{IsSound}
use Rattle.un_defs.specs.Links.{Link, link_of, path_link, has_path, flows_from_to, current_path, terminals_of, ties_by, is_device}
use Rattle.un_defs.proofs.LinkCases.{below_length, some_same}
use Rattle.un_defs.proofs.ListLemmas.{flat_map-none}
use Rattle.un_star.specs.Links.{path_ties, path_between, path_link_by, path_ties_by}
use Rattle.un_defs.proofs.RowFacts.{fits}

-- ---- where there is no path

and_false : (b : Bool) → (b && false) ≡ false
and_false true = refl
and_false false = refl

module _ (S : Catalog) (r : Row) (none : current_path S r ≡ []) where
  no_link : (a b : ℕ) → path_link S r a b ≡ []
  no_link a b = λ i. if shut i then link_of (Path r.id a b) (flows_from_to S r a b) (flows_from_to S r b a) (node_of r a) (node_of r b) else []
    where
      shut : has_path S r a b ≡ false
      shut = ap (λ P. nat_lt a b && (has_pair P a b || has_pair P b a)) none ∙ and_false (nat_lt a b)

  no_link_between : (a b : ℕ) → path_between S r a b ≡ []
  no_link_between a b = either (nat_lt a b)
    where
      either : (t : Bool) → (if t then path_link S r a b else path_link S r b a) ≡ []
      either true = no_link a b
      either false = no_link b a

  pub no_ties_by_paths : (n : Node) → path_ties S n r ≡ []
  no_ties_by_paths n = either (is_device r.class)
    where
      either : (t : Bool) → (if t then flat_map (λ b. flat_map (ties_by n) (path_between S r n.port.number b)) (terminals_of r) else []) ≡ []
      either true = flat_map-none _ (terminals_of r) (λ b _. ap (flat_map (ties_by n)) (no_link_between n.port.number b))
      either false = refl

pub without_path : (S : Catalog) (r : Row) → r.path ≡ None → current_path S r ≡ []
without_path S r e = ap (λ o. option_map_or (pairs_of_path S r.kind) o []) e

pub without_config : (S : Catalog) (r : Row) → option_map (λ (c : PathSet). c.config) (config_of S r.kind) ≡ None → current_path S r ≡ []
without_config S r e = by_path r.path
  where
    pairs : (o : Option PathSet) → option_map (λ (c : PathSet). c.config) o ≡ None → (n : ℕ) → option_map_or (λ c. path_pairs c.config n) o [] ≡ []
    pairs None e n = refl
    pairs (Some c) e n = cc

    by_path : (o : Option ℕ) → option_map_or (pairs_of_path S r.kind) o [] ≡ []
    by_path None = refl
    by_path (Some n) = pairs (config_of S r.kind) e n

-- ---- where there is one

-- the link is there alike, and flow goes alike: x and y say that the path has the pair and its reverse
same_flow : (F : Bool → Bool → List Link) (lower x y d : Bool)
    → (if lower && (x || y) then F (not d || x) (not d || y) else [])
    ≡ (if lower && ((x || (not d && y)) || (y || (not d && x))) then F (x || (not d && y)) (y || (not d && x)) else [])
same_flow F false x y d = refl
same_flow F true true true true = refl
same_flow F true true true false = refl
same_flow F true true false true = refl
same_flow F true true false false = refl
same_flow F true false true true = refl
same_flow F true false true false = refl
same_flow F true false false true = refl
same_flow F true false false false = refl

config_facts : (o : Option PathSet) (c : Config) → option_map (λ (c : PathSet). c.config) o ≡ Some c
    → (n : ℕ) → (option_map_or (λ s. s.config.directional) o false ≡ c.directional) × (option_map_or (λ s. path_pairs s.config n) o [] ≡ path_pairs c n)
config_facts None c e n = cc
config_facts (Some s) c e n = let same : s.config ≡ c = some_same _ _ e in (ap (λ c. c.directional) same, ap (λ c. path_pairs c n) same)

module _ (S : Catalog) (r : Row) (n : ℕ) (c : Config) (path : r.path ≡ Some n) (config : option_map (λ (c : PathSet). c.config) (config_of S r.kind) ≡ Some c) where
  link_same : (a b : ℕ) → path_link S r a b ≡ path_link_by c n r a b
  link_same a b =
      (λ i. if nat_lt a b && (has_pair (pairs i) a b || has_pair (pairs i) b a)
      then link_of (Path r.id a b) (not (direction i) || has_pair (pairs i) a b) (not (direction i) || has_pair (pairs i) b a) (node_of r a) (node_of r b) else [])
      ∙ same_flow (λ along against. link_of (Path r.id a b) along against (node_of r a) (node_of r b)) (nat_lt a b) (has_pair (path_pairs c n) a b) (has_pair (path_pairs c n) b a) c.directional
    where
      direction : directional S r.kind ≡ c.directional
      direction = (config_facts (config_of S r.kind) c config n).0

      pairs : current_path S r ≡ path_pairs c n
      pairs = ap (λ o. option_map_or (pairs_of_path S r.kind) o []) path ∙ (config_facts (config_of S r.kind) c config n).1

  pub ties_by_path : (m : Node) → is_device r.class ≡ true → path_ties S m r ≡ path_ties_by c n m r
  ties_by_path m device =
      (λ i. if device i then flat_map (λ b. flat_map (ties_by m) (if nat_lt m.port.number b then link_same m.port.number b i else link_same b m.port.number i)) (terminals_of r) else [])

-- the path of a row is one of its configuration
pub path_lives : (S : Catalog) (F : Features) → IsSound S F → (id : ℕ) (r : Row) → row F id ≡ Some r → (n : ℕ) (c : Config) → r.path ≡ Some n
    → option_map (λ (c : PathSet). c.config) (config_of S r.kind) ≡ Some c → n < length c.paths
path_lives S F sound id r e n c path config =
    go (config_of S r.kind) config (subst (λ o. IfSome o (λ path. IsSomeAnd (config_of S r.kind) (λ c. IsSome (slice_get c.config.paths path)))) path (fits S F sound id r e).path)
  where
    here : {A : Type 0} (xs : List A) → IsSome (slice_get xs n) → n < length xs
    here xs h = at (slice_get xs n) refl h
      where
        at : (o : Option _) → slice_get xs n ≡ o → IsSome o → n < length xs
        at None e h = cc
        at (Some x) e h = below_length xs n x e

    go : (o : Option PathSet) → option_map (λ (c : PathSet). c.config) o ≡ Some c → IsSomeAnd o (λ c. IsSome (slice_get c.config.paths n)) → n < length c.paths
    go None e h = cc
    go (Some s) e h = subst (λ (c : Config). n < length c.paths) (some_same s.config c e) (here s.config.paths h)
