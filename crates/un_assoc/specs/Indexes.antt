-- What the indexes of associations hold.
use Rattle.std.specs.Prelude.{◌≡◌, ℕ, ◌==◌, List, map, filter, unwrap_or, option_to_list}
use Rattle.std.specs.Ordering.{nat_cmp}
use Rattle.std.specs.List.Sorted.{IsStrictlySortedBy}
use Rattle.std.specs.Map.{keys_of, values_of, lookup}
use Rattle.std.specs.BTreeMap.{is_at}
use Rattle.un_defs.specs.declared.assoc.Assoc.{Assoc}
use Rattle.un_defs.specs.Features.{is_end_of}
use Rattle.un_assoc.specs.declared.ends.End.{End}
use Rattle.un_assoc.specs.Containing.{is_content, contents_count}

-- the keys of some pairs are those of their values
abbrev pub AreKeyed : {K V : Type 0} → (V → K) → List (K × V) → Type 0
AreKeyed key pairs = keys_of pairs ≡ map key (values_of pairs)

-- the ids of associations
abbrev pub ids_of : List Assoc → List ℕ
ids_of associations = map (λ a. a.id) associations

-- the ids of the associations rise
abbrev pub IsRising : List Assoc → Type 0
IsRising associations = IsStrictlySortedBy nat_cmp (ids_of associations)

-- ---- by their ends

-- the associations at one feature
abbrev pub at_feature : ℕ → List (End × Assoc) → List Assoc
at_feature id pairs = values_of (filter (λ p. p.0.feature == id) pairs)

-- each feature has the associations of which it is an end, and each stands under its own id
pub record AreEnds (pairs : List (End × Assoc)) (associations : List Assoc) : Type 0 where
  pub ends : (id : ℕ) → at_feature id pairs ≡ filter (is_end_of id) associations
  pub ids : map (λ p. p.0.assoc) pairs ≡ map (λ p. p.1.id) pairs

-- ---- by containers

-- the container of a row, of pairs of content and container
abbrev pub container_in : List (ℕ × ℕ) → ℕ → List ℕ
container_in containers id = option_to_list (lookup (is_at (nat_cmp id)) containers)

-- how many contents a row has, of pairs of container and count
abbrev pub count_in : List (ℕ × ℕ) → ℕ → ℕ
count_in counts id = unwrap_or (lookup (is_at (nat_cmp id)) counts) 0

-- each content is in one container, which stands beside it; and beside each container stands how many contents it has
pub record AreContained (by_content by_container : List (ℕ × ℕ)) (associations : List Assoc) : Type 0 where
  pub containers : (id : ℕ) → map (λ a. a.from.feature) (filter (is_content id) associations) ≡ container_in by_content id
  pub counts : (id : ℕ) → contents_count associations id ≡ count_in by_container id

-- ---- all

-- the indexes are those of the associations
pub record AreIndexed (by_end : List (End × Assoc)) (by_content by_container : List (ℕ × ℕ)) (associations : List Assoc) : Type 0 where
  pub ends : AreEnds by_end associations
  pub contained : AreContained by_content by_container associations
