-- What is in what. Every live containment counts, whether a rule permits it or not.
use Rattle.std.specs.Prelude.{ℕ, zero, suc, ◌==◌, Bool, ◌&&◌, List, [], ◌∷◌, find, filter, length, Option}
use Rattle.std.specs.Option.{option_map, option_map_or}
use Rattle.un_defs.specs.declared.assoc.Assoc.{Assoc}
use Rattle.un_defs.specs.Star.{is_containment}

-- the association says that the row with this id is in a container
abbrev pub is_content : ℕ → Assoc → Bool
is_content id a = is_containment a.sort && (a.to.feature == id)

-- the association says that something is in the row with this id
abbrev pub is_container : ℕ → Assoc → Bool
is_container id a = is_containment a.sort && (a.from.feature == id)

-- the id of the container of a row
abbrev pub container_of : List Assoc → ℕ → Option ℕ
container_of associations id = option_map (λ a. a.from.feature) (find (is_content id) associations)

-- how many contents a row has
abbrev pub contents_count : List Assoc → ℕ → ℕ
contents_count associations id = length (filter (is_container id) associations)

-- what is above a row, what is above that and so on, at most n of them
abbrev pub chain_of : ℕ → (ℕ → Option ℕ) → ℕ → List ℕ
chain_of zero above id = []
chain_of (suc n) above id = option_map_or (λ c. c ∷ chain_of n above c) (above id) []

-- the containers above a row: each takes an association of its own, so there are no more of them than associations
abbrev pub containers_above : List Assoc → ℕ → List ℕ
containers_above associations = chain_of (length associations) (container_of associations)
