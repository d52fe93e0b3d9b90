-- Values of JSON as replies have them.
use Rattle.std.specs.Prelude.{ℕ, ℤ, List, [], ◌∷◌}
use Rattle.serde_json.specs.Data.{Data, number, unsigned, array, object, Items, no_items, item, Members, no_members, member, put}
use Rattle.serde_json.specs.Find.{of_integer}

-- a whole number from 0, and any whole number, each in all its digits
abbrev pub count : ℕ → Data
count n = number (unsigned n)

abbrev pub whole : ℤ → Data
whole z = number (of_integer z)

-- a list of values
abbrev pub items_of : {A : Type 0} → (A → Data) → List A → Items
items_of f [] = no_items
items_of f (x ∷ xs) = item (f x) (items_of f xs)

abbrev pub list : {A : Type 0} → (A → Data) → List A → Data
list f xs = array (items_of f xs)

abbrev pub tuple : List Data → Data
tuple = list (λ d. d)

abbrev pub counts : List ℕ → Data
counts = list count

-- members, in byte order of their names
abbrev pub in_order : List (List ℕ × Data) → Members
in_order [] = no_members
in_order (m ∷ ms) = put m.0 m.1 (in_order ms)

abbrev pub object_of : List (List ℕ × Data) → Data
object_of ms = object (in_order ms)

-- members as they come
abbrev pub members_of : List (List ℕ × Data) → Members
members_of [] = no_members
members_of (m ∷ ms) = member m.0 m.1 (members_of ms)

-- a member that is a whole number
abbrev pub attribute : List ℕ × ℤ → List ℕ × Data
attribute (name, value) = (name, whole value)
