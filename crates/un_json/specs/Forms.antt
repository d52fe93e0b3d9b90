-- The forms that the values of members may have: what a JSON value is, if it has the form.
use Rattle.std.specs.Prelude.{ℕ, ℤ, pos, negsuc, int_le, nat_le, Bool, true, false, ◌&&◌, ◌==◌, List, [], ◌∷◌, length, Option, None, Some, option_and_then, option_map, is_some, if◌then◌else◌, codes}
use Rattle.std.specs.List.{list_all}
use Rattle.std.specs.Str.{bytes_eq}
use Rattle.serde_json.specs.Data.{Data, null, boolean, number, string, array, object, Items, no_items, item, Members, no_members, member}
use Rattle.serde_json.specs.Find.{as_str, as_null, as_number, as_u64, as_i64, as_array, as_object}
use Rattle.un_geom.specs.declared.point.Point.{Point}
use Rattle.un_geom.specs.Rectangle.{Rectangle, rectangle}
use Rattle.un_geom.specs.Places.{in_range}
use Rattle.un_schema.specs.Names.{is_name}
use Rattle.un_conds.specs.Conditions.{Condition, Has, Test, And, Or, Not}
use Rattle.un_conds.specs.declared.op.Op.{Op}
use Rattle.un_conds.specs.declared.op.Op.TheVariants as op
use Rattle.un_defs.specs.declared.port.Port.{Port}
use Rattle.un_defs.specs.declared.row.Flow.{Flow}
use Rattle.un_defs.specs.declared.row.Flow.TheVariants.{With, Against, Both}
use Rattle.un_ask.specs.declared.trace.TraceKind.{TraceKind}
use Rattle.un_ask.specs.Words.{trace_named}
use Rattle.un_ask.specs.declared.trace.Include.{Include}
use Rattle.un_ask.specs.declared.trace.NamedFunc.{NamedFunc}
use Rattle.un_ask.specs.declared.trace.NamedFunc.TheVariants as func
use Rattle.un_ask.specs.declared.results.Label.{Label}
use Rattle.un_ask.specs.declared.rule.NamedRule.{NamedRule}
use Rattle.un_ask.specs.declared.rule.NamedRule.TheVariants as rule
use Rattle.un_json.specs.declared.words.Inclusion.{Inclusion}
use Rattle.un_json.specs.declared.words.Inclusion.TheVariants as inclusion

-- the value, if it passes
abbrev pub kept : {A : Type 0} → (A → Bool) → Option A → Option A
kept p None = None
kept p (Some a) = if p a then Some a else None

-- ---- numbers and texts

-- a whole number of 64 bits
abbrev pub whole : Data → Option ℤ
whole d = option_and_then as_i64 (as_number d)

-- a whole number from one to another
abbrev pub count_from_to : ℕ → ℕ → Data → Option ℕ
count_from_to low high d = kept (λ n. nat_le low n && nat_le n high) (option_and_then as_u64 (as_number d))

-- the number of a feature or of an association
abbrev pub id_of : Data → Option ℕ
id_of = count_from_to 1 9007199254740991

-- a moment, or a version
abbrev pub base_of : Data → Option ℕ
base_of = count_from_to 0 9007199254740991

-- how many changes are asked for
abbrev pub most_of : Data → Option ℕ
most_of = count_from_to 1 1000

-- a terminal
abbrev pub terminal_of : Data → Option ℕ
terminal_of = count_from_to 1 8

-- a text that has the form of a name
abbrev pub name_of : Data → Option (List ℕ)
name_of d = kept is_name (as_str d)

abbrev pub some_name_of : Data → Option (Option (List ℕ))
some_name_of d = option_map Some (name_of d)

-- a value of a form, or null for none
abbrev pub or_null : {A : Type 0} → (Data → Option A) → Data → Option (Option A)
or_null form d = if is_some (as_null d) then Some None else option_map Some (form d)

-- a name, or null for none
abbrev pub weight_of : Data → Option (Option (List ℕ))
weight_of = or_null name_of

-- a text of at most 256 bytes
abbrev pub note_of : Data → Option (List ℕ)
note_of d = kept (λ text. nat_le (length text) 256) (as_str d)

-- `with`, `against` or `both`
abbrev pub flow_named : List ℕ → Option Flow
flow_named text =
    if bytes_eq text (codes "with") then Some With
    else (if bytes_eq text (codes "against") then Some Against
    else (if bytes_eq text (codes "both") then Some Both else None))

abbrev pub flow_of : Data → Option Flow
flow_of d = option_and_then flow_named (as_str d)

-- ---- lists

-- what each of the items is, if each of them is something
abbrev pub each_item : {A : Type 0} → (Data → Option A) → Items → Option (List A)
each_item f no_items = Some []
each_item f (item d ds) = option_and_then (λ x. option_map (λ xs. x ∷ xs) (each_item f ds)) (f d)

-- a list, each item of which is something
abbrev pub list_of : {A : Type 0} → (Data → Option A) → Data → Option (List A)
list_of f d = option_and_then (each_item f) (as_array d)

-- a list whose length is in range
abbrev pub list_from_to : {A : Type 0} → ℕ → ℕ → (Data → Option A) → Data → Option (List A)
list_from_to low high f d = kept (λ xs. nat_le low (length xs) && nat_le (length xs) high) (list_of f d)

-- so many whole numbers
abbrev pub numbers_of : ℕ → Data → Option (List ℤ)
numbers_of n d = kept (λ xs. length xs == n) (list_of whole d)

-- a list of lists of three whole numbers
abbrev pub points_of : Data → Option (List (List ℤ))
points_of = list_of (numbers_of 3)

-- three numbers in the range of coordinates, as a point
abbrev pub point_from : List ℤ → Option Point
point_from (x ∷ y ∷ z ∷ []) = if list_all in_range (x ∷ y ∷ z ∷ []) then Some (record { x = x; y = y; z = z }) else None
point_from other = None

abbrev pub point_of : Data → Option Point
point_of d = option_and_then point_from (numbers_of 3 d)

-- four numbers in the range of coordinates, none of the two pairs reversed, as a rectangle
abbrev pub rectangle_of : List ℤ → Option Rectangle
rectangle_of (x0 ∷ y0 ∷ x1 ∷ y1 ∷ []) =
    if list_all in_range (x0 ∷ y0 ∷ x1 ∷ y1 ∷ []) && int_le x0 x1 && int_le y0 y1 then Some (rectangle x0 y0 x1 y1) else None
rectangle_of other = None

abbrev pub extent_of : Data → Option Rectangle
extent_of d = option_and_then rectangle_of (numbers_of 4 d)

-- two things, one after the other
abbrev pub pair_of : {A B C : Type 0} → (A → B → C) → (Data → Option A) → (Data → Option B) → Items → Option C
pair_of make f g no_items = None
pair_of make f g (item d no_items) = None
pair_of make f g (item d (item e no_items)) = option_and_then (λ a. option_map (make a) (g e)) (f d)
pair_of make f g (item d (item e (item other ds))) = None

-- the terminals that are chosen at the two ends of a line
abbrev pub ends_of : Data → Option (List ℕ)
ends_of d = option_and_then (pair_of (λ a b. a ∷ b ∷ []) (count_from_to 0 8) (count_from_to 0 8)) (as_array d)

abbrev pub port : ℕ → ℕ → Port
port id n = record { feature = id; number = n }

-- a port: the number of a feature, and a number from 0 to 63
abbrev pub port_of : Data → Option Port
port_of d = option_and_then (pair_of port id_of (count_from_to 0 63)) (as_array d)

abbrev pub starts_of : Data → Option (List Port)
starts_of = list_from_to 1 64 port_of

abbrev pub stops_of : Data → Option (List Port)
stops_of = list_from_to 0 64 port_of

-- ---- certificates

-- the ports of a walk
abbrev pub nodes_of : Data → Option (List Port)
nodes_of = list_from_to 0 65536 port_of

abbrev pub natural : ℤ → Option ℕ
natural (pos n) = Some n
natural (negsuc n) = None

-- a whole number that is not negative
abbrev pub cost_of : Data → Option ℕ
cost_of d = option_and_then natural (whole d)

abbrev pub label : Port → ℕ → Label
label reached cost = record { port = reached; cost = cost }

-- a label: a port as above, and what a walk to it costs
abbrev pub label_from : Items → Option Label
label_from no_items = None
label_from (item d no_items) = None
label_from (item d (item e no_items)) = None
label_from (item d (item e (item f no_items))) =
    option_and_then (λ id. option_and_then (λ n. option_map (λ cost. label (port id n) cost) (cost_of f)) (count_from_to 0 63 e)) (id_of d)
label_from (item d (item e (item f (item other ds)))) = None

abbrev pub label_of : Data → Option Label
label_of d = option_and_then label_from (as_array d)

abbrev pub labels_of : Data → Option (List Label)
labels_of = list_from_to 0 65536 label_of

-- ---- attributes

-- a member that has the form of a name and is a whole number
abbrev pub attribute_of : List ℕ → Data → Option (List ℕ × ℤ)
attribute_of name d = if is_name name then option_map (λ n. (name, n)) (whole d) else None

abbrev pub each_attribute : Members → Option (List (List ℕ × ℤ))
each_attribute no_members = Some []
each_attribute (member k d ms) =
    option_and_then (λ pair. option_map (λ pairs. pair ∷ pairs) (each_attribute ms)) (attribute_of k d)

abbrev pub attrs_of : Data → Option (List (List ℕ × ℤ))
attrs_of d = option_and_then each_attribute (as_object d)

-- ---- what traces take

abbrev pub kind_of : Data → Option TraceKind
kind_of d = option_and_then trace_named (as_str d)

-- what may be included in a result
abbrev pub inclusion_named : List ℕ → Option Inclusion
inclusion_named text =
    if bytes_eq text (codes "barriers") then Some inclusion.Barriers
    else (if bytes_eq text (codes "containers") then Some inclusion.Containers
    else (if bytes_eq text (codes "content") then Some inclusion.Content
    else (if bytes_eq text (codes "structures") then Some inclusion.Structures else None)))

abbrev pub inclusion_of : Data → Option Inclusion
inclusion_of d = option_and_then inclusion_named (as_str d)

-- one more word, unless it is there already
abbrev pub add_inclusion : Inclusion → Include → Option Include
add_inclusion inclusion.Barriers include = if include.barriers then None else Some (record include { barriers = true })
add_inclusion inclusion.Containers include = if include.containers then None else Some (record include { containers = true })
add_inclusion inclusion.Content include = if include.content then None else Some (record include { content = true })
add_inclusion inclusion.Structures include = if include.structures then None else Some (record include { structures = true })

abbrev pub included_from : Include → List Inclusion → Option Include
included_from include [] = Some include
included_from include (w ∷ ws) = option_and_then (λ more. included_from more ws) (add_inclusion w include)

abbrev pub nothing : Include
nothing = record { barriers = false; containers = false; content = false; structures = false }

-- a list of distinct words
abbrev pub include_of : Data → Option Include
include_of d = option_and_then (included_from nothing) (list_of inclusion_of d)

-- a function of an attribute
abbrev pub func_named : List ℕ → List ℕ → Option NamedFunc
func_named text name =
    if bytes_eq text (codes "sum") then Some (func.Sum name)
    else (if bytes_eq text (codes "least") then Some (func.Least name)
    else (if bytes_eq text (codes "greatest") then Some (func.Greatest name) else None))

abbrev pub count_of : Data → Option NamedFunc
count_of d = option_and_then (λ text. if bytes_eq text (codes "count") then Some func.Count else None) (as_str d)

abbrev pub named_func_of : Data → Data → Option NamedFunc
named_func_of d e = option_and_then (λ text. option_and_then (func_named text) (name_of e)) (as_str d)

abbrev pub func_from : Items → Option NamedFunc
func_from no_items = None
func_from (item d no_items) = count_of d
func_from (item d (item e no_items)) = named_func_of d e
func_from (item d (item e (item other ds))) = None

abbrev pub func_of : Data → Option NamedFunc
func_of d = option_and_then func_from (as_array d)

abbrev pub functions_of : Data → Option (List NamedFunc)
functions_of = list_from_to 0 16 func_of

-- ---- conditions

abbrev pub op_named : List ℕ → Option Op
op_named text =
    if bytes_eq text (codes "eq") then Some op.Eq
    else (if bytes_eq text (codes "ne") then Some op.Ne
    else (if bytes_eq text (codes "lt") then Some op.Lt
    else (if bytes_eq text (codes "le") then Some op.Le
    else (if bytes_eq text (codes "gt") then Some op.Gt
    else (if bytes_eq text (codes "ge") then Some op.Ge else None)))))

-- a comparison of an attribute with a number
abbrev pub test_of : List ℕ → Data → Data → Option (Condition (List ℕ))
test_of word name n =
    option_and_then (λ compares. option_and_then (λ attribute. option_map (λ value. Test compares attribute value) (whole n)) (name_of name)) (op_named word)

-- `has` with the name of a category, and `not` with a condition
abbrev pub of_one : List ℕ → Data → Option (Condition (List ℕ)) → Option (Condition (List ℕ))
of_one word d c =
    if bytes_eq word (codes "has") then option_map Has (name_of d)
    else (if bytes_eq word (codes "not") then option_map Not c else None)

-- both, and both joined
abbrev pub both_of : Option (Condition (List ℕ)) → Option (Condition (List ℕ)) → Option (Condition (List ℕ) × Condition (List ℕ))
both_of c d = option_and_then (λ x. option_map (λ y. (x, y)) d) c

abbrev pub joined : (Condition (List ℕ) → Condition (List ℕ) → Condition (List ℕ)) → Option (Condition (List ℕ)) → Option (Condition (List ℕ)) → Option (Condition (List ℕ))
joined make c d = option_map (λ pair. make pair.0 pair.1) (both_of c d)

-- `and` and `or` with two conditions, and comparisons
abbrev pub of_two : List ℕ → Data → Data → Option (Condition (List ℕ)) → Option (Condition (List ℕ)) → Option (Condition (List ℕ))
of_two word d e c1 c2 =
    if bytes_eq word (codes "and") then joined And c1 c2
    else (if bytes_eq word (codes "or") then joined Or c1 c2 else test_of word d e)

abbrev mutual
  pub condition_of : Data → Option (Condition (List ℕ))
  condition_of null = None
  condition_of (boolean b) = None
  condition_of (number n) = None
  condition_of (string s) = None
  condition_of (array ds) = condition_from ds
  condition_of (object ms) = None

  pub condition_from : Items → Option (Condition (List ℕ))
  condition_from no_items = None
  condition_from (item w no_items) = None
  condition_from (item w (item d no_items)) = option_and_then (λ word. of_one word d (condition_of d)) (as_str w)
  condition_from (item w (item d (item e no_items))) = option_and_then (λ word. of_two word d e (condition_of d) (condition_of e)) (as_str w)
  condition_from (item w (item d (item e (item f fs)))) = None

abbrev pub some_condition_of : Data → Option (Option (Condition (List ℕ)))
some_condition_of d = option_map Some (condition_of d)

-- a condition, or null for none
abbrev pub barriers_of : Data → Option (Option (Condition (List ℕ)))
barriers_of d = if is_some (as_null d) then Some None else some_condition_of d

-- ---- rules

-- the number of a terminal, or 0
abbrev pub any_terminal_of : Data → Option ℕ
any_terminal_of = count_from_to 0 8

-- what follows a word
abbrev pub behind_word : {A : Type 0} → (List ℕ → Option A) → Data → Option A
behind_word f w = option_and_then f (as_str w)

abbrev pub kinds_rule : List ℕ → Data → Data → Option NamedRule
kinds_rule word a b =
    option_and_then (λ x. option_and_then (λ y. if bytes_eq word (codes "c") then Some (rule.Containment x y)
    else (if bytes_eq word (codes "s") then Some (rule.Attachment x y) else None)) (name_of b)) (name_of a)

abbrev pub edge_rule : List ℕ → Data → Data → Data → Option NamedRule
edge_rule word a t b =
    if bytes_eq word (codes "je")
    then option_and_then (λ x. option_and_then (λ n. option_map (λ y. rule.JunctionEdge x n y) (name_of b)) (any_terminal_of t)) (name_of a)
    else None

abbrev pub pair_rule : List ℕ → Data → Data → Data → Data → Option NamedRule
pair_rule word a t b u =
    if bytes_eq word (codes "jj")
    then option_and_then (λ x. option_and_then (λ n. option_and_then (λ y. option_map (λ m. rule.JunctionJunction x n y m) (any_terminal_of u)) (name_of b)) (any_terminal_of t)) (name_of a)
    else None

abbrev pub through_rule : List ℕ → Data → Data → Data → Data → Data → Option NamedRule
through_rule word a t j b u =
    if bytes_eq word (codes "eje")
    then option_and_then (λ x. option_and_then (λ n. option_and_then (λ k. option_and_then (λ y. option_map (λ m. rule.EdgeJunctionEdge x n k y m) (any_terminal_of u)) (name_of b)) (name_of j)) (any_terminal_of t)) (name_of a)
    else None

abbrev pub rule_from : Items → Option NamedRule
rule_from (item w (item a (item b no_items))) = behind_word (λ word. kinds_rule word a b) w
rule_from (item w (item a (item t (item b no_items)))) = behind_word (λ word. edge_rule word a t b) w
rule_from (item w (item a (item t (item b (item u no_items))))) = behind_word (λ word. pair_rule word a t b u) w
rule_from (item w (item a (item t (item j (item b (item u no_items)))))) = behind_word (λ word. through_rule word a t j b u) w
rule_from _ = None

abbrev pub rule_of : Data → Option NamedRule
rule_of d = option_and_then rule_from (as_array d)
