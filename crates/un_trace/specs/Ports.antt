-- What an answer tells of ports alone: each port is one number, and a feature is told with the numbers of its ports.
use Rattle.std.specs.Prelude.{ℕ, ◌/◌, ◌%◌, ◌==◌, Bool, true, false, ◌||◌, List, map, filter}
use Rattle.std.specs.Ordering.{nat_cmp}
use Rattle.std.specs.List.{list_any}
use Rattle.un_defs.specs.declared.port.Port.{Port}
use Rattle.un_defs.specs.declared.port.Node.{Node}
use Rattle.un_defs.specs.Orders.{rising}
use Rattle.un_ask.specs.declared.trace.Include.{Include}
use Rattle.un_ask.specs.declared.typed.Func.{Func}
use Rattle.un_ask.specs.declared.typed.Func.TheVariants.{Count, Sum, Least, Greatest}
use Rattle.un_ask.specs.declared.typed.TypedAsk.{TypedAsk}
use Rattle.un_ask.specs.declared.results.Part.{Part}
use Rattle.un_trace.specs.TraceReply.{lists_controllers}

-- the feature and the number that a key holds
abbrev pub key_feature : ℕ → ℕ
key_feature k = k / 256

abbrev pub key_number : ℕ → ℕ
key_number k = k % 256

abbrev pub port_of_key : ℕ → Port
port_of_key k = record { feature = key_feature k; number = key_number k }

-- a feature with some numbers, rising
abbrev pub part_with : ℕ → List ℕ → Part
part_with id numbers = record { feature = id; numbers = rising nat_cmp numbers }

-- the features of some elements, rising, each with the numbers of its elements
abbrev pub parts_by : {A : Type 0} → (A → ℕ) → (A → ℕ) → List A → List Part
parts_by feature number xs = map (λ id. part_with id (map number (filter (λ x. feature x == id) xs))) (rising nat_cmp (map feature xs))

abbrev pub port_of : Node → Port
port_of n = n.port

-- the function is taken over the entries of features
abbrev pub reads_entries : Func → Bool
reads_entries Count = false
reads_entries (Sum a) = true
reads_entries (Least a) = true
reads_entries (Greatest a) = true

-- what entries have is asked for
abbrev pub includes_any : Include → Bool
includes_any include = include.containers || (include.content || include.structures)

-- the answer tells what the entries of the result nodes have, and not their ports alone
abbrev pub tells_entries : TypedAsk → Bool
tells_entries ask = includes_any ask.include || (lists_controllers ask.kind || list_any reads_entries ask.functions)
