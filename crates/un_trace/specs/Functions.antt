-- Functions over the entries of some features, of which each feature that has one has one.
use Rattle.std.specs.Prelude.{ℕ, ℤ, pos, List, [], filter_map, Option, Some, None}
use Rattle.un_attrs.specs.Attributes.{attribute}
use Rattle.un_defs.specs.declared.star.Spot.{Spot}
use Rattle.un_defs.specs.Result.{int_sum, least_value, greatest_value}
use Rattle.un_ask.specs.declared.typed.Func.{Func}
use Rattle.un_ask.specs.declared.typed.Func.TheVariants.{Count, Sum, Least, Greatest}

-- the values of an attribute; of an unknown one there are none
abbrev pub values_of : List Spot → Option ℕ → List ℤ
values_of spots None = []
values_of spots (Some a) = filter_map (λ s. attribute s.attrs a) spots

-- a function, given how many features there are
abbrev pub total_of : List Spot → ℕ → Func → Option ℤ
total_of spots count Count = Some (pos count)
total_of spots count (Sum a) = Some (int_sum (values_of spots a))
total_of spots count (Least a) = least_value (values_of spots a)
total_of spots count (Greatest a) = greatest_value (values_of spots a)
