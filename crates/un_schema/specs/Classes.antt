-- What the class of a kind decides.
use Rattle.std.specs.Prelude.{ℕ, Bool, true, false}
use Rattle.un_schema.specs.declared.kind.Class.{Class}
use Rattle.un_schema.specs.declared.kind.Class.TheVariants.{Device, Junction, Line, Assembly, Structure}

-- two classes are one
abbrev pub same_class : Class → Class → Bool
same_class Device Device = true
same_class Junction Junction = true
same_class Line Line = true
same_class Assembly Assembly = true
same_class Structure Structure = true
same_class class other = false

abbrev pub is_device : Class → Bool
is_device Device = true
is_device Junction = false
is_device Line = false
is_device Assembly = false
is_device Structure = false

abbrev pub is_line : Class → Bool
is_line Device = false
is_line Junction = false
is_line Line = true
is_line Assembly = false
is_line Structure = false

abbrev pub is_structure : Class → Bool
is_structure Device = false
is_structure Junction = false
is_structure Line = false
is_structure Assembly = false
is_structure Structure = true

-- features of the class have terminals
abbrev pub is_joint : Class → Bool
is_joint Device = true
is_joint Junction = true
is_joint Line = false
is_joint Assembly = false
is_joint Structure = false

-- features of the class may contain others
abbrev pub is_container : Class → Bool
is_container Device = false
is_container Junction = false
is_container Line = false
is_container Assembly = true
is_container Structure = true

-- how many terminals a feature of the class has, where those of its configuration are given
abbrev pub terminals_by_class : Class → ℕ → ℕ
terminals_by_class Device configured = configured
terminals_by_class Junction configured = 1
terminals_by_class Line configured = 0
terminals_by_class Assembly configured = 0
terminals_by_class Structure configured = 0

-- a number of each class
abbrev pub class_number : Class → ℕ
class_number Device = 0
class_number Junction = 1
class_number Line = 2
class_number Assembly = 3
class_number Structure = 4
