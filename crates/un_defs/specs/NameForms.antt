-- Forms of names, with numbers for what a name has, and directions of flow beside them.
use Rattle.std.specs.Prelude.{ℕ, zero, suc, ◌+◌, ◌*◌, ◌/◌, ◌%◌, ◌==◌, Bool, cond}
use Rattle.un_defs.specs.declared.link.LinkName.{LinkName}
use Rattle.un_defs.specs.declared.link.LinkName.TheVariants.{Seg, Path, Coin, Assoc}

-- flow leaves
abbrev pub has_out : ℕ → Bool
has_out bits = (bits / 4) % 2 == 1

-- flow comes in
abbrev pub has_back : ℕ → Bool
has_back bits = bits / 8 == 1

-- the name of a form
abbrev pub name_by : ℕ → ℕ → ℕ → ℕ → ℕ → LinkName
name_by zero first second low high = Seg first low
name_by (suc zero) first second low high = Path first low high
name_by (suc (suc zero)) first second low high = Coin first low second high
name_by (suc (suc (suc form))) first second low high = Assoc first

-- the form of a name and its numbers
abbrev pub form_of : LinkName → ℕ
form_of (Seg line index) = 0
form_of (Path device low high) = 1
form_of (Coin junction terminal line vertex) = 2
form_of (Assoc id) = 3

abbrev pub first_of : LinkName → ℕ
first_of (Seg line index) = line
first_of (Path device low high) = device
first_of (Coin junction terminal line vertex) = junction
first_of (Assoc id) = id

abbrev pub second_of : LinkName → ℕ
second_of (Seg line index) = 0
second_of (Path device low high) = 0
second_of (Coin junction terminal line vertex) = line
second_of (Assoc id) = 0

abbrev pub low_of : LinkName → ℕ
low_of (Seg line index) = index
low_of (Path device low high) = low
low_of (Coin junction terminal line vertex) = terminal
low_of (Assoc id) = 0

abbrev pub high_of : LinkName → ℕ
high_of (Seg line index) = 0
high_of (Path device low high) = high
high_of (Coin junction terminal line vertex) = vertex
high_of (Assoc id) = 0

-- a form with the directions of flow
abbrev pub bits_of : ℕ → Bool → Bool → ℕ
bits_of form out back = form + 4 * (cond out 1 0 + 2 * cond back 1 0)
