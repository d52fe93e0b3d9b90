-- What the hasher of numbers computes.
use Rattle.std.specs.Prelude.{ℕ, ◌+◌, ◌*◌, ◌/◌, ◌%◌, ◌^◌, ◌-◌, List, fold, bit_and, bit_xor}
use Rattle.un_walk.specs.declared.hasher.NumberHasher.{NumberHasher}

-- the bytes as one number, of which the last eight count
abbrev pub number : List ℕ → ℕ
number bytes = fold (λ n byte. (n * 256 % 2 ^ 64 + byte) % 2 ^ 64) 0 bytes

-- the two halves of a product of 128 bits, joined by exclusive or
abbrev pub folded_product : ℕ → ℕ → ℕ
folded_product a b = bit_xor (bit_and (a * b) (2 ^ 64 - 1)) (a * b / 2 ^ 64)

-- the state after one write
abbrev pub write : NumberHasher → List ℕ → NumberHasher
write h bytes = record { state = folded_product (bit_xor h.state (number bytes)) 0x9e37_79b9_7f4a_7c15 }
