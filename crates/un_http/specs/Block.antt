-- The block of a request (RFC 9112, section 2.1): the bytes of its head, as far as the ends of lines tell.
use Rattle.std.specs.Prelude.{◌≡◌, ℕ, ◌<◌, ◌≤◌, ◌==◌, Bool, true, false, ◌||◌, List, [], ◌∷◌, length, take, nat_eq}
use Rattle.std.specs.List.{All, ends_with}

-- CR or LF
abbrev pub is_blank : ℕ → Bool
is_blank byte = byte == 13 || byte == 10

-- CR and LF bytes alone, as they may stand before a request (RFC 9112, section 2.2)
abbrev pub IsBlank : List ℕ → Type 0
IsBlank bytes = All (λ byte. is_blank byte ≡ true) bytes

-- there is a first byte, and it is neither
abbrev pub Begins : List ℕ → Type 0
Begins [] = ⊥
Begins (byte ∷ bytes) = is_blank byte ≡ false

-- the bytes end with LF and then an empty line, which is LF or CR LF
abbrev pub ends_block : List ℕ → Bool
ends_block bytes = ends_with nat_eq bytes (10 ∷ 10 ∷ []) || ends_with nat_eq bytes (10 ∷ 13 ∷ 10 ∷ [])

-- no prefix of at most this length ends so
abbrev pub HasNoEnd : ℕ → List ℕ → Type 0
HasNoEnd most bytes = (n : ℕ) → n ≤ most → ends_block (take n bytes) ≡ false

-- the shortest prefix that ends so has this length
pub record EndsAt (bytes : List ℕ) (size : ℕ) : Type 0 where
  pub within : size ≤ length bytes
  pub ends : ends_block (take size bytes) ≡ true
  pub first : (n : ℕ) → n < size → ends_block (take n bytes) ≡ false
