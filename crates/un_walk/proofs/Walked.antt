-- The first nodes of a list.
use Rattle.std.proofs.Common.{◌≡◌, ℕ, zero, suc, ◌<◌, List, [], ◌∷◌, ◌++◌, length, take, slice_get, Some, ap, inl, inr, arith}
use Rattle.un_defs.specs.declared.port.Node.{Node}
use Rattle.un_defs.proofs.Rising.{Among}
use Rattle.un_defs.proofs.LinkCases.{some_same}

-- the first k of the nodes and the one after them
pub take_at : (ns more : List Node) (k : ℕ) (n : Node) → slice_get ns k ≡ Some n → take (suc k) (ns ++ more) ≡ take k ns ++ n ∷ []
take_at [] more k n e = cc
take_at (m ∷ ns) more zero n e = ap (λ x. x ∷ []) (some_same m n e)
take_at (m ∷ ns) more (suc k) n e = ap (λ l. m ∷ l) (take_at ns more k n e)

pub among_at : (ns : List Node) (k : ℕ) (n : Node) → slice_get ns k ≡ Some n → Among ns n
among_at [] k n e = cc
among_at (m ∷ ns) zero n e = inl (some_same m n e)
among_at (m ∷ ns) (suc k) n e = inr (among_at ns k n e)

pub among_from-take : (ns : List Node) (k : ℕ) (n : Node) → Among (take k ns) n → Among ns n
among_from-take [] zero n h = absurd h
among_from-take [] (suc k) n h = absurd h
among_from-take (m ∷ ns) zero n h = absurd h
among_from-take (m ∷ ns) (suc k) n h = elim h [ inl e ↦ inl e | inr g ↦ inr (among_from-take ns k n g) ]

-- a node at a place before the end of the shorter list
pub at_before : (ns more : List Node) (k : ℕ) (n : Node) → k < length ns → slice_get (ns ++ more) k ≡ Some n → slice_get ns k ≡ Some n
at_before [] more k n l e = absurd (omega (arith, l))
at_before (m ∷ ns) more zero n l e = e
at_before (m ∷ ns) more (suc k) n l e = at_before ns more k n (omega (arith, l)) e
