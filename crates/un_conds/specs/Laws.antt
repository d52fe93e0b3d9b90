-- What a reader expects of the meaning of conditions, as statements.
use Rattle.std.specs.Prelude.{◌≡◌, ◌≢◌, ℕ, ℤ, ◌<ℤ◌, ◌≤ℤ◌, ◌↔◌, ◌⊎◌, List, Some, None, IsTrue, IsFalse}
use Rattle.un_conds.specs.declared.op.Op.{Op}
use Rattle.un_conds.specs.declared.op.Op.TheVariants.{Eq, Ne, Lt, Le, Gt, Ge}
use Rattle.un_conds.specs.Conditions.{Condition, Test, And, Or, Not, value_of, holds}

-- how a value stands to a number
abbrev pub Compares : Op → ℤ → ℤ → Type 0
Compares Eq v n = v ≡ n
Compares Ne v n = v ≢ n
Compares Lt v n = v <ℤ n
Compares Le v n = v ≤ℤ n
Compares Gt v n = n <ℤ v
Compares Ge v n = n ≤ℤ v

-- a condition holds, or does not, of attributes and a word of categories
abbrev pub Holds : Condition ℕ → List (ℕ × ℤ) → ℕ → Type 0
Holds c attrs cats = IsTrue (holds c attrs cats)

abbrev pub Fails : Condition ℕ → List (ℕ × ℤ) → ℕ → Type 0
Fails c attrs cats = IsFalse (holds c attrs cats)

-- both hold
abbrev pub AndLaw : Type 0
AndLaw = (c d : Condition ℕ) (attrs : List (ℕ × ℤ)) (cats : ℕ) → Holds (And c d) attrs cats ↔ (Holds c attrs cats × Holds d attrs cats)

-- one of them holds
abbrev pub OrLaw : Type 0
OrLaw = (c d : Condition ℕ) (attrs : List (ℕ × ℤ)) (cats : ℕ) → Holds (Or c d) attrs cats ↔ (Holds c attrs cats ⊎ Holds d attrs cats)

-- it does not hold
abbrev pub NotLaw : Type 0
NotLaw = (c : Condition ℕ) (attrs : List (ℕ × ℤ)) (cats : ℕ) → Holds (Not c) attrs cats ↔ Fails c attrs cats

-- a comparison with an attribute that is there
abbrev pub PresentLaw : Type 0
PresentLaw = (op : Op) (a : ℕ) (v n : ℤ) (attrs : List (ℕ × ℤ)) (cats : ℕ) → value_of attrs a ≡ Some v → Holds (Test op a n) attrs cats ↔ Compares op v n

-- no comparison with an attribute that is absent holds
abbrev pub AbsentLaw : Type 0
AbsentLaw = (op : Op) (a : ℕ) (n : ℤ) (attrs : List (ℕ × ℤ)) (cats : ℕ) → value_of attrs a ≡ None → Fails (Test op a n) attrs cats

-- so `ne` is not the negation of `eq` there
abbrev pub NotEqualLaw : Type 0
NotEqualLaw = (a : ℕ) (n : ℤ) (attrs : List (ℕ × ℤ)) (cats : ℕ) → value_of attrs a ≡ None →
    Fails (Test Ne a n) attrs cats × Holds (Not (Test Eq a n)) attrs cats
