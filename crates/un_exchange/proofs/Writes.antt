-- One write after another.
use Rattle.std.proofs.Common.{ℕ, ◌+◌, List, ◌++◌, Option, Result, Ok, Err, length, take, sym, subst, arith, length-append}
use Rattle.std.specs.Prelude.{OnErr}
use Rattle.std.proofs.Math.Seq.{take-append-add}
use Rattle.std.specs.Io.KnownBytes.{Appends}
use Rattle.un_io.specs.Outside.{AppendsPrefix}
use Rattle.un_io.proofs.Chains.{Appends-trans}

-- a whole write, and then a part of another
pub prefix_then : (a b c : Option (List ℕ)) (x y : List ℕ) → Appends a b x → AppendsPrefix b c y → AppendsPrefix a c (x ++ y)
prefix_then a b c x y p q = (
  length x + q.0,
  (let e = length-append x y in omega (arith, e, q.1)),
  subst (λ (l : List ℕ). Appends a c l) (sym (take-append-add x y q.0)) (Appends-trans a b c x (take q.0 y) p q.2),
)

pub prefix_err : {T E : Type 0} (r : Result T E) (a b c : Option (List ℕ)) (x y : List ℕ) → Appends a b x → OnErr r (AppendsPrefix b c y) → OnErr r (AppendsPrefix a c (x ++ y))
prefix_err (Ok v) a b c x y p q = tt
prefix_err (Err e) a b c x y p q = prefix_then a b c x y p q
