-- Two tests that pass together are one.
use Rattle.std.proofs.Common.{◌≡◌, Bool, true, false, refl, sym}

pub same_truth : (a b : Bool) → (a ≡ true → b ≡ true) → (b ≡ true → a ≡ true) → a ≡ b
same_truth true b f g = sym (f refl)
same_truth false true f g = g refl
same_truth false false f g = refl
