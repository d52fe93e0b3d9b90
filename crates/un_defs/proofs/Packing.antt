-- A link is told by its numbers.
use Rattle.std.proofs.Common.{◌≡◌, ◌%◌, ◌<◌, Bool, true, false, refl, arith}
use Rattle.un_defs.specs.declared.link.LinkName.{LinkName}
use Rattle.un_defs.specs.declared.link.LinkName.TheVariants.{Seg, Path, Coin, Assoc}
use Rattle.un_defs.specs.declared.link.Tie.{Tie}
use Rattle.un_defs.specs.NameForms.{has_out, has_back, name_by, form_of, first_of, second_of, low_of, high_of, bits_of}
use Rattle.un_defs.specs.Packed.{unpacked, packed}

name_told : (name : LinkName) (out back : Bool) → name_by (bits_of (form_of name) out back % 4) (first_of name) (second_of name) (low_of name) (high_of name) ≡ name
name_told (Seg l i) true true = refl
name_told (Seg l i) true false = refl
name_told (Seg l i) false true = refl
name_told (Seg l i) false false = refl
name_told (Path d l h) true true = refl
name_told (Path d l h) true false = refl
name_told (Path d l h) false true = refl
name_told (Path d l h) false false = refl
name_told (Coin j t l v) true true = refl
name_told (Coin j t l v) true false = refl
name_told (Coin j t l v) false true = refl
name_told (Coin j t l v) false false = refl
name_told (Assoc k) true true = refl
name_told (Assoc k) true false = refl
name_told (Assoc k) false true = refl
name_told (Assoc k) false false = refl

out_told : (name : LinkName) (out back : Bool) → has_out (bits_of (form_of name) out back) ≡ out
out_told (Seg l i) true true = refl
out_told (Seg l i) true false = refl
out_told (Seg l i) false true = refl
out_told (Seg l i) false false = refl
out_told (Path d l h) true true = refl
out_told (Path d l h) true false = refl
out_told (Path d l h) false true = refl
out_told (Path d l h) false false = refl
out_told (Coin j t l v) true true = refl
out_told (Coin j t l v) true false = refl
out_told (Coin j t l v) false true = refl
out_told (Coin j t l v) false false = refl
out_told (Assoc k) true true = refl
out_told (Assoc k) true false = refl
out_told (Assoc k) false true = refl
out_told (Assoc k) false false = refl

back_told : (name : LinkName) (out back : Bool) → has_back (bits_of (form_of name) out back) ≡ back
back_told (Seg l i) true true = refl
back_told (Seg l i) true false = refl
back_told (Seg l i) false true = refl
back_told (Seg l i) false false = refl
back_told (Path d l h) true true = refl
back_told (Path d l h) true false = refl
back_told (Path d l h) false true = refl
back_told (Path d l h) false false = refl
back_told (Coin j t l v) true true = refl
back_told (Coin j t l v) true false = refl
back_told (Coin j t l v) false true = refl
back_told (Coin j t l v) false false = refl
back_told (Assoc k) true true = refl
back_told (Assoc k) true false = refl
back_told (Assoc k) false true = refl
back_told (Assoc k) false false = refl

-- nothing of a link is lost
pub tie_told : (t : Tie) → unpacked (packed t) ≡ t
tie_told t = λ i. record { name = name_told t.name t.out t.back i; to = t.to; out = out_told t.name t.out t.back i; back = back_told t.name t.out t.back i }

pub few_forms : (name : LinkName) → form_of name < 4
few_forms (Seg l i) = omega arith
few_forms (Path d l h) = omega arith
few_forms (Coin j t l v) = omega arith
few_forms (Assoc k) = omega arith
