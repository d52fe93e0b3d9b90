use Rattle.std.proofs.Common.{◌≡◌, ◌<◌, ℕ, ◌∙◌, ap, sym, subst}
use Rattle.un_defs.specs.declared.link.Numbers.{Numbers}
use Rattle.un_defs.specs.declared.link.Tie.{Tie}
use Rattle.un_defs.specs.declared.link.PackedTie.TheInside.{Inside}
use Rattle.un_defs.specs.NameForms.{form_of, first_of, second_of, low_of, high_of, bits_of}
use Rattle.un_defs.specs.Packed.{unpacked, packed, IsPacked}
use Rattle.un_defs.proofs.Packing.{tie_told, few_forms}
use Rattle.un_defs.proofs.link.PackedTie.new.Goals as goal

pub bits-requires : goal.bits-requires
bits-requires c = subst (λ (n : Numbers). n.form < 4) (sym c.split-form.ensures) (few_forms c.args.tie.name)

-- the numbers that were split off, put together, are those of the link
joined : (t : Tie) (n : Numbers) (bits : ℕ) → n ≡ record { form = form_of t.name; first = first_of t.name; second = second_of t.name; low = low_of t.name; high = high_of t.name }
    → bits ≡ bits_of n.form t.out t.back
    → packed t ≡ record { first = n.first; second = n.second; feature = t.to.port.feature; at = t.to.at; low = n.low; high = n.high; number = t.to.port.number; bits = bits }
joined t n bits split told = sym (λ i. record {
  first = (split i).first;
  second = (split i).second;
  feature = t.to.port.feature;
  at = t.to.at;
  low = (split i).low;
  high = (split i).high;
  number = t.to.port.number;
  bits = (told ∙ ap (λ (n : Numbers). bits_of n.form t.out t.back) split) i;
})

pub invariant_of-result : goal.invariant_of-result
invariant_of-result c =
    subst IsPacked (joined c.args.tie c.split-form.result c.bits.result c.split-form.ensures c.bits.ensures) (ap packed (tie_told c.args.tie))

pub returns : goal.returns
returns c = subst (λ (p : Inside). unpacked p ≡ c.args.tie) (joined c.args.tie c.split-form.result c.bits.result c.split-form.ensures c.bits.ensures) (tie_told c.args.tie)
