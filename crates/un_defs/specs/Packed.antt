-- Links by their numbers.
use Rattle.std.specs.Prelude.{◌≡◌, ◌%◌}
use Rattle.un_defs.specs.declared.link.Tie.{Tie}
use Rattle.un_defs.specs.declared.link.PackedTie.TheInside.{Inside}
use Rattle.un_defs.specs.NameForms.{has_out, has_back, name_by, form_of, first_of, second_of, low_of, high_of, bits_of}

-- the link of these numbers
abbrev pub unpacked : Inside → Tie
unpacked p = record {
  name = name_by (p.bits % 4) p.first p.second p.low p.high;
  to = record { port = record { feature = p.feature; number = p.number }; at = p.at };
  out = has_out p.bits;
  back = has_back p.bits;
}

-- the numbers of a link
abbrev pub packed : Tie → Inside
packed t = record {
  first = first_of t.name;
  second = second_of t.name;
  feature = t.to.port.feature;
  at = t.to.at;
  low = low_of t.name;
  high = high_of t.name;
  number = t.to.port.number;
  bits = bits_of (form_of t.name) t.out t.back;
}

-- no other numbers have this link
abbrev pub IsPacked : Inside → Type 0
IsPacked p = packed (unpacked p) ≡ p
