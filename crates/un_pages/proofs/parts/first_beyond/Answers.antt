use Rattle.std.proofs.Common.{refl, sym, arith}
use Rattle.un_pages.proofs.Rows.{first_from, none_from}
use Rattle.un_pages.proofs.parts.first_beyond.Goals as goal

pub returns-then-at-len : goal.returns-then-at-len
returns-then-at-len g c = sym (none_from g.T.Level.pairs c.args.row.now c.args.at (omega arith))

pub returns : goal.returns
returns g c = let e = first_from g.T.Level.pairs _ _ _ _ refl c.requires.leads c.entry.ensures in sym (rw (e, ← c.deref.ensures) c.first.ensures)
