use Rattle.un_pages.proofs.Rows.{first_of}
use Rattle.un_pages.proofs.parts.first.Goals as goal

pub returns : goal.returns
returns g c = let e = first_of g.T.Level.pairs _ _ c.requires.leads c.entry.ensures in cc
