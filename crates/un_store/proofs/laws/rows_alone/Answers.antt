use Rattle.un_store.proofs.Makings.{rows_alone, fits_alone}
use Rattle.un_store.proofs.laws.rows_alone.Goals as goal

pub returns-clause-rows : goal.returns-clause-rows
returns-clause-rows c = rows_alone

pub returns-clause-fits : goal.returns-clause-fits
returns-clause-fits c = fits_alone
