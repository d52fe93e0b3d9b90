use Rattle.un_store.proofs.Held.{put_found, gone_not_found}
use Rattle.un_store.proofs.change.RowChange.row.Goals as goal

pub returns-in-Put : goal.returns-in-Put
returns-in-Put c = λ rows. rw c.in-Put.is (put_found c.in-Put.row rows)

pub returns-in-Remove : goal.returns-in-Remove
returns-in-Remove c = λ rows. rw c.in-Remove.is (gone_not_found _ rows)
