use Rattle.un_publish.proofs.Turns.{admits, forks, merges}
use Rattle.un_publish.proofs.board.Board.teach.Goals as goal

pub informed_reader-requires-clause-admits : goal.informed_reader-requires-clause-admits
informed_reader-requires-clause-admits g c = admits

pub informed_reader-requires-clause-tells : goal.informed_reader-requires-clause-tells
informed_reader-requires-clause-tells g c = forks _ _

pub informed_reader-requires-clause-learns : goal.informed_reader-requires-clause-learns
informed_reader-requires-clause-learns g c seat other = merges seat _ other _
