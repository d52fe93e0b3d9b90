-- A network may go to another thread, and be read by several: what a server of sessions asks of it.

use denote.Param.Send.{IsSend, IsSync, sendable, struct_send, struct_sync, recorded_send, recorded_sync, view_send, view_sync}
use denote.Struct.Declared.{shape}
use Rattle.un_facts.proofs.Crossing.{facts_send, facts_sync}
use Rattle.un_index.proofs.index.Index.TheSendSync.{the_send as index_send, the_sync as index_sync}
use Rattle.un_dirty.proofs.dirty.Dirty.TheSendSync.{the_send as dirty_send, the_sync as dirty_sync}
use Rattle.un_subnet.proofs.stored.StoredRows.TheSendSync.{the_send as stored_send, the_sync as stored_sync}
use Rattle.un_core.specs.contracts.net.Net.{the_row}
use Rattle.un_core.specs.contracts.net.Net.TheInside.{the_type}

pub net_send : IsSend the_row
net_send =
    view_send _ _ _ _ _
    (recorded_send _ _ the_type.to the_type.to_one (struct_send (shape the_type) (facts_send, (index_send, (dirty_send, (stored_send, (search sendable, (search sendable, tt))))))))

pub net_sync : IsSync the_row
net_sync =
    view_sync _ _ _ _ _
    (recorded_sync _ _ the_type.to the_type.to_one (struct_sync (shape the_type) (facts_sync, (index_sync, (dirty_sync, (stored_sync, (search sendable, (search sendable, tt))))))))
