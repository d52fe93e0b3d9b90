-- The rows with what they are opened with may go to another thread, and be read by several: what a server of sessions asks of them.

use denote.Param.Send.{IsSend, IsSync, sendable}
use Rattle.std.proofs.Crossing.{crosses}
use Rattle.std.proofs.MapsCrossing.{crosses as maps_cross}
use Rattle.un_conds.proofs.form.Form.TheLaws.TheKnot as Form
use Rattle.un_schema.proofs.schema.Schema.TheSendSync.{the_send as schema_send, the_sync as schema_sync}
use Rattle.un_store.proofs.store.Store.TheSendSync.{the_send as store_send, the_sync as store_sync}
use Rattle.un_assoc.proofs.assocs.Assocs.TheSendSync.{the_send as assocs_send, the_sync as assocs_sync}
use Rattle.un_grid.proofs.grid.Grid.TheSendSync.{the_send as grid_send, the_sync as grid_sync}
use Rattle.un_tiers.specs.contracts.tiers.Tiers.{the_row as tiers_row}
use Rattle.un_tiers.specs.contracts.setup.Setup.{the_row as setup_row}
use Rattle.un_facts.specs.contracts.frame.Frame.{the_row as frame_row}
use Rattle.un_facts.specs.contracts.facts.Parts.{the_row as parts_row}
use Rattle.un_facts.specs.contracts.facts.Facts.{the_row}

tiers_send : IsSend tiers_row
tiers_send = search (maps_cross, crosses, Form.crosses, sendable) depth 60 fits 20000

tiers_sync : IsSync tiers_row
tiers_sync = search (maps_cross, crosses, Form.crosses, sendable) depth 60 fits 20000

setup_send : IsSend setup_row
setup_send = search (tiers_send, schema_send, sendable) depth 60 fits 20000

setup_sync : IsSync setup_row
setup_sync = search (tiers_sync, schema_sync, sendable) depth 60 fits 20000

frame_send : IsSend frame_row
frame_send = search (setup_send, setup_sync, schema_send, crosses, sendable) depth 60 fits 20000

frame_sync : IsSync frame_row
frame_sync = search (setup_send, setup_sync, schema_sync, crosses, sendable) depth 60 fits 20000

parts_send : IsSend parts_row
parts_send = search (frame_send, frame_sync, store_send, assocs_send, grid_send, crosses, sendable) depth 60 fits 20000

parts_sync : IsSync parts_row
parts_sync = search (frame_send, frame_sync, store_sync, assocs_sync, grid_sync, crosses, sendable) depth 60 fits 20000

pub facts_send : IsSend the_row
facts_send = search (parts_send, parts_sync, crosses, sendable) depth 60 fits 20000

pub facts_sync : IsSync the_row
facts_sync = search (parts_send, parts_sync, crosses, sendable) depth 60 fits 20000
