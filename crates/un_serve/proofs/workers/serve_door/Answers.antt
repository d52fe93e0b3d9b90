-- What the workers share and what each has of its own may go to another thread.
use mir.Syntax.{named}
use denote.Exit.{no}
use denote.Param.{param}
use denote.Param.Send.{param_send, arg_send, recorded_sync, struct_sync, shr_sync, sendable}
use denote.Struct.Declared.{shape}
use denote.Struct.Field.{shr_ref_field}
use denote.Struct.Tuple.{field_at, type_at}
use Rattle.std.proofs.Common.{[], ◌∷◌, codes}
use Rattle.std.proofs.alloc.Global.TheSendSync.{the_sync as global_sync}
use Rattle.std.specs.contracts.alloc.Global.{the_row as global_row}
use Rattle.std.proofs.sync.Mutex.TheSendSync.{the_sync as mutex_sync}
use Rattle.std.specs.contracts.sync.Mutex.{the_row as mutex_row}
use Rattle.un_geom.proofs.rect.Rect.TheSendSync.{the_send as rect_send}
use Rattle.un_geom.specs.contracts.rect.Rect.{the_row as rect_row}
use Rattle.un_schema.proofs.items.Items.TheSendSync.{the_send as items_send}
use Rattle.un_schema.specs.contracts.items.Items.{the_row as items_row}
use Rattle.un_ask.proofs.reply.Reply.TheSendSync.{the_send as reply_send}
use Rattle.un_ask.specs.contracts.reply.Reply.{the_row as reply_row}
use Rattle.un_ask.proofs.request.Command.TheSendSync.{the_send as command_send}
use Rattle.un_ask.specs.contracts.request.Command.{the_row as command_row}
use Rattle.un_core.proofs.Crossing.{net_send, net_sync}
use Rattle.un_core.specs.contracts.net.Net.{the_row as net_row}
use Rattle.un_core.specs.contracts.prepared.Prepared.{the_row as prepared_row}
use Rattle.un_core.specs.contracts.apply.NetMachine.TheImpl.{ghosts as net_ghosts}
use Rattle.un_publish.proofs.session.Session.TheSendSync.{the_send as session_send}
use Rattle.un_publish.specs.contracts.published.PublishedAbsorb.TheImpl.{ghosts as absorb_ghosts, no_dict}
use Rattle.un_desk.proofs.desk.Desk.TheSendSync.{the_sync as desk_sync}
use Rattle.un_desk.specs.contracts.desk.Desk.{the_row as desk_row}
use Rattle.un_gate.proofs.Gate.TheSendSync.{the_send as gate_send}
use Rattle.un_gate.specs.contracts.Gate.{the_row as gate_row}
use Rattle.un_serve.proofs.workers.serve_door.Goals as goal

-- a session goes to its worker
pub for_each_mut-requires-send-T : goal.for_each_mut-requires-send-T
for_each_mut-requires-send-T g c κs within =
    param_send 1 _ (arg_send _ no _ (session_send net_row (param 1 g.row.J) command_row reply_row prepared_row (items_row rect_row) net_ghosts g.J.BoardName g.J.LogName net_send net_sync))

-- the closure of a worker holds what is shared by reference
pub for_each_mut-requires-sync-F : goal.for_each_mut-requires-sync-F
for_each_mut-requires-sync-F g c κs within =
    let board = param 1 g.row.J in
    let rectangles = items_row rect_row in
    let absorbed = absorb_ghosts net_row board command_row reply_row prepared_row rectangles net_ghosts no_dict g.J.BoardName no_dict g.J.LogName no_dict no_dict no_dict no_dict no_dict no_dict in
    let desk = desk_row net_row board command_row reply_row prepared_row rectangles net_ghosts g.J.BoardName g.J.LogName absorbed in
    let gate = gate_row (param 2 g.row.D) (param 3 g.row.N) (param 4 g.row.D-Line) g.D.Door g.D.Line.Link g.N.DoorCount in
    let name = codes "un_serve::workers::fn::serve_door::for_each_mut+Self" in
    let fields =
    (shr_ref_field (record { mir = named 6; lft = κs.1.1.1.1.1.1.0 }) (param 0 g.row.R) tt).row
    ∷ (shr_ref_field (record { mir = named 7; lft = κs.1.1.1.1.1.1.1.0 }) global_row tt).row
    ∷ (shr_ref_field (record { mir = named 8; lft = κs.1.1.1.1.1.1.1.1.0 }) desk tt).row
    ∷ (shr_ref_field (record { mir = named 9; lft = κs.1.1.1.1.1.1.1.1.1.0 }) (mutex_row gate) tt).row
    ∷ [] in
    let shared = struct_sync (shape (type_at name fields)) (
      shr_sync _ _ (param 0 g.row.R) (search (c.type_bounds.sync-R, sendable)),
      (
        shr_sync _ _ global_row global_sync,
        (
          shr_sync _ _ desk (desk_sync net_row board command_row reply_row prepared_row rectangles net_ghosts g.J.BoardName g.J.LogName absorbed net_send command_send reply_send (items_send rect_row rect_send) net_sync),
          (shr_sync _ _ (mutex_row gate) (mutex_sync gate (gate_send (param 2 g.row.D) (param 3 g.row.N) (param 4 g.row.D-Line) g.D.Door g.D.Line.Link g.N.DoorCount (search (c.type_bounds.send-D, sendable)))), tt),
        ),
      ),
    ) in
    record { shared = (recorded_sync (field_at name fields).row _ _ (type_at name fields).to_one shared).shared }
