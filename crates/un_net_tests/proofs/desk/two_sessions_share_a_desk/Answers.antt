-- A network may go to another thread, and be read by several.
use denote.Param.Send.{sendable}
use Rattle.un_core.proofs.Crossing.{net_send, net_sync}
use Rattle.un_net_tests.proofs.desk.two_sessions_share_a_desk.Goals as goal

pub share_a_desk-requires-send-M : goal.share_a_desk-requires-send-M
share_a_desk-requires-send-M g c κs = search (net_send, sendable) depth 60

pub share_a_desk-requires-sync-M : goal.share_a_desk-requires-sync-M
share_a_desk-requires-sync-M g c κs = search (net_sync, sendable) depth 60
