-- A network may go to another thread, and be read by several.
use denote.Param.Send.{sendable}
use Rattle.un_core.proofs.Crossing.{net_send, net_sync}
use Rattle.un_net_tests.proofs.views.a_kept_view_stays_empty.Goals as goal

pub keep_a_view-requires-send-M : goal.keep_a_view-requires-send-M
keep_a_view-requires-send-M g c κs = search (net_send, sendable) depth 60

pub keep_a_view-requires-sync-M : goal.keep_a_view-requires-sync-M
keep_a_view-requires-sync-M g c κs = search (net_sync, sendable) depth 60
