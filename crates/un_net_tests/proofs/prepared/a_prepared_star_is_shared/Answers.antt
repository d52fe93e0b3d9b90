-- A network may go to another thread, and be read by several.
use denote.Param.Send.{sendable}
use Rattle.un_core.proofs.Crossing.{net_send, net_sync}
use Rattle.un_net_tests.proofs.prepared.a_prepared_star_is_shared.Goals as goal

pub share_star-requires-send-M : goal.share_star-requires-send-M
share_star-requires-send-M g c κs = search (net_send, sendable) depth 60

pub share_star-requires-sync-M : goal.share_star-requires-sync-M
share_star-requires-sync-M g c κs = search (net_sync, sendable) depth 60
