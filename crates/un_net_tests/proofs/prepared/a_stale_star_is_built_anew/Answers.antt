-- A network may go to another thread, and be read by several.
use denote.Param.Send.{sendable}
use Rattle.un_core.proofs.Crossing.{net_send, net_sync}
use Rattle.un_net_tests.proofs.prepared.a_stale_star_is_built_anew.Goals as goal

pub validate_stale-requires-send-M : goal.validate_stale-requires-send-M
validate_stale-requires-send-M g c κs = search (net_send, sendable) depth 60

pub validate_stale-requires-sync-M : goal.validate_stale-requires-sync-M
validate_stale-requires-sync-M g c κs = search (net_sync, sendable) depth 60
