use denote.Param.Send.{sendable}
use Rattle.un_core.proofs.Crossing.{net_send, net_sync}
use Rattle.un_serve.proofs.serve.serve_by.Goals as goal

pub serve_link-requires-send-M : goal.serve_link-requires-send-M
serve_link-requires-send-M c κs = search (net_send, net_sync, sendable) depth 60

pub serve_link-requires-sync-M : goal.serve_link-requires-sync-M
serve_link-requires-sync-M c κs = search (net_send, net_sync, sendable) depth 60
