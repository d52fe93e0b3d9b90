use denote.Param.Send.{sendable}
use Rattle.std.proofs.Common.{lit<, refl}
use Rattle.un_core.proofs.Crossing.{net_send, net_sync}
use Rattle.un_serve.proofs.run.serve_network.Goals as goal

pub open-requires-send-M : goal.open-requires-send-M
open-requires-send-M g c κs within = search (net_send, sendable) depth 60

pub open-requires-sync-M : goal.open-requires-sync-M
open-requires-sync-M g c κs within = search (net_sync, sendable) depth 60

pub returns-in_default-clause-statuses : goal.returns-in_default-clause-statuses
returns-in_default-clause-statuses g c = (2, lit< tt, refl)

pub close-requires-send-M : goal.close-requires-send-M
close-requires-send-M g c κs within = search (net_send, sendable) depth 60

pub close-requires-sync-M : goal.close-requires-sync-M
close-requires-sync-M g c κs within = search (net_sync, sendable) depth 60
