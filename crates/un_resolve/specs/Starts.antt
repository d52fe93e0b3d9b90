-- Where a trace starts, and in which tier it walks.
use Rattle.std.specs.Prelude.{ℕ, ◌==◌, not, ◌&&◌, if◌then◌else◌, List, [], ◌∷◌, map, filter_map, length, Option, Some, None, is_some, option_and_then, Contains}
use Rattle.un_defs.specs.declared.port.Port.{Port}
use Rattle.un_defs.specs.declared.port.Node.{Node}
use Rattle.un_defs.specs.declared.refusal.Refusal.{Refusal}
use Rattle.un_defs.specs.declared.refusal.Refusal.TheVariants as refusal
use Rattle.un_defs.specs.Features.{Features, row, controllers_of}
use Rattle.un_defs.specs.Ports.{port_node, nodes}
use Rattle.un_defs.specs.Refusing.{first_refusal, refused_if}
use Rattle.un_tiers.specs.Lists.{tier_named}
use Rattle.un_tiers.specs.declared.setup.Setup.{Setup}
use Rattle.un_ask.specs.declared.trace.TraceAsk.{TraceAsk}
use Rattle.un_resolve.specs.Kinds.{is_subnetwork}

-- ---- the ports that a request gives

-- a subnetwork trace takes none
abbrev pub given_starts : TraceAsk → List Port
given_starts ask = if is_subnetwork ask.kind then [] else ask.starts

-- the node of a port of a live row, at the port's place in the row now
abbrev pub start_node : Features → Port → Option Node
start_node F q = option_and_then (λ r. port_node r q.number) (row F q.feature)

-- no live row has the feature's id
abbrev pub no_feature : Features → Port → Option Refusal
no_feature F q = refused_if (not (is_some (row F q.feature))) (refusal.NoSuchFeature q.feature)

-- the live row has no such port
abbrev pub no_start : Features → Port → Option Refusal
no_start F q = refused_if (not (is_some (start_node F q))) (refusal.NoStart q.feature q.number)

-- ---- the tier, and the controllers of a subnetwork

-- the number of the tier that is asked for
abbrev pub tier_of : Setup → TraceAsk → Option ℕ
tier_of S ask = option_and_then (tier_named S.tiers) ask.tier

-- a tier is asked for that is not there
abbrev pub no_tier : Setup → TraceAsk → Option Refusal
no_tier S ask = refused_if (is_some ask.tier && not (is_some (tier_of S ask))) refusal.NoSuchTier

-- the ports of the controllers of a subnetwork, if a tier and a name are given
abbrev pub subnet_ports : Features → Option ℕ → Option (List ℕ) → List Port
subnet_ports F None subnet = []
subnet_ports F (Some tier) None = []
subnet_ports F (Some tier) (Some subnet) = map (λ c. c.port) (controllers_of F tier subnet)

abbrev pub controller_ports : Setup → Features → TraceAsk → List Port
controller_ports S F ask = subnet_ports F (tier_of S ask) ask.subnet

-- a subnetwork is asked for that has no controller
abbrev pub no_subnet : Setup → Features → TraceAsk → Option Refusal
no_subnet S F ask = refused_if (is_subnetwork ask.kind && (length (controller_ports S F ask) == 0)) refusal.NoSuchSubnetwork

-- ---- the starts

-- a subnetwork trace starts at the subnetwork's controllers
abbrev pub start_ports : Setup → Features → TraceAsk → List Port
start_ports S F ask = if is_subnetwork ask.kind then controller_ports S F ask else ask.starts

abbrev pub nodes_of : Features → List Port → List Node
nodes_of F ports = filter_map (start_node F) ports

abbrev pub start_nodes : Setup → Features → TraceAsk → List Node
start_nodes S F ask = nodes_of F (start_ports S F ask)

-- each start is a node of the features
abbrev pub StartsAreNodes : Setup → Features → TraceAsk → Type 0
StartsAreNodes S F ask = (n : Node) → Contains (start_nodes S F ask) n → Contains (nodes F) n

-- The first refusal of the starts. Each cause is looked at over all ports before the next one is.
abbrev pub starts_refusal : Setup → Features → TraceAsk → Option Refusal
starts_refusal S F ask = first_refusal
    (first_refusal (map (no_feature F) (given_starts ask))
    ∷ no_tier S ask
    ∷ no_subnet S F ask
    ∷ first_refusal (map (no_start F) (given_starts ask))
    ∷ [])
