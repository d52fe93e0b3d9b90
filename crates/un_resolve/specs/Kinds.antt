-- What a trace of each kind needs.
use Rattle.std.specs.Prelude.{Bool, true, false, ◌&&◌, not, [], ◌∷◌, Option, is_some}
use Rattle.un_schema.specs.declared.place.Place.{Place}
use Rattle.un_schema.specs.declared.place.Place.TheVariants as place
use Rattle.un_defs.specs.declared.refusal.Refusal.{Refusal}
use Rattle.un_defs.specs.declared.refusal.Refusal.TheVariants as refusal
use Rattle.un_defs.specs.Refusing.{first_refusal, refused_if}
use Rattle.un_ask.specs.declared.trace.TraceKind.{TraceKind}
use Rattle.un_ask.specs.declared.trace.TraceKind.TheVariants as kind
use Rattle.un_ask.specs.declared.trace.TraceAsk.{TraceAsk}

-- a trace of the kind starts at the controllers of a subnetwork
abbrev pub is_subnetwork : TraceKind → Bool
is_subnetwork kind.Connected = false
is_subnetwork kind.Subnetwork = true
is_subnetwork kind.Controllers = false
is_subnetwork kind.Upstream = false
is_subnetwork kind.Downstream = false
is_subnetwork kind.Loops = false
is_subnetwork kind.Isolation = false

-- a trace of the kind needs isolating devices
abbrev pub is_isolation : TraceKind → Bool
is_isolation kind.Connected = false
is_isolation kind.Subnetwork = false
is_isolation kind.Controllers = false
is_isolation kind.Upstream = false
is_isolation kind.Downstream = false
is_isolation kind.Loops = false
is_isolation kind.Isolation = true

-- a trace of the kind walks in a tier
abbrev pub needs_tier : TraceKind → Bool
needs_tier kind.Connected = false
needs_tier kind.Subnetwork = true
needs_tier kind.Controllers = true
needs_tier kind.Upstream = true
needs_tier kind.Downstream = true
needs_tier kind.Loops = false
needs_tier kind.Isolation = true

-- a trace of the kind is consistent, whatever is asked for
abbrev pub is_always_consistent : TraceKind → Bool
is_always_consistent kind.Connected = false
is_always_consistent kind.Subnetwork = false
is_always_consistent kind.Controllers = false
is_always_consistent kind.Upstream = false
is_always_consistent kind.Downstream = false
is_always_consistent kind.Loops = true
is_always_consistent kind.Isolation = true

-- the member is needed and not given
abbrev pub lacks : Bool → Bool → Place → Option Refusal
lacks needed given place = refused_if (needed && not given) (refusal.BadRequest place)

-- the first member that the kind needs and that is not given
abbrev pub lacking : TraceAsk → Option Refusal
lacking ask = first_refusal
    (lacks (needs_tier ask.kind) (is_some ask.tier) place.Tier
    ∷ lacks (is_subnetwork ask.kind) (is_some ask.subnet) place.Subnet
    ∷ lacks (is_isolation ask.kind) (is_some ask.isolators) place.Isolators
    ∷ [])
