use Rattle.std.proofs.Common.{◌≡◌, drop, map}
use Rattle.un_defs.specs.Refusing.{first_refusal}
use Rattle.un_resolve.specs.Valves.{on_valve}
use Rattle.un_resolve.proofs.valves.check_valves.Given as goal

-- what is due is due of the ports that are left
abbrev pub invariant-loop-port : goal.invariant-loop-port
invariant-loop-port g l = first_refusal (map (on_valve l.schema (g.D.Directory.features l.features) l.isolators) l.ports)
    ≡ first_refusal (map (on_valve l.schema (g.D.Directory.features l.features) l.isolators) (drop l.port-index l.ports))
