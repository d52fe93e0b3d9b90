use Rattle.std.proofs.Common.{◌≡◌, drop, map}
use Rattle.un_defs.specs.Refusing.{first_refusal}
use Rattle.un_resolve.specs.Starts.{no_feature}
use Rattle.un_resolve.proofs.starts.check_features.Given as goal

-- what is due is due of the ports that are left
abbrev pub invariant-loop-port : goal.invariant-loop-port
invariant-loop-port g l = first_refusal (map (no_feature (g.D.Directory.features l.features)) l.ports) ≡ first_refusal (map (no_feature (g.D.Directory.features l.features)) (drop l.port-index l.ports))
