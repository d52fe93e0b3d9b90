use Rattle.std.proofs.Common.{◌≡◌, take}
use Rattle.un_path.specs.Paths.{ports_of, label_ports}
use Rattle.un_path.proofs.certificate.have_ports.Given as goal

abbrev pub invariant-loop-i : goal.invariant-loop-i
invariant-loop-i l = label_ports (take l.i l.labels) ≡ ports_of (take l.i l.nodes)
