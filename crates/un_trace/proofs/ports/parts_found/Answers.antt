use Rattle.std.proofs.Common.{◌≡◌, ℕ, List, map, Option, IfSome, Vec, Global, ap, subst, ◌∙◌}
use Rattle.un_defs.specs.declared.port.Node.{Node}
use Rattle.un_defs.specs.Result.{result_nodes}
use Rattle.un_walk.specs.Found.{nodes}
use Rattle.un_trace.specs.Ports.{key_feature, key_number, port_of_key, port_of, parts_by}
use Rattle.un_trace.proofs.PortKeys.{parts_of_keys}
use Rattle.un_trace.proofs.ports.parts_found.Goals as goal

pub returns : goal.returns
returns g c =
    let G = g.G.Ground.stars_and_areas c.args.over.now in
    let B = c.args.barriers.now in
    let ns : List Node = nodes c.args.found.now in
    let are : map port_of_key c.in-Some-2.keys.items ≡ map port_of (result_nodes G B c.args.with_barriers ns) =
    subst (λ (o : Option (Vec ℕ Global)). IfSome o (λ v. map port_of_key v.items ≡ map port_of (result_nodes G B c.args.with_barriers ns))) c.in-Some-2.is c.in_ok-keys.ensures in
    c.in_ok-features-2.ensures
    ∙ ap (parts_by key_feature key_number) c.as_slice.ensures.value
    ∙ parts_of_keys G B c.args.with_barriers ns c.in-Some-2.keys.items c.sort_unstable.new.self.items are c.sort_unstable.ensures.permutation
