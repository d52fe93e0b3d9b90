use Rattle.std.proofs.Common.{◌≡◌, ℕ, ◌||◌, not, List, [], ◌∷◌, ◌++◌, map, Option, IfSome, Vec, Global, sym, ap, subst, ◌∙◌}
use Rattle.un_defs.specs.declared.port.Node.{Node}
use Rattle.un_defs.specs.Reach.{is_barrier}
use Rattle.un_walk.specs.declared.seen.Seen.{Seen}
use Rattle.un_walk.specs.Found.{nodes}
use Rattle.un_trace.specs.Ports.{port_of_key}
use Rattle.un_trace.proofs.InResult.{same_test}
use Rattle.un_trace.proofs.PortKeys.{keys_more, keys_kept}
use Rattle.un_trace.proofs.ports.result_keys.Goals as goal
use Rattle.un_trace.proofs.ports.result_keys.Goals.{then-is_in_result+in-Some+in_ok-push, else-is_in_result}

pub loop-place-preserved : goal.loop-place-preserved
loop-place-preserved g c =
    let G = g.G.Ground.stars_and_areas c.args.over.now in
    let B = c.args.barriers.now in
    let ns : List Node = nodes c.args.found.now in
    let k = c.loop-place.place in
    let keys : List ℕ = c.loop-place.keys.items in
    let one : Seen = c.seen_at-one.result in
    let test : c.is_in_result.result ≡ (c.args.with_barriers || not (is_barrier G B one.node)) =
    c.is_in_result.ensures ∙ same_test G B c.args.with_barriers one c.seen_at-one.ensures.entry in
    elim c.if-is_in_result.branch [
      | then-is_in_result+in-Some+in_ok-push w ↦
          let items : c.if-is_in_result.keys.items ≡ keys ++ w.in-Some.key ∷ [] = ap (λ (v : Vec ℕ Global). v.items) w.keys-is ∙ w.in_ok-push.ensures.items in
          let is : port_of_key w.in-Some.key ≡ one.node.port = subst (λ (o : Option ℕ). IfSome o (λ key. port_of_key key ≡ one.node.port)) w.in-Some.is w.key_of.ensures in
          ap (map port_of_key) items
          ∙ keys_more G B c.args.with_barriers ns k one.node c.seen_at-one.ensures.node keys w.in-Some.key (sym test ∙ w.if-is_in_result.true) is c.loop-place.invariant
      | else-is_in_result w ↦
          ap (λ (v : Vec ℕ Global). map port_of_key v.items) w.keys-is
          ∙ keys_kept G B c.args.with_barriers ns k one.node c.seen_at-one.ensures.node keys (sym test ∙ w.if-is_in_result.false) c.loop-place.invariant
    ]
