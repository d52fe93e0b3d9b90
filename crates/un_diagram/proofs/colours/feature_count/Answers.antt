use Rattle.std.proofs.Common.{◌≡◌, ◌==◌, ℕ, List, [], ◌∷◌, map, length, eqb-true, eq-eqb, Option, Some, None, arith, refl, ap, ◌∙◌}
use Rattle.std.specs.Prelude.{slice_get}
use Rattle.std.specs.List.{dedup, filter_map, cons_option}
use Rattle.std.specs.Option.{option_map}
use Rattle.std.specs.Ordering.{nat_cmp}
use Rattle.std.specs.FinMap.{nat_cmp-IsAntisymmetric}
use Rattle.std.proofs.lemmas.Cmp.{nat_cmp_total}
use Rattle.std.proofs.lemmas.List.Filters.{dedup_is}
use Rattle.un_defs.specs.declared.port.Node.{Node}
use Rattle.un_defs.specs.Orders.{rising}
use Rattle.un_diagram.specs.Diagram.{features_of}
use Rattle.un_diagram.specs.Colours.{nodes_at, feature_at}
use Rattle.un_diagram.proofs.Sorting.{sorted_once}
use Rattle.un_diagram.proofs.colours.feature_count.Goals as goal

-- the features at the places are those of the nodes there
features_at : (nodes : List Node) (places : List ℕ) → filter_map (feature_at nodes) places ≡ map (λ (n : Node). n.port.feature) (nodes_at nodes places)
features_at nodes [] = refl
features_at nodes (i ∷ is) = ap (cons_option (feature_at nodes i)) (features_at nodes is) ∙ one (slice_get nodes i)
  where
    one : (o : Option Node) → cons_option (option_map (λ (n : Node). n.port.feature) o) (map (λ (n : Node). n.port.feature) (nodes_at nodes is)) ≡ map (λ (n : Node). n.port.feature) (cons_option o (nodes_at nodes is))
    one None = refl
    one (Some n) = refl

pub returns : goal.returns
returns c =
    let nodes = c.args.nodes.now in
    let places : List ℕ = c.args.places.now in
    let all = c.in_ok-features.ensures in
    let sorted = c.sort_unstable.new.self.items in
    let kept : c.dedup.new.self.items ≡ dedup ◌==◌ sorted = dedup_is _ _ _ c.dedup.ensures.filtered in
    let once = sorted_once nat_cmp_total nat_cmp-IsAntisymmetric ◌==◌ eqb-true (λ a. eq-eqb a a refl) c.in_ok-features.features.items sorted c.sort_unstable.ensures.permutation c.sort_unstable.ensures.sorted in
    let same : length c.dedup.new.self.items ≡ length (features_of (nodes_at nodes places)) = ap length (kept ∙ once ∙ ap (rising nat_cmp) (all ∙ features_at nodes places)) in
    omega (arith, same, c.len.ensures, c.dedup.new.self.ok.0)
