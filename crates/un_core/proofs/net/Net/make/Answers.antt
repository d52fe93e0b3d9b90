use Rattle.std.proofs.Common.{◌<◌, sym, subst}
use Rattle.un_core.specs.State.{State}
use Rattle.un_core.specs.Step.{MayBeMadeAt}
use Rattle.un_core.specs.Making.{IsChange}
use Rattle.un_core.proofs.net.Net.make.Goals as goal

pub changed-requires : goal.changed-requires
changed-requires c =
    let same = sym c.in_ok-same.ensures in
    record {
      feature = subst (λ (s : State). s.next_feature < 9_000_000_000_100_000) same c.requires.feature;
      association = subst (λ (s : State). s.next_association < 9_000_000_000_100_000) same c.requires.association;
      area = subst (λ (s : State). s.next_area < 9_000_000_000_100_000) same c.requires.area;
      follows = subst (λ (s : State). IsChange s c.args.moment c.args.edit.now c.in_ok-change.change) same c.in_ok-change.ensures.follows;
      may = subst (λ (s : State). MayBeMadeAt c.args.moment s c.args.edit.now) same c.in_ok-change.ensures.may;
    }
