use Rattle.std.proofs.Common.{◌≡◌, [], map, take, drop}
use Rattle.un_tiers.specs.Raw.{written_tier, tier_from, first_bad}
use Rattle.un_tiers.specs.Lists.{IsTierList}
use Rattle.un_tiers.proofs.tiers.Tiers.new.Given as goal

-- the tiers so far are kept, and the first bad one is among the others
abbrev pub invariant-loop-tier : goal.invariant-loop-tier
invariant-loop-tier g l =
    let attributes = g.N.Names.attributes l.names in
    let categories = g.N.Names.categories l.names in
    record {
      kept : l.tiers.items ≡ map (tier_from attributes categories) (map written_tier (take l.tier-index l.raw));
      first : first_bad attributes categories [] (map written_tier l.raw) ≡ first_bad attributes categories l.tiers.items (map written_tier (drop l.tier-index l.raw));
      list : IsTierList l.tiers.items;
    }
