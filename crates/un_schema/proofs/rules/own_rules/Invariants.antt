use Rattle.std.proofs.Common.{◌≡◌, true, is_some, take}
use Rattle.std.specs.List.{list_all, filter_map}
use Rattle.un_schema.specs.Raw.{rule_from}
use Rattle.un_schema.proofs.rules.own_rules.Given as goal

-- the rules so far are kept, and all of them may stand
abbrev pub invariant-loop-raw : goal.invariant-loop-raw
invariant-loop-raw l = record {
  kept : l.rules.items ≡ filter_map (rule_from l.fn.format l.schema) (take l.raw-index l.raws);
  good : list_all (λ raw. is_some (rule_from l.fn.format l.schema raw)) (take l.raw-index l.raws) ≡ true;
}
