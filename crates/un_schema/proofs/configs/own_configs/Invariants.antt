use Rattle.std.proofs.Common.{◌≡◌, true, map, take}
use Rattle.std.specs.List.{list_all}
use Rattle.un_schema.specs.Catalog.{path_set}
use Rattle.un_schema.specs.Raw.{is_config, config_from}
use Rattle.un_schema.proofs.configs.own_configs.Given as goal

-- the configurations so far are kept, and all of them are good
abbrev pub invariant-loop-raw : goal.invariant-loop-raw
invariant-loop-raw l = record {
  kept : map path_set l.configs.items ≡ map config_from (take l.raw-index l.raws);
  good : list_all is_config (take l.raw-index l.raws) ≡ true;
}
