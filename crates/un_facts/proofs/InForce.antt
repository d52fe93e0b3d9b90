-- Whatever rules are in force, the features are as sound.
use Rattle.std.proofs.Common.{List}
use Rattle.std.proofs.lemmas.List.Elements.{All-weaker}
use Rattle.un_schema.specs.declared.rule.Rule.{Rule}
use Rattle.un_schema.specs.Catalog.{Catalog}
use Rattle.un_defs.specs.declared.row.Row.{Row}
use Rattle.un_defs.specs.Features.{Features}
use Rattle.un_defs.specs.Sound.{IsSound, FitsKind}

module _ (S : Catalog) (rules : List Rule) where
  abbrev other : Catalog
  other = record S { rules = rules }

  fits : (r : Row) → FitsKind S r → FitsKind other r
  fits r is = record { class = is.class; terminals = is.terminals; terminal = is.terminal; path = is.path; enough = is.enough; few = is.few }

  pub sound_under : (F : Features) → IsSound S F → IsSound other F
  sound_under F is = record {
    rows = is.rows;
    associations = is.associations;
    controllers = is.controllers;
    kinds = All-weaker (FitsKind S) (FitsKind other) fits F.rows is.kinds;
    ends = is.ends;
    controlled = is.controlled;
  }
