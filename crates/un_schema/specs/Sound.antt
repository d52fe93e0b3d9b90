-- What holds of each schema.
use Rattle.std.specs.Prelude.{ℕ, ◌≡◌, ◌≢◌, ◌<◌, ◌≤◌, length, map, All, AllPairs, IsTrue, IfSome}
use Rattle.un_conds.specs.Names.{IsNameList}
use Rattle.un_terms.specs.Config.{IsConfig}
use Rattle.un_schema.specs.declared.kind.Kind.{Kind}
use Rattle.un_schema.specs.Catalog.{Catalog, PathSet}
use Rattle.un_schema.specs.Fits.{fits}

-- a configuration whose paths have names, each another
pub record IsPathSet (c : PathSet) : Type 0 where
  pub config : IsConfig c.config
  pub named : length c.paths ≡ length c.config.paths
  pub names : IsNameList c.paths

-- a kind whose configuration, if it has one, exists
pub record HasConfig (configs : ℕ) (k : Kind) : Type 0 where
  pub config : IfSome k.config (λ c. c < configs)

pub record IsCatalog (catalog : Catalog) : Type 0 where
  pub attributes : IsNameList catalog.attributes
  pub categories : IsNameList catalog.categories
  pub few_configs : length catalog.configs ≤ 64
  pub configs : All IsPathSet catalog.configs
  pub some_kinds : 1 ≤ length catalog.kinds
  pub few_kinds : length catalog.kinds ≤ 256
  pub kinds : All (HasConfig (length catalog.configs)) catalog.kinds
  pub kind_names : AllPairs (λ x y. x ≢ y) (map (λ k. k.name) catalog.kinds)
  pub few_rules : length catalog.rules ≤ 4096
  pub rules : All (λ rule. IsTrue (fits catalog rule)) catalog.rules
