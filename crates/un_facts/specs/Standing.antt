-- What holds of the features of every network that edits have made.
use Rattle.un_defs.specs.Sound.{IsSound}
use Rattle.un_facts.specs.Known.{Known}
use Rattle.un_facts.specs.Attributes.{HaveAttributes}

-- the features are sound, and each attribute of a row has a name
pub record IsKnown (K : Known) : Type 0 where
  pub sound : IsSound K.setup.schema K.features
  pub attributes : HaveAttributes K.setup.schema K.features.rows
