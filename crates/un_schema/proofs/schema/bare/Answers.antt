use Rattle.un_schema.proofs.Soundness.{sound_from}
use Rattle.un_schema.proofs.schema.bare.Goals as goal

pub invariant_of-result : goal.invariant_of-result
invariant_of-result c =
    rw (c.in_ok-table.ensures.ok, c.in_ok-rules.ensures, c.requires.attributes, c.requires.categories, c.requires.configs, c.requires.kinds)
    (sound_from c.args.raw.now c.requires.good_attributes c.requires.good_categories c.requires.good_configs c.requires.good_kinds)
