use Rattle.std.proofs.Common.{map, sym, ap, subst, ◌∙◌}
use Rattle.un_defs.specs.NamedAttributes.{IsNamedAttrs}
use Rattle.un_core.specs.Named.{pair_of}
use Rattle.un_core.proofs.Named.{named_rises}
use Rattle.un_core.proofs.feature.named_attrs.Goals as goal

pub new-requires : goal.new-requires
new-requires c =
    subst IsNamedAttrs (sym (c.in_ok-pairs.ensures ∙ ap (map pair_of) c.as_slice.ensures.value ∙ c.in_ok-all.ensures))
    (named_rises c.args.schema.now c.args.attrs.now)
