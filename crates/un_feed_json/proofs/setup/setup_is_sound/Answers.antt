use Rattle.std.proofs.Common.{All, IsUtf8, subst}
use Rattle.un_feed_json.proofs.setup.setup_is_sound.Goals as goal

pub returns : goal.returns
returns c = record {
  catalog = c.rules-rules.ensures.catalog;
  tiers = c.len-count.ensures.list;
  texts = record {
    attributes = subst (All IsUtf8) c.attributes.ensures c.read_names.ensures;
    kinds = subst (All (λ kind. IsUtf8 kind.name)) c.kinds.ensures c.read_kinds.ensures;
    tiers = c.read_tiers.ensures;
  };
}
