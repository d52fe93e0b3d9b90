use Rattle.std.specs.Option.{option_copied}
use Rattle.un_feed_json.specs.Shown.{star_value}
use Rattle.un_feed_json.proofs.Shows.{text_written}
use Rattle.un_feed_json.proofs.print.star_text.Goals as goal

pub returns : goal.returns
returns c =
    text_written (star_value c.args.schema.now c.args.tiers.now c.args.at (option_copied c.args.star) c.args.version) _ _ _ _ _ _ c.into_inner.ensures.items c.in_ok-show_found.ensures.before c.new-writer.ensures.before c.new.ensures.items
    c.in_ok-show_found.ensures.ok c.new-writer.ensures.tokens
