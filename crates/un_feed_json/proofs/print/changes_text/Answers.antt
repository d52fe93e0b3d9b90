use Rattle.un_feed.specs.Differences.{changes_shown}
use Rattle.un_feed_json.specs.Shown.{changes_value}
use Rattle.un_feed_json.proofs.Shows.{text_written}
use Rattle.un_feed_json.proofs.print.changes_text.Goals as goal

pub returns : goal.returns
returns c =
    text_written (changes_value c.args.schema.now c.args.tiers.now (changes_shown c.args.reply.now)) _ _ _ _ _ _ c.into_inner.ensures.items c.in_ok-show_changes.ensures.before c.new-writer.ensures.before c.new.ensures.items
    c.in_ok-show_changes.ensures.ok c.new-writer.ensures.tokens
