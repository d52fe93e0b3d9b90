-- The text of a reply is read back as its value.
use Rattle.std.proofs.Common.{arith}
use Rattle.serde_json.specs.Read.{max_depth}
use Rattle.un_values.proofs.Formed.{of_less}
use Rattle.un_values.proofs.ReadBack as values
use Rattle.un_replies.specs.ReadBack.{ReadBackLaw, WideReadBackLaw, PastReadBackLaw, PastWideReadBackLaw}
use Rattle.un_replies.specs.Replies.{reply_value, past_value}
use Rattle.un_replies.proofs.FormedReplies.{of_reply, of_past}

pub wide_read_back : WideReadBackLaw
wide_read_back reply = values.wide_read_back (reply_value reply) (of_less 4 max_depth _ (omega arith) (of_reply reply))

pub read_back : ReadBackLaw
read_back reply = values.read_back (reply_value reply) (of_less 4 max_depth _ (omega arith) (of_reply reply))

pub past_wide_read_back : PastWideReadBackLaw
past_wide_read_back past version = values.wide_read_back (past_value past version) (of_less 5 max_depth _ (omega arith) (of_past past version))

pub past_read_back : PastReadBackLaw
past_read_back past version = values.read_back (past_value past version) (of_less 5 max_depth _ (omega arith) (of_past past version))
