use Rattle.std.proofs.Common.{◌≡◌, ◌++◌, ◌∷◌, [], codes, decimal, sym, ap, ◌∙◌}
use Rattle.json.specs.Token.{end_object, key, string, number}
use Rattle.json.specs.Tree.{json_tokens}
use Rattle.serde_json.specs.Written.{outline}
use Rattle.un_values.specs.Values.{counts, list}
use Rattle.un_replies.specs.Replies.{reply_value, port, status_text}
use Rattle.un_values.proofs.Shows.{on_ok}
use Rattle.un_replies.proofs.Shows.{two_lists}
use Rattle.un_replies.proofs.query.show_query.Goals as goal

pub returns-in_ok-show_found-in-Subnet-clause-ok : goal.returns-in_ok-show_found-in-Subnet-clause-ok
returns-in_ok-show_found-in-Subnet-clause-ok c =
    let row = c.in-Subnet in
    let start = c.args.out.now.tokens in
    let end = c.show_stored.new.out.tokens in
    let rest = key (codes "ok") ∷ string (codes "subnet") ∷ key (codes "status") ∷ string (status_text row.status)
    ∷ key (codes "subnet") ∷ string row.subnet ∷ key (codes "tier") ∷ string row.tier
    ∷ key (codes "updated") ∷ number (decimal row.updated) ∷ key (codes "version") ∷ number (decimal row.version) ∷ end_object ∷ [] in
    on_ok c.show_stored.result (end ≡ c.show_found.new.out.tokens ++ rest) _ c.show_stored.ensures.ok (λ last.
    two_lists start c.show_found.new.out.tokens end (json_tokens (outline (list port row.controllers))) (json_tokens (outline (counts row.members))) rest (codes "controllers") (codes "members")
    c.in_ok-show_found-in-Subnet.ensures.ok last
    ∙ ap (λ r. start ++ json_tokens (outline (reply_value r))) (sym row.is))
