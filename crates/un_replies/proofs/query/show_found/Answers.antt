use Rattle.std.proofs.Common.{◌≡◌, ◌++◌, ◌∷◌, codes}
use Rattle.json.specs.Token.{key}
use Rattle.json.specs.Tree.{json_tokens}
use Rattle.serde_json.specs.Written.{outline}
use Rattle.un_values.specs.Values.{counts}
use Rattle.un_values.proofs.Shows.{piece, on_ok}
use Rattle.un_replies.proofs.query.show_found.Goals as goal

pub returns-clause-ok : goal.returns-clause-ok
returns-clause-ok c =
    let begun = c.begin_object.new.self.tokens in
    let listed = c.list_member.new.out.tokens in
    let end = c.list_member-2.new.out.tokens in
    let controllers = rw c.as_slice.ensures at c.in_ok-list_member.ensures.ok in
    let members = rw c.as_slice-2.ensures at c.list_member-2.ensures.ok in
    on_ok c.list_member-2.result (end ≡ listed ++ key (codes "members") ∷ json_tokens (outline (counts c.args.members.now))) _ members (λ last.
    piece c.args.out.now.tokens begun end _ _ c.in_ok-begin_object.ensures.ok (piece begun listed end _ _ controllers last))
