use Rattle.std.proofs.Common.{◌≡◌, ◌++◌, ◌∷◌, []}
use Rattle.json.specs.Token.{end_object}
use Rattle.un_values.proofs.Shows.{piece, on_ok}
use Rattle.un_feed_json.proofs.print.show_versions.Goals as goal

pub returns-clause-ok : goal.returns-clause-ok
returns-clause-ok c =
    let step0 = c.in_ok-string_member.ensures.ok in
    let step1 = c.in_ok-count_member.ensures.ok in
    let step2 = c.in_ok-count_member-2.ensures.ok in
    let step3 = c.in_ok-count_member-3.ensures.ok in
    on_ok c.end_object.result (c.end_object.new.self.tokens ≡ c.count_member-3.new.out.tokens ++ end_object ∷ []) _ c.end_object.ensures.ok (λ last.
    (piece c.args.out.now.tokens c.string_member.new.out.tokens c.end_object.new.self.tokens _ _ step0
    (piece c.string_member.new.out.tokens c.count_member.new.out.tokens c.end_object.new.self.tokens _ _ step1
    (piece c.count_member.new.out.tokens c.count_member-2.new.out.tokens c.end_object.new.self.tokens _ _ step2
    (piece c.count_member-2.new.out.tokens c.count_member-3.new.out.tokens c.end_object.new.self.tokens _ _ step3
    last)))))
