use Rattle.std.proofs.Common.{◌≡◌, ◌++◌, ◌∷◌, []}
use Rattle.json.specs.Token.{end_object}
use Rattle.un_values.proofs.Shows.{piece, on_ok}
use Rattle.un_replies.proofs.feature.show_feature.Goals as goal

pub returns-clause-ok : goal.returns-clause-ok
returns-clause-ok c =
    let step0 = c.in_ok-begin_object.ensures.ok in
    let step1 = c.in_ok-key.ensures.ok in
    let step2 = rw c.as_slice.ensures.pairs at c.in_ok-show_attributes.ensures.ok in
    let step3 = c.in_ok-count_member.ensures.ok in
    let step4 = c.in_ok-list_member.ensures.ok in
    let step5 = rw c.flow_text.ensures at c.in_ok-string_member.ensures.ok in
    let step6 = c.in_ok-count_member-2.ensures.ok in
    let step7 = rw c.text.ensures.text at c.in_ok-string_member-2.ensures.ok in
    let step8 = rw c.text-2.ensures at c.in_ok-string_member-3.ensures.ok in
    let step9 = c.in_ok-string_member-4.ensures.ok in
    let step10 = rw c.path_text.ensures at c.in_ok-string_member-5.ensures.ok in
    let step11 = rw c.as_slice-2.ensures at c.in_ok-list_member-2.ensures.ok in
    let step12 = c.in_ok-count_member-3.ensures.ok in
    on_ok c.end_object.result (c.end_object.new.self.tokens ≡ c.count_member-3.new.out.tokens ++ end_object ∷ []) _ c.end_object.ensures.ok (λ last.
    (piece c.args.out.now.tokens c.begin_object.new.self.tokens c.end_object.new.self.tokens _ _ step0
    (piece c.begin_object.new.self.tokens c.key.new.self.tokens c.end_object.new.self.tokens _ _ step1
    (piece c.key.new.self.tokens c.show_attributes.new.out.tokens c.end_object.new.self.tokens _ _ step2
    (piece c.show_attributes.new.out.tokens c.count_member.new.out.tokens c.end_object.new.self.tokens _ _ step3
    (piece c.count_member.new.out.tokens c.list_member.new.out.tokens c.end_object.new.self.tokens _ _ step4
    (piece c.list_member.new.out.tokens c.string_member.new.out.tokens c.end_object.new.self.tokens _ _ step5
    (piece c.string_member.new.out.tokens c.count_member-2.new.out.tokens c.end_object.new.self.tokens _ _ step6
    (piece c.count_member-2.new.out.tokens c.string_member-2.new.out.tokens c.end_object.new.self.tokens _ _ step7
    (piece c.string_member-2.new.out.tokens c.string_member-3.new.out.tokens c.end_object.new.self.tokens _ _ step8
    (piece c.string_member-3.new.out.tokens c.string_member-4.new.out.tokens c.end_object.new.self.tokens _ _ step9
    (piece c.string_member-4.new.out.tokens c.string_member-5.new.out.tokens c.end_object.new.self.tokens _ _ step10
    (piece c.string_member-5.new.out.tokens c.list_member-2.new.out.tokens c.end_object.new.self.tokens _ _ step11
    (piece c.list_member-2.new.out.tokens c.count_member-3.new.out.tokens c.end_object.new.self.tokens _ _ step12
    last))))))))))))))
