use Rattle.std.proofs.Common.{◌≡◌, ◌++◌, ◌∷◌, [], ap, ◌∙◌}
use Rattle.json.specs.Token.{boolean}
use Rattle.json.specs.Tree.{json_tokens}
use Rattle.serde_json.specs.Written.{outline}
use Rattle.un_feed.specs.Differences.{change_shown}
use Rattle.un_feed_json.specs.Shown.{change}
use Rattle.un_values.specs.Values.{list}
use Rattle.un_values.proofs.Shows.{piece, on_ok}
use Rattle.un_feed_json.proofs.Shows.{list-map}
use Rattle.un_feed_json.proofs.print.show_page.Goals as goal

pub returns-clause-ok : goal.returns-clause-ok
returns-clause-ok c =
    let S = c.args.schema.now in
    let T = c.args.tiers.now in
    let pairs = c.args.page.now.pairs in
    let start = c.key.new.self.tokens in
    let step0 = c.in_ok-key.ensures.ok in
    let step1 = c.in_ok-show_list.ensures.ok
    ∙ ap (λ xs. start ++ json_tokens (outline (list (λ x. change S T (change_shown x)) xs))) c.as_slice.ensures
    ∙ ap (λ d. start ++ json_tokens (outline d)) (list-map (change S T) change_shown pairs) in
    let step2 = c.in_ok-key-2.ensures.ok in
    on_ok c.boolean.result (c.boolean.new.self.tokens ≡ c.key-2.new.self.tokens ++ boolean c.args.page.now.more ∷ []) _ c.boolean.ensures.ok (λ last.
    (piece c.args.out.now.tokens c.key.new.self.tokens c.boolean.new.self.tokens _ _ step0
    (piece c.key.new.self.tokens c.show_list.new.out.tokens c.boolean.new.self.tokens _ _ step1
    (piece c.show_list.new.out.tokens c.key-2.new.self.tokens c.boolean.new.self.tokens _ _ step2
    last))))
