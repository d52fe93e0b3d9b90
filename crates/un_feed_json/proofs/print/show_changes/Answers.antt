use Rattle.std.proofs.Common.{◌≡◌, ◌++◌, ◌∷◌, [], decimal, codes, map}
use Rattle.json.specs.Token.{end_object, key, string, number, boolean}
use Rattle.json.specs.Tree.{json_tokens}
use Rattle.serde_json.specs.Written.{outline}
use Rattle.un_feed.specs.Differences.{change_shown}
use Rattle.un_feed_json.specs.Shown.{change}
use Rattle.un_values.specs.Values.{list}
use Rattle.un_values.proofs.Shows.{piece, on_ok}
use Rattle.un_feed_json.proofs.Shows.{behind_value}
use Rattle.un_feed_json.proofs.print.show_changes.Goals as goal

pub returns-clause-ok : goal.returns-clause-ok
returns-clause-ok c =
    let step0 = c.in_ok-begin_object.ensures.ok in
    let step1 = c.in_ok-key.ensures.ok in
    let step2 = c.in_ok-show_place.ensures.ok in
    let step3 = c.in_ok-show_page.ensures.ok in
    let r = c.args.reply.now in
    on_ok c.show_versions.result
    (c.show_versions.new.out.tokens ≡ c.show_page.new.out.tokens
    ++ key (codes "ok") ∷ string (codes "changes") ∷ key (codes "since") ∷ number (decimal r.since) ∷ key (codes "upto") ∷ number (decimal r.upto) ∷ key (codes "version") ∷ number (decimal r.version) ∷ end_object ∷ [])
    _ c.show_versions.ensures.ok (λ last.
    (piece c.args.out.now.tokens c.begin_object.new.self.tokens c.show_versions.new.out.tokens _ _ step0
    (piece c.begin_object.new.self.tokens c.key.new.self.tokens c.show_versions.new.out.tokens _ _ step1
    (piece c.key.new.self.tokens c.show_place.new.out.tokens c.show_versions.new.out.tokens _ _ step2
    (behind_value c.show_place.new.out.tokens c.show_page.new.out.tokens c.show_versions.new.out.tokens
    (json_tokens (outline (list (change c.args.schema.now c.args.tiers.now) (map change_shown r.page.pairs)))) (key (codes "more") ∷ boolean r.page.more ∷ []) _ (key (codes "changes")) step3
    last)))))
