use Rattle.std.proofs.Common.{◌≡◌, ◌++◌, ◌∷◌, [], map, ap, ◌∙◌}
use Rattle.json.specs.Token.{end_object}
use Rattle.un_feed_json.specs.Sorting.{pair_of}
use Rattle.un_values.proofs.Shows.{on_ok}
use Rattle.un_feed_json.proofs.Sorted.{attributes_steps}
use Rattle.un_feed_json.proofs.named.show_attributes.Goals as goal

pub returns-clause-ok : goal.returns-clause-ok
returns-clause-ok c =
    on_ok c.end_object.result (c.end_object.new.self.tokens ≡ c.show_pairs.new.out.tokens ++ end_object ∷ []) _ c.end_object.ensures.ok (λ last.
    attributes_steps c.args.schema.now c.args.attrs.now c.args.out.now.tokens c.begin_object.new.self.tokens c.show_pairs.new.out.tokens c.end_object.new.self.tokens
    (map pair_of c.as_slice.result.now) (ap (map pair_of) c.as_slice.ensures.value ∙ c.in_ok-pairs.ensures)
    c.in_ok-begin_object.ensures.ok c.in_ok-show_pairs.ensures.ok last)
