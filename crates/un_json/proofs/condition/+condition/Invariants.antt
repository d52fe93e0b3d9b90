use Rattle.std.proofs.Common.{◌+◌, ◌*◌, max}
use Rattle.serde_json.specs.Data.{depth, items_depth}
use Rattle.serde_json.specs.View.{view, items_view}
use Rattle.un_json.proofs.condition.+condition.Given as goal

abbrev pub decreases-read_condition : goal.decreases-read_condition
decreases-read_condition l = 4 * depth (view l.value.now)

abbrev pub decreases-read_parts : goal.decreases-read_parts
decreases-read_parts l = 4 * items_depth (items_view l.items.now) + 3

abbrev pub decreases-read_one : goal.decreases-read_one
decreases-read_one l = 4 * depth (view l.part.now) + 2

abbrev pub decreases-read_two : goal.decreases-read_two
decreases-read_two l = 4 * max (depth (view l.first.now)) (depth (view l.second.now)) + 2

abbrev pub decreases-read_both : goal.decreases-read_both
decreases-read_both l = 4 * max (depth (view l.first.now)) (depth (view l.second.now)) + 1
