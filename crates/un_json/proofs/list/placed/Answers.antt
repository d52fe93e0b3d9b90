use Rattle.std.proofs.Common.{◌≡◌, Some, None, if◌then◌else◌, rules}
use Rattle.un_geom.specs.Places.{in_range}
use Rattle.un_json.proofs.Points.{all_placed}
use Rattle.un_json.proofs.list.placed.Goals as goal

pub returns : goal.returns
returns c =
    let x : Some c.in_ok-coordinate.field-0 ≡ (if in_range c.args.x then Some c.args.x else None) = search rules in
    let y : Some c.in_ok-coordinate-2.field-0 ≡ (if in_range c.args.y then Some c.args.y else None) = search rules in
    let z : Some c.in_ok-coordinate-3.field-0 ≡ (if in_range c.args.z then Some c.args.z else None) = search rules in
    all_placed c.args.x c.args.y c.args.z c.in_ok-coordinate.field-0 c.in_ok-coordinate-2.field-0 c.in_ok-coordinate-3.field-0 x y z
