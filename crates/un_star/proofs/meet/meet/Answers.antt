use Rattle.std.proofs.Common.{◌∙◌, ap, rules}
use Rattle.un_star.specs.Meet.{joints_among}
use Rattle.un_star.proofs.Standing.{joints_are}
use Rattle.un_star.proofs.meet.meet.Goals as goal

pub returns-clause-meeting : goal.returns-clause-meeting
returns-clause-meeting g c = record {
  all_standing = c.in_ok-standing.ensures;
  all_joints = c.in_ok-joints.ensures ∙ ap joints_among c.as_slice.ensures.value
      ∙ joints_are (g.R.Rows.features c.args.rows.now) c.args.p c.in_ok-standing.standing.items c.in_ok-standing.ensures;
  all_ends = c.in_ok-ends.ensures;
  grouped = search rules;
}
