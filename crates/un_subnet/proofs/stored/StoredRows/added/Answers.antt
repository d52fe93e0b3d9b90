use Rattle.std.proofs.Common.{rules, ◌≡◌, ◌+◌}
use Rattle.un_subnet.proofs.Kept.{kept_added}
use Rattle.un_subnet.proofs.stored.StoredRows.added.Goals as goal

pub invariant_of-result : goal.invariant_of-result
invariant_of-result c =
    let more : c.self.inside.next + 1 ≡ c.in_ok-next.next = search (rules, c.checked_add.ensures, c.in_ok-next.ensures.ok_part) in
    kept_added c.self.inside.rows c.self.inside.keys c.self.inside.next c.self.invariant c.add_row.new.rows c.add_row.new.keys c.args.row c.in_ok-next.next more
    c.requires c.in_ok-add_row.ensures.rows c.in_ok-add_row.ensures.index
