use Rattle.std.proofs.Common.{◌≡◌, ◌∙◌, ap, refl}
use Rattle.std.specs.Ordering.{nat_cmp}
use Rattle.std.specs.Map.{values_of}
use Rattle.std.specs.BTreeMap.{insert_entry}
use Rattle.un_store.specs.Changes.{with_row}
use Rattle.un_store.proofs.Held.{insert_keyed, insert_is}
use Rattle.un_store.proofs.store.Store.put.Goals as goal

put_is : (c : goal.In_ok-put) → c.put.new.self ≡ insert_entry nat_cmp c.self.inside.rows c.args.row.id c.args.row
put_is c = c.in_ok-put.ensures.ok ∙ ap (insert_entry nat_cmp c.self.inside.rows c.args.row.id) c.in_ok-shared.ensures.ok

pub invariant_of-self-2 : goal.invariant_of-self-2
invariant_of-self-2 c = insert_keyed c.args.row.id c.args.row c.self.inside.rows c.put.new.self refl (put_is c) c.self.invariant

pub returns-clause-ok : goal.returns-clause-ok
returns-clause-ok c = ap values_of (put_is c) ∙ insert_is c.args.row c.self.inside.rows c.self.invariant.ids ∙ ap (λ rows. with_row rows c.args.row) c.self.view_is
