use Rattle.std.proofs.Common.{◌≡◌, ◌/◌, ◌^◌, ◌-ℤ◌, pos, neg_ℤ, unsigned_abs, ap, arith}
use Rattle.std.proofs.lemmas.Int.{ints}
use Rattle.un_dirty.specs.Cells.{cell_index}
use Rattle.un_dirty.proofs.cells.index.Goals as goal

pub returns-clause-index : goal.returns-clause-index
unfolding cell_index
returns-clause-index c =
    let far : c.abs_diff.result ≡ unsigned_abs (c.args.place -ℤ neg_ℤ (pos 2147483648)) = omega (arith, ints) in
    ap (λ n. (n / 4096) / 2 ^ c.args.level) far
