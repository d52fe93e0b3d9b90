use Rattle.std.proofs.Common.{◌≡◌, ℕ, List, Option, option_map, IfOk, arith, sym, subst}
use Rattle.un_conds.specs.Conditions.{Condition}
use Rattle.un_conds.specs.Forms.{written}
use Rattle.un_json.proofs.Conditions.{no_condition, of_three}
use Rattle.un_json.proofs.condition.+condition.Goals as goal

pub read_parts-returns-in-len3 : goal.read_parts-returns-in-len3
read_parts-returns-in-len3 t c =
    let e = of_three c.args.items.now c.word-item-then-items-lt4.result c.first-item.result c.second-item.result (omega arith) c.word-item-then-items-lt4.is c.first-item.is c.second-item.is in
    subst (λ (o : Option (Condition (List ℕ))). IfOk c.read_two.result (λ raw. option_map written raw ≡ o)) (sym e) c.read_two.ensures

pub read_parts-returns-in-empty : goal.read_parts-returns-in-empty
read_parts-returns-in-empty t c = no_condition c.args.items.now (omega arith) (omega arith)

pub read_parts-returns-in-len1 : goal.read_parts-returns-in-len1
read_parts-returns-in-len1 t c = no_condition c.args.items.now (omega arith) (omega arith)

pub read_parts-returns-in-len4-up : goal.read_parts-returns-in-len4-up
read_parts-returns-in-len4-up t c = no_condition c.args.items.now (omega arith) (omega arith)
