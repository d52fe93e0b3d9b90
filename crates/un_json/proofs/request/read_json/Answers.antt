use Rattle.std.proofs.Common.{false, arith, refl}
use Rattle.std.specs.Bool.{IsTrue}
use Rattle.un_json.proofs.Texts.{json_read, json_none}
use Rattle.un_json.proofs.request.read_json.Goals as goal

pub returns-in-Ok-clause-ok : goal.returns-in-Ok-clause-ok
returns-in-Ok-clause-ok c = json_read _ _ c.in-Ok.ensures.ok.0 c.in-Ok.ensures.ok.1

pub returns-in-Err-2-clause-err : goal.returns-in-Err-2-clause-err
returns-in-Err-2-clause-err c = λ _. (json_none _ (c.in-Err.ensures.err (λ memory. let h : IsTrue false = c.if-is_memory.ensures.1 memory in grind arith)), refl)
