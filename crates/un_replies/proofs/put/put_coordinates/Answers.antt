use mir.Val.{to_z, of_z}
use mir.Syntax.{w32}
use Rattle.std.proofs.Common.{rules, ◌≡◌, ℤ, [], ◌∷◌, ◌++◌, ◌∙◌}
use Rattle.std.proofs.lemmas.Int.{to_z-of_z}
use Rattle.serde_json.specs.Written.{compact_text}
use Rattle.un_values.specs.Values.{tuple, whole}
use Rattle.un_replies.proofs.Steps.{put_triple}
use Rattle.un_replies.proofs.put.put_coordinates.Goals as goal

-- a number that is passed on
abbrev passed : ℤ → ℤ
passed n = to_z w32 (of_z w32 n)

pub returns-clause-items : goal.returns-clause-items
returns-clause-items c =
    let x : passed c.args.x ≡ c.args.x = to_z-of_z w32 c.args.x (search rules) in
    let y : passed c.args.y ≡ c.args.y = to_z-of_z w32 c.args.y (search rules) in
    let z : passed c.args.z ≡ c.args.z = to_z-of_z w32 c.args.z (search rules) in
    put_triple c.args.out.now.items c.put.new.out.items c.put_whole.new.out.items c.put-2.new.out.items c.put_whole-2.new.out.items c.put-3.new.out.items c.put_whole-3.new.out.items
    c.put-4.new.out.items (passed c.args.x) (passed c.args.y) (passed c.args.z) c.put.ensures.items c.put_whole.ensures.items c.put-2.ensures.items c.put_whole-2.ensures.items
    c.put-3.ensures.items c.put_whole-3.ensures.items c.put-4.ensures.items
    ∙ (λ i. c.args.out.now.items ++ compact_text (tuple (whole (x i) ∷ whole (y i) ∷ whole (z i) ∷ [])))
