-- The test of the code for two links is that of the definitions.
use Rattle.std.proofs.Common.{◌≡◌, Bool, true, false, ◌&&◌, ◌==◌, refl, ap, ◌∙◌}
use Rattle.std.specs.Ordering.{int_eq}
use mathlib.Core.Bool.{beq}
use Rattle.un_defs.specs.contracts.link.TiePartialEq.TheImpl as equal_ties
use Rattle.un_defs.specs.contracts.link.LinkNamePartialEq.TheImpl as equal_names
use Rattle.un_defs.specs.contracts.port.NodePartialEq.TheImpl as equal_nodes
use Rattle.un_defs.specs.declared.link.LinkName.{LinkName}
use Rattle.un_defs.specs.declared.link.LinkName.TheVariants.{Seg, Path, Coin, Assoc}
use Rattle.un_defs.specs.declared.link.Tie.{Tie}
use Rattle.un_defs.specs.declared.port.Node.{Node}
use Rattle.un_defs.specs.Orders.{same_port, same_node}
use Rattle.un_defs.specs.SameStar.{same_flag, same_name, same_tie}

of_three : (a b c : Bool) → (a && (b && c)) ≡ (a && b && c)
of_three true b c = refl
of_three false b c = refl

of_four : (a b c d : Bool) → (a && (b && (c && d))) ≡ (a && b && c && d)
of_four true true c d = refl
of_four true false c d = refl
of_four false b c d = refl

name_alike : (x y : LinkName) → equal_names.ghosts.eq x y ≡ same_name x y
name_alike (Seg a b) (Seg c d) = refl
name_alike (Seg a b) (Path c d e) = refl
name_alike (Seg a b) (Coin c d e f) = refl
name_alike (Seg a b) (Assoc c) = refl
name_alike (Path a b c) (Seg d e) = refl
name_alike (Path a b c) (Path d e f) = of_three (a == d) (b == e) (c == f)
name_alike (Path a b c) (Coin d e f g) = refl
name_alike (Path a b c) (Assoc d) = refl
name_alike (Coin a b c d) (Seg e f) = refl
name_alike (Coin a b c d) (Path e f g) = refl
name_alike (Coin a b c d) (Coin e f g h) = of_four (a == e) (b == f) (c == g) (d == h)
name_alike (Coin a b c d) (Assoc e) = refl
name_alike (Assoc a) (Seg b c) = refl
name_alike (Assoc a) (Path b c d) = refl
name_alike (Assoc a) (Coin b c d e) = refl
name_alike (Assoc a) (Assoc b) = refl

node_alike : (n m : Node) → equal_nodes.ghosts.eq n m ≡ same_node n m
node_alike n m = ap (λ b. same_port n.port m.port && b) (of_three (int_eq n.at.x m.at.x) (int_eq n.at.y m.at.y) (int_eq n.at.z m.at.z))

flag_alike : (a b : Bool) → beq a b ≡ same_flag a b
flag_alike true true = refl
flag_alike true false = refl
flag_alike false true = refl
flag_alike false false = refl

tie_alike : (s t : Tie) → equal_ties.ghosts.eq s t ≡ same_tie s t
tie_alike s t =
    (λ i. name_alike s.name t.name i && (node_alike s.to t.to i && (flag_alike s.out t.out i && flag_alike s.back t.back i)))
    ∙ of_four (same_name s.name t.name) (same_node s.to t.to) (same_flag s.out t.out) (same_flag s.back t.back)

pub ties_alike : equal_ties.ghosts.eq ≡ same_tie
ties_alike = λ i s t. tie_alike s t i
