use Rattle.std.proofs.Common.{map}
use Rattle.un_defs.proofs.Rising.{sorted-rising}
use Rattle.un_defs.proofs.OrderLaws.{point_total}
use Rattle.un_subnet.proofs.laws.row_points.Goals as goal

pub returns : goal.returns
returns c = λ ask reached. sorted-rising point_total (map (λ n. n.at) reached)
