-- What certificates show, that the answer to a query for a path is one, and what the replies are, in the terms of walks.
use Rattle.std.specs.Prelude.{◌≡◌, ◌↔◌, true, List, Contains, None, IsTrue}
use Rattle.un_defs.specs.declared.port.Node.{Node}
use Rattle.un_defs.specs.declared.walk.Mode.TheVariants.{Any}
use Rattle.un_defs.specs.Ground.{Ground, entry}
use Rattle.un_defs.specs.Linked.{HaveOwnPorts}
use Rattle.un_defs.specs.Reach.{leads, dirt}
use Rattle.un_ask.specs.declared.typed.PathAsk.{PathAsk}
use Rattle.un_ask.specs.declared.typed.CheckAsk.{CheckAsk}
use Rattle.un_path.specs.declared.answer.PathFound.{PathFound}
use Rattle.un_path.specs.Answer.{IsReachFrom, IsFoundOver, found_over, path_reply, IsValidOver, is_valid_over, check_reply}
use Rattle.un_path.specs.Costs.{step_cost}
use Rattle.un_path.specs.Valid.{ShowsLeast}

-- a valid certificate shows that its walk costs least, or that there is none
abbrev pub CertificatesShow : Type 0
CertificatesShow = (G : Ground) (ask : CheckAsk) (reached : List Node) → IsReachFrom G ask.barriers ask.from reached → IsValidOver G ask reached
    → ShowsLeast (leads G ask.barriers Any) (step_cost G ask.barriers ask.weight) ask.from ask.to ask.nodes

-- the certificate that the answer to a query for a path makes
abbrev pub certificate_of : PathAsk → PathFound → CheckAsk
certificate_of ask found = record { from = ask.from; to = ask.to; weight = ask.weight; barriers = ask.barriers; nodes = found.nodes; labels = found.labels }

-- where labels are asked for, the answer is a valid certificate
abbrev pub PathsAreCertified : Type 0
PathsAreCertified = (G : Ground) (ask : PathAsk) (reached : List Node) (found : PathFound) → IsReachFrom G ask.barriers ask.from reached
    → ask.certificate ≡ true
    → IsFoundOver G ask reached found
    → IsValidOver G (certificate_of ask found) reached

-- of the nodes that walks reach, none of which share a port, the reply has the best walk and the least costs
abbrev pub PathReplyLaw : Type 0
PathReplyLaw = (G : Ground) (ask : PathAsk) (reached : List Node) → IsReachFrom G ask.barriers ask.from reached → HaveOwnPorts reached
    → IsFoundOver G ask reached (found_over G ask reached)

-- of the nodes that walks reach, the reply says exactly whether the certificate is valid
abbrev pub CheckReplyLaw : Type 0
CheckReplyLaw = (G : Ground) (ask : CheckAsk) (reached : List Node) → IsReachFrom G ask.barriers ask.from reached
    → IsTrue (is_valid_over G ask reached) ↔ IsValidOver G ask reached

-- over two grounds with the same areas, and the same entries at the reached nodes where these are clean, the reply is one
abbrev pub SamePathLaw : Type 0
SamePathLaw = (G H : Ground) (ask : PathAsk) (reached : List Node) → G.areas ≡ H.areas → IsReachFrom G ask.barriers ask.from reached
    → (dirt G reached ≡ None → (n : Node) → Contains reached n → entry G n ≡ entry H n)
    → path_reply G ask reached ≡ path_reply H ask reached

abbrev pub SameCheckLaw : Type 0
SameCheckLaw = (G H : Ground) (ask : CheckAsk) (reached : List Node) → G.areas ≡ H.areas → IsReachFrom G ask.barriers ask.from reached
    → (dirt G reached ≡ None → (n : Node) → Contains reached n → entry G n ≡ entry H n)
    → check_reply G ask reached ≡ check_reply H ask reached
