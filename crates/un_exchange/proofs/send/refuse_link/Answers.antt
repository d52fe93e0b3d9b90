use Rattle.std.proofs.Common.{List, ℕ, Some, refl, sym, subst, inl, inr}
use Rattle.un_exchange.specs.declared.end.LinkEnd.TheVariants.{Memory, WriteFault}
use Rattle.un_exchange.specs.Writing.{Writes}
use Rattle.un_exchange.proofs.Texts.{memory_response}
use Rattle.un_exchange.proofs.send.refuse_link.Goals as goal

pub returns-in-Ok-clause-writes : goal.returns-in-Ok-clause-writes
returns-in-Ok-clause-writes g c =
    subst (λ (b : List ℕ). Writes (g.L.Link.taken c.args.link.now) (g.L.Link.taken c.send.new.link) b (Some Memory) (Some Memory)) (sym memory_response) (inl (refl, c.in-Ok.ensures.ok))

pub returns-in-Err-clause-writes : goal.returns-in-Err-clause-writes
returns-in-Err-clause-writes g c =
    subst (λ (b : List ℕ). Writes (g.L.Link.taken c.args.link.now) (g.L.Link.taken c.send.new.link) b (Some Memory) (Some WriteFault)) (sym memory_response) (inr (refl, c.in-Err.ensures.err))
