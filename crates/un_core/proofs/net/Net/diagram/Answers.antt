use Rattle.std.proofs.Common.{◌≡◌, ◌≢◌, ◌+◌, ◌≤◌, List, length, Contains, Result, Ok, Err, sym, ap, subst, ◌∙◌}
use Rattle.un_defs.specs.declared.port.Node.{Node}
use Rattle.un_defs.specs.declared.refusal.Refusal.{Refusal}
use Rattle.un_defs.specs.declared.refusal.Refusal.TheVariants.{Memory}
use Rattle.un_defs.specs.declared.walk.Barriers.{Barriers}
use Rattle.un_defs.specs.Features.{Features}
use Rattle.un_defs.specs.Ports.{nodes}
use Rattle.un_ask.specs.declared.reply.Reply.{Reply}
use Rattle.un_ask.specs.declared.typed.DiagramAsk.{DiagramAsk}
use Rattle.un_resolve.specs.Walks.{diagram_asked}
use Rattle.un_resolve.proofs.WalksAsked.{diagram_starts}
use Rattle.un_core.specs.State.{State}
use Rattle.un_core.specs.Answers.{refused, at_version, kept_survey, kept_basis, reached_any, reached_or, answered_or, diagram_over, diagram_on}
use Rattle.un_core.proofs.Asked.{both_ok}
use Rattle.un_core.proofs.net.Net.diagram.Goals as goal

pub diagram_kept-requires-clause-untiered : goal.diagram_kept-requires-clause-untiered
diagram_kept-requires-clause-untiered g c =
    ap (λ (B : Barriers). B.tier) (diagram_starts c.setup.result.now.schema c.self.inside.facts.features c.args.ask.now c.in-Ok.typed c.in-Ok.ensures.typed).stop

pub diagram_kept-requires-clause-consistent : goal.diagram_kept-requires-clause-consistent
diagram_kept-requires-clause-consistent g c =
    ap (λ (B : Barriers). B.consistent) (diagram_starts c.setup.result.now.schema c.self.inside.facts.features c.args.ask.now c.in-Ok.typed c.in-Ok.ensures.typed).stop

pub diagram_kept-requires-clause-starts : goal.diagram_kept-requires-clause-starts
diagram_kept-requires-clause-starts g c =
    subst (λ (F : Features). (n : Node) → Contains c.in-Ok.typed.starts n → Contains (nodes F) n) (ap (λ (t : State). t.features) c.self.view_is)
    (diagram_starts c.setup.result.now.schema c.self.inside.facts.features c.args.ask.now c.in-Ok.typed c.in-Ok.ensures.typed).stand

pub returns-in_ok-reply-in-Ok-clause-reply : goal.returns-in_ok-reply-in-Ok-clause-reply
returns-in_ok-reply-in-Ok-clause-reply g c =
    let s = c.args.self.now in
    let ask = c.args.ask.now in
    let setup_is : c.setup.result.now ≡ s.setup = c.setup.ensures.setup ∙ ap (λ (t : State). t.setup) c.self.view_is in
    let features_is : c.self.inside.facts.features ≡ s.features = ap (λ (t : State). t.features) c.self.view_is in
    let asked : diagram_asked s.setup.schema s.features ask ≡ Ok c.in-Ok.typed = (λ i. diagram_asked (sym setup_is i).schema (sym features_is i) ask) ∙ c.in-Ok.ensures.typed in
    let answer : DiagramAsk → Reply = λ typed. at_version s.version (diagram_over (kept_survey s) typed) in
    let version = ap (λ (t : State). t.version) c.self.view_is in
    c.at_version.ensures ∙ (λ i. at_version (version i) (c.in_ok-reply-in-Ok.ensures.reply i)) ∙ ap (answered_or s answer) (sym asked)

pub returns-in_ok-reply-in-Ok-clause-ticks : goal.returns-in_ok-reply-in-Ok-clause-ticks
returns-in_ok-reply-in-Ok-clause-ticks g c =
    let s = c.args.self.now in
    let ask = c.args.ask.now in
    let setup_is : c.setup.result.now ≡ s.setup = c.setup.ensures.setup ∙ ap (λ (t : State). t.setup) c.self.view_is in
    let features_is : c.self.inside.facts.features ≡ s.features = ap (λ (t : State). t.features) c.self.view_is in
    let asked : diagram_asked s.setup.schema s.features ask ≡ Ok c.in-Ok.typed = (λ i. diagram_asked (sym setup_is i).schema (sym features_is i) ask) ∙ c.in-Ok.ensures.typed in
    let found : DiagramAsk → List Node = λ typed. reached_any (kept_survey s) typed.barriers typed.starts in
    subst (λ (r : Result DiagramAsk Refusal). c.diagram_kept.new.steps ≤ c.args.steps.now + length (reached_or found r)) (sym asked) c.in_ok-reply-in-Ok.ensures.ticks

pub returns-in-Err-clause-reply : goal.returns-in-Err-clause-reply
returns-in-Err-clause-reply g c =
    let s = c.args.self.now in
    let ask = c.args.ask.now in
    let setup_is : c.setup.result.now ≡ s.setup = c.setup.ensures.setup ∙ ap (λ (t : State). t.setup) c.self.view_is in
    let features_is : c.self.inside.facts.features ≡ s.features = ap (λ (t : State). t.features) c.self.view_is in
    let because : c.in-Err.refusal ≢ Memory → diagram_asked s.setup.schema s.features ask ≡ Err c.in-Err.refusal =
    λ other. (λ i. diagram_asked (sym setup_is i).schema (sym features_is i) ask) ∙ c.in-Err.ensures.bad other in
    let answer : DiagramAsk → Reply = λ typed. at_version s.version (diagram_over (kept_survey s) typed) in
    both_ok c.refused_by.result (λ reply. reply ≡ refused s c.in-Err.refusal) (λ reply. reply ≡ diagram_on s (kept_basis s) ask) (c.in-Err.refusal ≢ Memory)
    c.refused_by.ensures.reply c.refused_by.ensures.other
    (λ reply is other. is ∙ ap (answered_or s answer) (sym (because other)))
