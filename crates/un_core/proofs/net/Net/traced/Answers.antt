use Rattle.std.proofs.Common.{◌≡◌, ◌≢◌, ◌+◌, ◌≤◌, false, length, Contains, IsSome, IsTrue, None, Some, sym, ap, subst, ◌∙◌}
use Rattle.std.specs.Option.{option_map_or}
use Rattle.un_tiers.specs.declared.setup.Setup.{Setup}
use Rattle.un_defs.specs.declared.port.Node.{Node}
use Rattle.un_defs.specs.declared.refusal.Refusal.TheVariants.{Memory}
use Rattle.un_defs.specs.Features.{Features}
use Rattle.un_defs.specs.Ports.{nodes}
use Rattle.un_ask.specs.declared.typed.TypedAsk.{TypedAsk}
use Rattle.un_resolve.specs.Kinds.{needs_tier, is_isolation}
use Rattle.un_resolve.specs.Starts.{tier_of, start_nodes}
use Rattle.un_resolve.specs.Valves.{isolates}
use Rattle.un_resolve.specs.Resolved.{condition_of, resolved, resolving_refusal}
use Rattle.un_core.specs.State.{State}
use Rattle.un_core.specs.Answers.{refused, at_version, MayWalk, kept_survey, kept_basis, reached_from, traced, traced_on, trace_on}
use Rattle.un_core.proofs.Asked.{kept_on, both_ok}
use Rattle.un_core.proofs.Taken.{may_walk}
use Rattle.un_core.proofs.net.Net.traced.Goals as goal

pub walked-requires : goal.walked-requires
walked-requires g c =
    let s = c.args.self.now in
    let ask = c.args.ask.now in
    let F : Features = c.self.inside.facts.features in
    let setup_is : c.setup.result.now ≡ s.setup = c.setup.ensures.setup ∙ ap (λ (t : State). t.setup) c.self.view_is in
    let features_is : F ≡ s.features = ap (λ (t : State). t.features) c.self.view_is in
    let typed_is : c.in-Ok.typed ≡ resolved s.setup s.features ask = c.in-Ok.ensures.typed ∙ (λ i. resolved (setup_is i) (features_is i) ask) in
    let tier : IsTrue (needs_tier ask.kind) → IsSome (tier_of s.setup ask) = subst (λ (S : Setup). IsTrue (needs_tier ask.kind) → IsSome (tier_of S ask)) setup_is c.in-Ok.ensures.tier in
    let starts : (n : Node) → Contains (start_nodes s.setup s.features ask) n → Contains (nodes s.features) n =
    subst (λ (K : Features). (n : Node) → Contains (start_nodes s.setup K ask) n → Contains (nodes K) n) features_is
    (subst (λ (S : Setup). (n : Node) → Contains (start_nodes S F ask) n → Contains (nodes F) n) setup_is c.in-Ok.ensures.starts) in
    let isolators : IsTrue (is_isolation ask.kind) → IsSome (condition_of s.setup.schema ask.isolators) =
    subst (λ (S : Setup). IsTrue (is_isolation ask.kind) → IsSome (condition_of S.schema ask.isolators)) setup_is c.in-Ok.ensures.isolators in
    let clear : IsTrue (is_isolation ask.kind) → (n : Node) → Contains (start_nodes s.setup s.features ask) n → isolates s.setup.schema s.features (condition_of s.setup.schema ask.isolators) n.port ≡ false =
    subst (λ (K : Features). IsTrue (is_isolation ask.kind) → (n : Node) → Contains (start_nodes s.setup K ask) n → isolates s.setup.schema K (condition_of s.setup.schema ask.isolators) n.port ≡ false) features_is
    (subst (λ (S : Setup). IsTrue (is_isolation ask.kind) → (n : Node) → Contains (start_nodes S F ask) n → isolates S.schema F (condition_of S.schema ask.isolators) n.port ≡ false) setup_is c.in-Ok.ensures.clear) in
    subst (MayWalk s.setup.schema s.features) (sym typed_is) (may_walk s.setup s.features ask tier starts isolators clear)

pub returns-in_ok-reply-in-Ok-clause-reply : goal.returns-in_ok-reply-in-Ok-clause-reply
returns-in_ok-reply-in-Ok-clause-reply g c =
    let s = c.args.self.now in
    let ask = c.args.ask.now in
    let F : Features = c.self.inside.facts.features in
    let setup_is : c.setup.result.now ≡ s.setup = c.setup.ensures.setup ∙ ap (λ (t : State). t.setup) c.self.view_is in
    let features_is : F ≡ s.features = ap (λ (t : State). t.features) c.self.view_is in
    let typed_is : c.in-Ok.typed ≡ resolved s.setup s.features ask = c.in-Ok.ensures.typed ∙ (λ i. resolved (setup_is i) (features_is i) ask) in
    let good : resolving_refusal s.setup s.features ask ≡ None = (λ i. resolving_refusal (sym setup_is i) (sym features_is i) ask) ∙ c.in-Ok.ensures.good in
    let reply : c.in_ok-reply-in-Ok.reply ≡ traced (kept_survey s) (resolved s.setup s.features ask) = c.in_ok-reply-in-Ok.ensures.reply ∙ ap (traced (kept_survey s)) typed_is in
    let version = ap (λ (t : State). t.version) c.self.view_is in
    c.at_version.ensures
    ∙ (λ i. at_version (version i) (reply i))
    ∙ (λ i. option_map_or (refused s) (sym good i) (sym (kept_on s (resolved s.setup s.features ask)) i))

pub returns-in_ok-reply-in-Ok-clause-ticks : goal.returns-in_ok-reply-in-Ok-clause-ticks
returns-in_ok-reply-in-Ok-clause-ticks g c =
    let s = c.args.self.now in
    let ask = c.args.ask.now in
    let setup_is : c.setup.result.now ≡ s.setup = c.setup.ensures.setup ∙ ap (λ (t : State). t.setup) c.self.view_is in
    let features_is = ap (λ (t : State). t.features) c.self.view_is in
    let typed_is : c.in-Ok.typed ≡ resolved s.setup s.features ask = c.in-Ok.ensures.typed ∙ (λ i. resolved (setup_is i) (features_is i) ask) in
    subst (λ (t : TypedAsk). c.walked.new.steps ≤ c.args.steps.now + length (reached_from (kept_survey s) t)) typed_is c.in_ok-reply-in-Ok.ensures.ticks

pub returns-in-Err-clause-reply : goal.returns-in-Err-clause-reply
returns-in-Err-clause-reply g c =
    let s = c.args.self.now in
    let ask = c.args.ask.now in
    let setup_is : c.setup.result.now ≡ s.setup = c.setup.ensures.setup ∙ ap (λ (t : State). t.setup) c.self.view_is in
    let features_is = ap (λ (t : State). t.features) c.self.view_is in
    let because : c.in-Err.refusal ≢ Memory → resolving_refusal s.setup s.features ask ≡ Some c.in-Err.refusal =
    λ other. (λ i. resolving_refusal (sym setup_is i) (sym features_is i) ask) ∙ c.in-Err.ensures.bad other in
    both_ok c.refused_by.result (λ reply. reply ≡ refused s c.in-Err.refusal) (λ reply. reply ≡ trace_on s (kept_basis s) ask) (c.in-Err.refusal ≢ Memory)
    c.refused_by.ensures.reply c.refused_by.ensures.other
    (λ reply is other. is ∙ (λ i. option_map_or (refused s) (sym (because other) i) (traced_on (kept_basis s) (resolved s.setup s.features ask))))
