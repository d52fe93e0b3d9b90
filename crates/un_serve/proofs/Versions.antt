-- The version that a reply reports is that of the state at which it was given.
use Rattle.std.proofs.Common.{◌≡◌, ◌+◌, ℕ, Bool, true, false, List, length, Result, Ok, Err, Option, Some, None, refl, ap, sym, ◌∙◌, inl, inr}
use Rattle.std.specs.Prelude.{if◌then◌else◌}
use Rattle.std.specs.Option.{option_map_or}
use Rattle.un_geom.specs.Rectangle.{Rectangle}
use Rattle.un_defs.specs.declared.port.Port.{Port}
use Rattle.un_defs.specs.declared.port.Node.{Node}
use Rattle.un_defs.specs.declared.edit.Edit.{Edit}
use Rattle.un_defs.specs.declared.refusal.Refusal.{Refusal}
use Rattle.un_defs.specs.declared.refusal.Refusal.TheVariants as refusal
use Rattle.un_defs.specs.declared.walk.Dirt.{Dirt}
use Rattle.un_defs.specs.Ground.{Ground}
use Rattle.un_defs.specs.Features.{row}
use Rattle.un_defs.specs.declared.row.Row.{Row}
use Rattle.un_ask.specs.declared.word.EditWord.{EditWord}
use Rattle.un_ask.specs.declared.request.Command.{Command}
use Rattle.un_ask.specs.declared.request.Command.TheVariants as command
use Rattle.un_ask.specs.declared.query.Query.{Query}
use Rattle.un_ask.specs.declared.query.Asked.{Asked as Question}
use Rattle.un_ask.specs.declared.query.Asked.TheVariants as question
use Rattle.un_ask.specs.declared.reply.Reply.{Reply}
use Rattle.un_ask.specs.declared.reply.Reply.TheVariants as reply
use Rattle.un_ask.specs.declared.stored.StoredSubnet.{StoredSubnet}
use Rattle.un_ask.specs.declared.typed.TypedAsk.{TypedAsk}
use Rattle.un_tiers.specs.Lists.{tier_named}
use Rattle.un_resolve.specs.Resolved.{resolved, resolving_refusal}
use Rattle.un_resolve.specs.Walks.{path_asked, check_asked, diagram_asked}
use Rattle.un_trace.specs.TraceReply.{trace_reply, reply_given_dirt, lists_controllers, controllers_reply, result_reply}
use Rattle.un_loops.specs.Answer.{loops_reply, loops_given_dirt}
use Rattle.un_isolate.specs.Isolation.{Isolation}
use Rattle.un_isolate.specs.Answer.{isolation_of, isolation_given_way, isolation_given_dirt, isolation_reply}
use Rattle.un_resolve.specs.Kinds.{is_isolation}
use Rattle.un_core.specs.State.{State}
use Rattle.un_serve.specs.Printing.{version_of}
use Rattle.un_core.specs.Feature.{feature_of_row}
use Rattle.un_core.specs.Commands.{Stepped, step, command_refusal, refusal_reply, accepted, word_of, areas_of_edit}
use Rattle.un_core.specs.Step.{id_of, next_state, dirtied_by}
use Rattle.un_core.specs.Refusals.{refused}
use Rattle.un_core.specs.Answers.{kept_basis, answer, asked_on, query_refusal, feature_reply, row_reply, row_in_tier, subnet_reply, traced_on, at_version, is_loops, survey_for, kept_survey, reached_from, answered_or, path_over, check_over, diagram_over}
use Rattle.un_core.proofs.WalkReplies.{IsOfWalk, path_is, check_is, diagram_is}

-- ---- commands

edited_version : (s : State) (e : Edit) (o : Option EditWord) → version_of (option_map_or (λ w. reply.Edited (areas_of_edit s e) (id_of s e) w (s.version + 1)) o (reply.Ruled (areas_of_edit s e) (length s.features.rules + 1) (s.version + 1))) ≡ s.version + 1
edited_version s e None = refl
edited_version s e (Some w) = refl

accepted_version : (s : State) (c : Command) → version_of (accepted s c) ≡ s.version + 1
accepted_version s (command.Edit e) = edited_version s e (word_of e)
accepted_version s (command.Batch es) = refl
accepted_version s (command.Validate extent) = refl
accepted_version s (command.Rule rule) = refl
accepted_version s (command.Update tier subnet) = refl

module _ (s : State) (c : Command) where
  abbrev by : Option Refusal → Stepped
  by d = option_map_or (λ r. inr (refusal_reply s c r)) d (inl (next_state s c, (accepted s c, dirtied_by s c)))

  abbrev reply_of : Stepped → Reply
  reply_of (inl p) = p.1.0
  reply_of (inr r) = r

  pub done_version : (t : State) (r : Reply) (mark : List Rectangle) → step s c ≡ inl (t, (r, mark)) → version_of r ≡ s.version + 1
  done_version t r mark is = go (command_refusal s c) is
    where
      go : (d : Option Refusal) → by d ≡ inl (t, (r, mark)) → version_of r ≡ s.version + 1
      go None is = ap (λ (x : Stepped). version_of (reply_of x)) (sym is) ∙ accepted_version s c
      go (Some d) is = absurd (cc is)

  pub refused_version : (r : Reply) → step s c ≡ inr r → version_of r ≡ s.version
  refused_version r is = go (command_refusal s c) is
    where
      go : (d : Option Refusal) → by d ≡ inr r → version_of r ≡ s.version
      go None is = absurd (cc is)
      go (Some d) is = ap (λ (x : Stepped). version_of (reply_of x)) (sym is)

-- ---- queries

loops_version : (v : ℕ) (d : Option Dirt) (G : Ground) (ask : TypedAsk) (reached : List Node) → version_of (at_version v (loops_given_dirt d G ask reached)) ≡ v
loops_version v (Some d) G ask reached = refl
loops_version v None G ask reached = refl

clean_version : (v : ℕ) (b : Bool) (G : Ground) (ask : TypedAsk) (reached : List Node) → version_of (at_version v (if b then controllers_reply G ask reached else result_reply G ask reached)) ≡ v
clean_version v true G ask reached = refl
clean_version v false G ask reached = refl

trace_version : (v : ℕ) (d : Option Dirt) (G : Ground) (ask : TypedAsk) (reached : List Node) → version_of (at_version v (reply_given_dirt d G ask reached)) ≡ v
trace_version v (Some d) G ask reached = refl
trace_version v None G ask reached = clean_version v (lists_controllers ask.kind) G ask reached

way_version : (v : ℕ) (q : Option Port) (I : Isolation) (reached : List Node) → version_of (at_version v (isolation_given_way q I reached)) ≡ v
way_version v (Some q) I reached = refl
way_version v None I reached = refl

isolation_version : (v : ℕ) (d : Option Dirt) (G : Ground) (ask : TypedAsk) (reached : List Node) → version_of (at_version v (isolation_given_dirt d G ask reached)) ≡ v
isolation_version v (Some d) G ask reached = refl
isolation_version v None G ask reached = way_version v _ (isolation_of G ask) reached

over_version : (v : ℕ) (loops isolation : Bool) (G : Ground) (ask : TypedAsk) (reached : List Node)
    → version_of (at_version v (if loops then loops_reply G ask reached else if isolation then isolation_reply G ask reached else trace_reply G ask reached)) ≡ v
over_version v true isolation G ask reached = loops_version v _ G ask reached
over_version v false true G ask reached = isolation_version v _ G ask reached
over_version v false false G ask reached = trace_version v _ G ask reached

resolved_version : (s : State) (d : Option Refusal) (r : Reply) → version_of r ≡ s.version → version_of (option_map_or (refused s) d r) ≡ s.version
resolved_version s None r e = e
resolved_version s (Some d) r e = refl

feature_version : (s : State) (id : ℕ) → version_of (feature_reply s id) ≡ s.version
feature_version s id = go (row s.features id)
  where
    go : (o : Option Row) → version_of (option_map_or (λ r. reply.Feature (feature_of_row s.setup.schema r) s.version) o (refused s (refusal.NoSuchFeature id))) ≡ s.version
    go None = refl
    go (Some r) = refl

subnet_version : (s : State) (tier subnet : List ℕ) → version_of (subnet_reply s tier subnet) ≡ s.version
subnet_version s tier subnet = named (tier_named s.setup.tiers tier)
  where
    found : (o : Option StoredSubnet) → version_of (option_map_or (row_reply s tier) o (refused s refusal.NoSuchSubnetwork)) ≡ s.version
    found None = refl
    found (Some row) = refl

    named : (o : Option ℕ) → version_of (option_map_or (row_in_tier s tier subnet) o (refused s refusal.NoSuchTier)) ≡ s.version
    named None = refl
    named (Some number) = found _

walk_version : (v : ℕ) (r : Reply) → IsOfWalk r → version_of (at_version v r) ≡ v
walk_version v (reply.Path cost labels nodes version) is = refl
walk_version v (reply.Check valid version) is = refl
walk_version v (reply.Diagram edges kept pieces version) is = refl
walk_version v (reply.Refused refusal edit version) is = refl
walk_version v _ is = absurd is

answered_version : {A : Type 0} (s : State) (answer : A → Reply) (asked : Result A Refusal) → ((a : A) → version_of (answer a) ≡ s.version) → version_of (answered_or s answer asked) ≡ s.version
answered_version s answer (Err r) versions = refl
answered_version s answer (Ok a) versions = versions a

asked_version : (s : State) (what : Question) → version_of (asked_on s (kept_basis s) what) ≡ s.version
asked_version s question.Version = refl
asked_version s (question.Feature id) = feature_version s id
asked_version s (question.Dirty extent) = refl
asked_version s (question.Errors extent) = refl
asked_version s (question.Subnet tier subnet) = subnet_version s tier subnet
asked_version s (question.Trace ask) =
    let typed = resolved s.setup s.features ask in
    let over = survey_for (kept_basis s) typed.barriers.consistent in
    resolved_version s (resolving_refusal s.setup s.features ask) (traced_on (kept_basis s) typed) (over_version s.version (is_loops typed.kind) (is_isolation typed.kind) over.topology typed (reached_from over typed))
asked_version s (question.Path ask) =
    answered_version s (λ typed. at_version s.version (path_over (kept_survey s) typed)) (path_asked s.setup.schema s.features ask)
    (λ typed. walk_version s.version (path_over (kept_survey s) typed) (path_is (kept_survey s) typed))
asked_version s (question.Check ask) =
    answered_version s (λ typed. at_version s.version (check_over (kept_survey s) typed)) (check_asked s.setup.schema s.features ask)
    (λ typed. walk_version s.version (check_over (kept_survey s) typed) (check_is (kept_survey s) typed))
asked_version s (question.Diagram ask) =
    answered_version s (λ typed. at_version s.version (diagram_over (kept_survey s) typed)) (diagram_asked s.setup.schema s.features ask)
    (λ typed. walk_version s.version (diagram_over (kept_survey s) typed) (diagram_is (kept_survey s) typed))

pub answer_version : (s : State) (q : Query) → version_of (answer s q) ≡ s.version
answer_version s q = resolved_version s (query_refusal s q) (asked_on s (kept_basis s) q.what) (asked_version s q.what)
