-- No reply of a network tells of want of memory: that is told apart from all replies.
use Rattle.std.proofs.Common.{◌≢◌, ℕ, ◌+◌, ◌||◌, nat_lt, nat_le, not, length, if◌then◌else◌, Bool, true, false, List, [], ◌∷◌, Option, None, Some, option_map, Result, Ok, Err}
use Rattle.std.specs.Option.{option_map_or}
use Rattle.un_geom.specs.Rectangle.{Rectangle}
use Rattle.un_schema.specs.declared.place.Place.TheVariants as place
use Rattle.un_defs.specs.declared.row.Row.{Row}
use Rattle.un_defs.specs.declared.port.Node.{Node}
use Rattle.un_defs.specs.declared.walk.Dirt.{Dirt}
use Rattle.un_defs.specs.declared.edit.Edit.{Edit}
use Rattle.un_defs.specs.declared.edit.Edit.TheVariants as edit
use Rattle.un_defs.specs.declared.refusal.Refusal.{Refusal}
use Rattle.un_defs.specs.declared.refusal.Refusal.TheVariants as refusal
use Rattle.un_defs.specs.declared.refusal.Limit.TheVariants as limit
use Rattle.un_defs.specs.Ground.{Ground}
use Rattle.un_defs.specs.Features.{row}
use Rattle.un_defs.specs.Dirtied.{dirtied}
use Rattle.un_defs.specs.Reach.{dirt}
use Rattle.un_defs.specs.Refusing.{first_refusal}
use Rattle.un_defs.proofs.NoMemory.{IsOther, AreOther, first_other, other_where}
use Rattle.un_facts.specs.Known.{in_force}
use Rattle.un_facts.specs.Ruling.{rule_refusal as adding_refusal}
use Rattle.un_facts.proofs.NoMemory.{none_other, edit_other, adding_other}
use Rattle.un_schema.specs.declared.rule.Rule.{Rule}
use Rattle.un_ask.specs.declared.rule.NamedRule.{NamedRule}
use Rattle.un_resolve.specs.Rules.{naming_refusal}
use Rattle.un_ask.specs.declared.request.Command.{Command}
use Rattle.un_ask.specs.declared.request.Command.TheVariants as command
use Rattle.un_ask.specs.declared.word.EditWord.{EditWord}
use Rattle.un_ask.specs.declared.query.Query.{Query}
use Rattle.un_ask.specs.declared.query.Asked.{Asked}
use Rattle.un_ask.specs.declared.query.Asked.TheVariants as asked
use Rattle.un_ask.specs.declared.typed.TypedAsk.{TypedAsk}
use Rattle.un_ask.specs.declared.reply.Reply.{Reply}
use Rattle.un_ask.specs.declared.reply.Reply.TheVariants as reply
use Rattle.un_resolve.specs.Resolved.{resolved, resolving_refusal}
use Rattle.un_resolve.specs.Walks.{path_asked, check_asked, diagram_asked}
use Rattle.un_resolve.proofs.NoMemory.{resolving_other, naming_other, IsOtherOf, path_other, check_other, diagram_other}
use Rattle.un_ask.specs.declared.typed.PathAsk.{PathAsk}
use Rattle.un_ask.specs.declared.typed.CheckAsk.{CheckAsk}
use Rattle.un_path.specs.Answer.{path_given_dirt, path_reply}
use Rattle.un_path.specs.Answer.{check_given_dirt, check_reply}
use Rattle.un_ask.specs.declared.typed.DiagramAsk.{DiagramAsk}
use Rattle.un_diagram.specs.Answer.{diagram_given_dirt, diagram_reply}
use Rattle.un_ask.specs.Replies.{IsNoMemory}
use Rattle.un_loops.specs.Answer.{loops_reply, loops_given_dirt}
use Rattle.un_isolate.specs.IsolationList.{first_in_the_way}
use Rattle.un_isolate.specs.Answer.{isolation_of, isolation_given_way, isolation_given_dirt, isolation_reply}
use Rattle.un_resolve.specs.Kinds.{is_isolation}
use Rattle.un_defs.specs.declared.port.Port.{Port}
use Rattle.un_trace.specs.TraceReply.{trace_reply, reply_given_dirt, lists_controllers, controllers_reply, result_reply}
use Rattle.un_core.specs.State.{State, known, fresh_ground_of}
use Rattle.un_core.specs.Refusals.{numbers_refusal, too_many, beside_numbers, added_refusal, rule_refusal, first_refused, most_areas, last_number}
use Rattle.un_core.specs.Step.{made_at, id_of, rule_of}
use Rattle.un_core.specs.Commands.{is_known, unknown, known_refusal, command_refusal, refusal_reply, accepted, word_of, areas_of_edit, edit_reply, command_reply}
use Rattle.un_core.specs.Answers.{Basis, answer_on, asked_on, traced_on, survey_for, reached_from, at_version, query_refusal, feature_reply, row_reply, row_in_tier, subnet_reply, refused, is_loops, reply_over, reached_any, answered_or, path_over, check_over, diagram_over}
use Rattle.un_tiers.specs.Lists.{tier_named}
use Rattle.un_defs.specs.declared.walk.Mode.TheVariants.{Any}
use Rattle.un_ask.specs.declared.stored.StoredSubnet.{StoredSubnet}
use Rattle.un_subnet.specs.Outcome.{refuses, outcome_refusal}
use Rattle.un_subnet.specs.Stored.{row_for}
use Rattle.un_subnet.proofs.NoMemory.{outcome_other}
use Rattle.un_core.specs.Walked.{reached, fresh_survey}
use Rattle.un_core.specs.Updating.{walk_of, outcome_in, outcome}
use Rattle.un_core.specs.Feature.{feature_of_row}

-- ---- commands

numbers_other : (s : State) → IsOther (numbers_refusal s)
numbers_other s = other_where
    (nat_le last_number s.version || nat_le last_number s.next_feature || nat_le last_number s.next_association || nat_le last_number s.next_area)
    (refusal.Full limit.Numbers) (λ e. cc)

areas_other : (areas : List (ℕ × Rectangle)) (rectangles : List Rectangle) → IsOther (too_many areas rectangles)
areas_other areas [] = none_other
areas_other areas (r ∷ rs) = other_where (nat_lt most_areas (length areas + length (r ∷ rs))) (refusal.Full limit.Areas) (λ e. cc)

beside_are_other : (s : State) (e : Edit) → AreOther (beside_numbers s e)
unfolding AreOther
beside_are_other s e = (edit_other (known s) e, (areas_other s.areas (dirtied s.features e), tt))

beside_other : (s : State) (e : Edit) → IsOther (first_refusal (beside_numbers s e))
beside_other s e = first_other (beside_numbers s e) (beside_are_other s e)

refused_other : (s : State) (place : ℕ) (es : List Edit) → IsOther (option_map (λ p. p.1) (first_refused s place es))
refused_other s place [] = none_other
refused_other s place (e ∷ es) = go (first_refusal (beside_numbers s e)) (beside_other s e) (refused_other (made_at 0 s e) (place + 1) es)
  where
    go : (d : Option Refusal) → IsOther d → IsOther (option_map (λ p. p.1) (first_refused (made_at 0 s e) (place + 1) es))
        → IsOther (option_map (λ p. p.1) (option_map_or (λ r. Some (place, r)) d (first_refused (made_at 0 s e) (place + 1) es)))
    go None cause rest = rest
    go (Some r) cause rest = cause

outcome_is_other : (s : State) (tier subnet : List ℕ) → IsOther (outcome_refusal (outcome s tier subnet))
unfolding IsOther
outcome_is_other s tier subnet = go (tier_named s.setup.tiers tier)
  where
    go : (o : Option ℕ) → IsOther (outcome_refusal (option_map_or (λ number. outcome_in s (fresh_survey s) number subnet) o (refuses refusal.NoSuchTier)))
    go None = λ e. cc
    go (Some number) =
        let ask = walk_of s number subnet in
        outcome_other (fresh_ground_of s) s.features s.stored ask.barriers.of_tier ask.disjoint (Some number) subnet (reached (fresh_survey s) ask.barriers Any ask.starts)

added_other : (s : State) (o : Option Rule) → IsOther (added_refusal s o)
unfolding IsOther AreOther
added_other s None = tt
added_other s (Some rule) = first_other (adding_refusal (in_force (known s)) rule ∷ too_many s.areas (dirtied s.features (edit.Rule rule)) ∷ [])
    (adding_other (in_force (known s)) rule, (areas_other s.areas (dirtied s.features (edit.Rule rule)), tt))

rule_other : (s : State) (named : NamedRule) → IsOther (rule_refusal s named)
unfolding AreOther
rule_other s named = first_other (numbers_refusal s ∷ naming_refusal s.setup.schema named ∷ added_refusal s (rule_of s named) ∷ [])
    (numbers_other s, (naming_other s.setup.schema named, (added_other s (rule_of s named), tt)))

unknown_other : (c : Command) → IsOther (unknown c)
unknown_other c = other_where (not (is_known c)) (refusal.BadRequest place.Do) (λ e. cc)

known_other : (s : State) (c : Command) → IsOther (known_refusal s c)
unfolding AreOther
known_other s (command.Edit e) = first_other (numbers_refusal s ∷ beside_numbers s e) (numbers_other s, beside_are_other s e)
known_other s (command.Batch es) = first_other (numbers_refusal s ∷ option_map (λ p. p.1) (first_refused s 0 es) ∷ [])
    (numbers_other s, (refused_other s 0 es, tt))
known_other s (command.Rule named) = rule_other s named
known_other s (command.Update tier subnet) = first_other (numbers_refusal s ∷ outcome_refusal (outcome s tier subnet) ∷ []) (numbers_other s, (outcome_is_other s tier subnet, tt))
known_other s _ = numbers_other s

command_other : (s : State) (c : Command) → IsOther (command_refusal s c)
unfolding AreOther
command_other s c = first_other (unknown c ∷ known_refusal s c ∷ []) (unknown_other c, (known_other s c, tt))

-- a refusal where one is due, or else a reply
reply_where : (d : Option Refusal) (refuse : Refusal → Reply) (other : Reply) → IsOther d → ((r : Refusal) → r ≢ refusal.Memory → IsNoMemory (refuse r)) → IsNoMemory other
    → IsNoMemory (option_map_or refuse d other)
unfolding IsOther
reply_where None refuse other cause refused rest = rest
reply_where (Some r) refuse other cause refused rest = refused r cause

edit_reply_other : (s : State) (e : Edit) → IsNoMemory (edit_reply s e)
edit_reply_other s e = go (word_of e)
  where
    go : (o : Option EditWord) → IsNoMemory (option_map_or (λ w. reply.Edited (areas_of_edit s e) (id_of s e) w (s.version + 1)) o
        (reply.Ruled (areas_of_edit s e) (length s.features.rules + 1) (s.version + 1)))
    go None = tt
    go (Some w) = tt

pub command_is_no_memory : (s : State) (c : Command) → IsNoMemory (command_reply s c)
command_is_no_memory s c = reply_where (command_refusal s c) (refusal_reply s c) (accepted s c) (command_other s c) (λ r other. other) (at c)
  where
    at : (c : Command) → IsNoMemory (accepted s c)
    at (command.Edit e) = edit_reply_other s e
    at _ = tt

-- ---- queries

subnet_reply_other : (s : State) (tier subnet : List ℕ) → IsNoMemory (subnet_reply s tier subnet)
subnet_reply_other s tier subnet = named (tier_named s.setup.tiers tier)
  where
    found : (o : Option StoredSubnet) → IsNoMemory (option_map_or (row_reply s tier) o (refused s refusal.NoSuchSubnetwork))
    found None = λ e. cc
    found (Some row) = tt

    named : (o : Option ℕ) → IsNoMemory (option_map_or (row_in_tier s tier subnet) o (refused s refusal.NoSuchTier))
    named None = λ e. cc
    named (Some number) = found (row_for s.stored number subnet)

trace_other : (v : ℕ) (G : Ground) (ask : TypedAsk) (reached : List Node) → IsNoMemory (at_version v (trace_reply G ask reached))
trace_other v G ask reached = go (if ask.barriers.consistent then dirt G reached else None)
  where
    clean : (b : Bool) → IsNoMemory (at_version v (if b then controllers_reply G ask reached else result_reply G ask reached))
    clean true = tt
    clean false = tt

    go : (d : Option Dirt) → IsNoMemory (at_version v (reply_given_dirt d G ask reached))
    go (Some d) = λ e. cc
    go None = clean (lists_controllers ask.kind)

loops_other : (v : ℕ) (G : Ground) (ask : TypedAsk) (reached : List Node) → IsNoMemory (at_version v (loops_reply G ask reached))
loops_other v G ask reached = go (dirt G reached)
  where
    go : (d : Option Dirt) → IsNoMemory (at_version v (loops_given_dirt d G ask reached))
    go (Some d) = λ e. cc
    go None = tt

isolation_other : (v : ℕ) (G : Ground) (ask : TypedAsk) (reached : List Node) → IsNoMemory (at_version v (isolation_reply G ask reached))
isolation_other v G ask reached = go (dirt G reached)
  where
    in_the_way : (q : Option Port) → IsNoMemory (at_version v (isolation_given_way q (isolation_of G ask) reached))
    in_the_way (Some q) = λ e. cc
    in_the_way None = tt

    go : (d : Option Dirt) → IsNoMemory (at_version v (isolation_given_dirt d G ask reached))
    go (Some d) = λ e. cc
    go None = in_the_way (first_in_the_way (isolation_of G ask) reached)

reply_over_other : (v : ℕ) (G : Ground) (ask : TypedAsk) (reached : List Node) → IsNoMemory (at_version v (reply_over G ask reached))
reply_over_other v G ask reached = go (is_loops ask.kind) (is_isolation ask.kind)
  where
    go : (loops isolation : Bool)
        → IsNoMemory (at_version v (if loops then loops_reply G ask reached else if isolation then isolation_reply G ask reached else trace_reply G ask reached))
    go true isolation = loops_other v G ask reached
    go false true = isolation_other v G ask reached
    go false false = trace_other v G ask reached

feature_reply_other : (s : State) (id : ℕ) → IsNoMemory (feature_reply s id)
feature_reply_other s id = go (row s.features id)
  where
    go : (o : Option Row) → IsNoMemory (option_map_or (λ r. reply.Feature (feature_of_row s.setup.schema r) s.version) o (refused s (refusal.NoSuchFeature id)))
    go None = λ e. cc
    go (Some r) = tt

path_reply_other : (v : ℕ) (G : Ground) (ask : PathAsk) (reached : List Node) → IsNoMemory (at_version v (path_reply G ask reached))
path_reply_other v G ask reached = go (dirt G reached)
  where
    go : (d : Option Dirt) → IsNoMemory (at_version v (path_given_dirt d G ask reached))
    go (Some d) = λ e. cc
    go None = tt

check_reply_other : (v : ℕ) (G : Ground) (ask : CheckAsk) (reached : List Node) → IsNoMemory (at_version v (check_reply G ask reached))
check_reply_other v G ask reached = go (dirt G reached)
  where
    go : (d : Option Dirt) → IsNoMemory (at_version v (check_given_dirt d G ask reached))
    go (Some d) = λ e. cc
    go None = tt

diagram_reply_other : (v : ℕ) (G : Ground) (ask : DiagramAsk) (reached : List Node) → IsNoMemory (at_version v (diagram_reply G ask reached))
diagram_reply_other v G ask reached = go (dirt G reached)
  where
    go : (d : Option Dirt) → IsNoMemory (at_version v (diagram_given_dirt d G ask reached))
    go (Some d) = λ e. cc
    go None = tt

-- an answer where names are known, or else another refusal
answered_other : {A : Type 0} (s : State) (answer : A → Reply) (asked : Result A Refusal) → IsOtherOf asked → ((a : A) → IsNoMemory (answer a)) → IsNoMemory (answered_or s answer asked)
answered_other s answer (Err r) cause rest = cause
answered_other s answer (Ok a) cause rest = rest a

traced_other : (b : Basis) (ask : TypedAsk) → IsNoMemory (traced_on b ask)
traced_other b ask =
    let v = survey_for b ask.barriers.consistent in
    reply_over_other b.version v.topology ask (reached_from v ask)

pub answer_is_no_memory : (s : State) (b : Basis) (q : Query) → IsNoMemory (answer_on s b q)
answer_is_no_memory s b q = reply_where (query_refusal s q) (refused s) (asked_on s b q.what)
    (other_where (nat_lt s.version q.seen) (refusal.Ahead q.seen s.version) (λ e. cc))
    (λ r other. other) (at q.what)
  where
    at : (what : Asked) → IsNoMemory (asked_on s b what)
    at asked.Version = tt
    at (asked.Feature id) = feature_reply_other s id
    at (asked.Dirty extent) = tt
    at (asked.Errors extent) = tt
    at (asked.Subnet tier subnet) = subnet_reply_other s tier subnet
    at (asked.Trace ask) =
        reply_where (resolving_refusal s.setup s.features ask) (refused s) (traced_on b (resolved s.setup s.features ask)) (resolving_other s.setup s.features ask) (λ r other. other)
        (traced_other b (resolved s.setup s.features ask))
    at (asked.Path ask) =
        answered_other s (λ typed. at_version b.version (path_over b.consistent typed)) (path_asked s.setup.schema s.features ask) (path_other s.setup.schema s.features ask)
        (λ typed. path_reply_other b.version b.consistent.topology typed (reached_any b.consistent typed.barriers (typed.from ∷ [])))
    at (asked.Check ask) =
        answered_other s (λ typed. at_version b.version (check_over b.consistent typed)) (check_asked s.setup.schema s.features ask) (check_other s.setup.schema s.features ask)
        (λ typed. check_reply_other b.version b.consistent.topology typed (reached_any b.consistent typed.barriers (typed.from ∷ [])))
    at (asked.Diagram ask) =
        answered_other s (λ typed. at_version b.version (diagram_over b.consistent typed)) (diagram_asked s.setup.schema s.features ask) (diagram_other s.setup.schema s.features ask)
        (λ typed. diagram_reply_other b.version b.consistent.topology typed (reached_any b.consistent typed.barriers typed.starts))
