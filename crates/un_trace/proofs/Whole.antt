-- The whole answer, put together from its parts.
use Rattle.std.proofs.Common.{◌≡◌, ℕ, ℤ, List, map, filter_map, flat_map, length, ap, ◌∙◌, Option, None, Result, Ok, Err, IfOk, OnOk, if◌then◌else◌}
use Rattle.std.specs.Ordering.{nat_cmp}
use Rattle.un_defs.specs.declared.port.Node.{Node}
use Rattle.un_defs.specs.declared.star.Spot.{Spot}
use Rattle.un_defs.specs.Orders.{rising}
use Rattle.un_defs.specs.Ground.{Ground, entry}
use Rattle.un_defs.specs.Reach.{IsReach, leads, dirt}
use Rattle.un_defs.specs.Result.{feature_ids, result_containers, result_contents, result_structures}
use Rattle.un_ask.specs.declared.trace.TraceKind.{TraceKind}
use Rattle.un_ask.specs.declared.typed.TypedAsk.{TypedAsk}
use Rattle.un_ask.specs.declared.results.Part.{Part}
use Rattle.un_ask.specs.declared.reply.ResultReply.{ResultReply}
use Rattle.un_ask.specs.declared.reply.Reply.{Reply}
use Rattle.un_walk.specs.declared.seen.Seen.{Seen}
use Rattle.un_trace.specs.declared.included.Inclusion.TheVariants.{Containers, Content, Structures}
use Rattle.un_trace.specs.Seen.{nodes_of, spot_of, spots_of, first_spot}
use Rattle.un_trace.specs.Included.{ids_of}
use Rattle.un_trace.specs.Functions.{total_of}
use Rattle.un_trace.specs.TraceReply.{where_asked, parts, total, result_of, nodes_in_result, clean_reply, reply_given_dirt, mode_of, IsAnswer}
use Rattle.un_trace.proofs.Read.{each_entry, containers_are, contents_are, structures_are, totals_are, parts_count}

abbrev pub reply_with : List ℕ → List ℕ → List Part → List (Option ℤ) → TraceKind → List ℕ → ResultReply
reply_with containers content features functions kind structures =
    record { containers = containers; content = content; features = features; functions = functions; kind = kind; structures = structures }

-- what the code told of the seen nodes
pub record IsReadFrom (G : Ground) (ask : TypedAsk) (reached : List Node) (seen : List Seen) (reply : ResultReply) : Type 0 where
  pub firsts : List Spot
  pub count : ℕ
  pub nodes : nodes_of seen ≡ nodes_in_result G ask reached
  pub entries : map spot_of seen ≡ map (entry G) (nodes_of seen)
  pub firsts_are : firsts ≡ filter_map (first_spot seen) (feature_ids (nodes_of seen))
  pub features : reply.features ≡ parts (nodes_of seen)
  pub counted : count ≡ length (parts (nodes_of seen))
  pub functions : reply.functions ≡ map (total_of firsts count) ask.functions
  pub containers : reply.containers ≡ where_asked ask.include.containers (rising nat_cmp (flat_map (ids_of Containers) (spots_of seen)))
  pub content : reply.content ≡ where_asked ask.include.content (rising nat_cmp (flat_map (ids_of Content) (spots_of seen)))
  pub structures : reply.structures ≡ where_asked ask.include.structures (rising nat_cmp (flat_map (ids_of Structures) (spots_of seen)))
  pub kind : reply.kind ≡ ask.kind

pub result_is : (G : Ground) (ask : TypedAsk) (reached : List Node) (seen : List Seen) (reply : ResultReply) → IsReadFrom G ask reached seen reply → reply ≡ result_of G ask (nodes_in_result G ask reached)
result_is G ask reached seen reply w =
    let each = each_entry G seen w.entries in
    let containers : reply.containers ≡ where_asked ask.include.containers (result_containers G (nodes_of seen)) =
    w.containers ∙ ap (where_asked ask.include.containers) (containers_are G seen each) in
    let content : reply.content ≡ where_asked ask.include.content (result_contents G (nodes_of seen)) =
    w.content ∙ ap (where_asked ask.include.content) (contents_are G seen each) in
    let structures : reply.structures ≡ where_asked ask.include.structures (result_structures G (nodes_of seen)) =
    w.structures ∙ ap (where_asked ask.include.structures) (structures_are G seen each) in
    let functions : reply.functions ≡ map (total G (nodes_of seen)) ask.functions =
    w.functions ∙ ap (λ fs. map (total_of fs w.count) ask.functions) w.firsts_are
    ∙ totals_are G seen each w.count (w.counted ∙ parts_count (nodes_of seen)) ask.functions in
    let same : reply ≡ result_of G ask (nodes_of seen) =
    λ i. reply_with (containers i) (content i) (w.features i) (functions i) (w.kind i) (structures i) in
    same ∙ ap (result_of G ask) w.nodes

-- what holds anyway holds of a success
pub on_ok_any : {T E : Type 0} (r : Result T E) {P : Type 0} → P → OnOk r P
on_ok_any (Ok x) h = h
on_ok_any (Err e) h = tt

pub if_ok_map : {T E : Type 0} (r : Result T E) (P Q : T → Type 0) → ((x : T) → P x → Q x) → IfOk r P → IfOk r Q
if_ok_map (Ok x) P Q f h = f x h
if_ok_map (Err e) P Q f h = h

-- an answer where no dirt matters
pub answers_clean : (G : Ground) (ask : TypedAsk) (nodes : List Node) → IsReach (leads G ask.barriers (mode_of ask.kind)) ask.starts nodes
    → None ≡ (if ask.barriers.consistent then dirt G nodes else None) → (reply : Reply) → reply ≡ clean_reply G ask nodes → IsAnswer G ask reply
answers_clean G ask nodes reach clean reply is =
    record { reached = nodes; reach = reach; is = is ∙ ap (λ o. reply_given_dirt o G ask nodes) clean }
