-- An answer that tells no entries is made of the features alone.
use Rattle.std.proofs.Common.{◌≡◌, ℕ, ℤ, pos, Bool, true, false, ◌||◌, List, [], ◌∷◌, map, length, Option, Some, refl, sym, ap, ◌∙◌, true≢false, if◌then◌else◌}
use Rattle.std.specs.List.{list_any}
use Rattle.un_defs.specs.declared.port.Node.{Node}
use Rattle.un_defs.specs.declared.star.Spot.{Spot}
use Rattle.un_defs.specs.Ground.{Ground}
use Rattle.un_defs.specs.Result.{feature_ids, result_containers, result_contents, result_structures}
use Rattle.un_ask.specs.declared.typed.Func.{Func}
use Rattle.un_ask.specs.declared.typed.Func.TheVariants.{Count, Sum, Least, Greatest}
use Rattle.un_ask.specs.declared.typed.TypedAsk.{TypedAsk}
use Rattle.un_ask.specs.declared.results.Part.{Part}
use Rattle.un_ask.specs.declared.reply.ResultReply.{ResultReply}
use Rattle.un_ask.specs.declared.reply.Reply.TheVariants.{Traced}
use Rattle.un_trace.specs.Functions.{total_of}
use Rattle.un_trace.specs.Ports.{includes_any, reads_entries, tells_entries}
use Rattle.un_trace.specs.TraceReply.{where_asked, parts, total, result_of, nodes_in_result, lists_controllers, controllers_reply, result_reply, clean_reply}
use Rattle.un_trace.proofs.Read.{parts_count}
use Rattle.un_trace.proofs.Whole.{reply_with}

neither : (a b : Bool) → (a || b) ≡ false → (a ≡ false) × (b ≡ false)
neither false b e = (refl, e)
neither true b e = absurd (true≢false e)

-- what is not asked for
pub record AsksNoEntries (ask : TypedAsk) : Type 0 where
  pub containers : ask.include.containers ≡ false
  pub content : ask.include.content ≡ false
  pub structures : ask.include.structures ≡ false
  pub controllers : lists_controllers ask.kind ≡ false
  pub functions : list_any reads_entries ask.functions ≡ false

pub asks_no_entries : (ask : TypedAsk) → tells_entries ask ≡ false → AsksNoEntries ask
asks_no_entries ask e =
    let functions : Bool = list_any reads_entries ask.functions in
    let a = neither (includes_any ask.include) (lists_controllers ask.kind || functions) e in
    let b = neither (lists_controllers ask.kind) functions a.1 in
    let c = neither ask.include.containers (ask.include.content || ask.include.structures) a.0 in
    let d = neither ask.include.content ask.include.structures c.1 in
    record { containers = c.0; content = d.0; structures = d.1; controllers = b.0; functions = b.1 }

module _ (G : Ground) (ns : List Node) (firsts : List Spot) (count : ℕ) (counted : count ≡ length (feature_ids ns)) where
  count_is : (f : Func) → reads_entries f ≡ false → total_of firsts count f ≡ total G ns f
  count_is Count e = ap (λ n. Some (pos n)) counted
  count_is (Sum a) e = absurd (true≢false e)
  count_is (Least a) e = absurd (true≢false e)
  count_is (Greatest a) e = absurd (true≢false e)

  counts_are : (fs : List Func) → list_any reads_entries fs ≡ false → map (total_of firsts count) fs ≡ map (total G ns) fs
  counts_are [] e = refl
  counts_are (f ∷ fs) e =
      let parts = neither (reads_entries f) (list_any reads_entries fs) e in
      λ i. count_is f parts.0 i ∷ counts_are fs parts.1 i

-- the result with nothing of the entries in it
pub alone_result : (G : Ground) (ask : TypedAsk) (ns : List Node) (firsts : List Spot) (count : ℕ) (containers content structures : List ℕ) (features : List Part) (functions : List (Option ℤ))
    → AsksNoEntries ask → containers ≡ [] → content ≡ [] → structures ≡ [] → features ≡ parts ns → count ≡ length features → functions ≡ map (total_of firsts count) ask.functions
    → reply_with containers content features functions ask.kind structures ≡ result_of G ask ns
alone_result G ask ns firsts count containers content structures features functions asks a b c told counted totals =
    let containers_are : containers ≡ where_asked ask.include.containers (result_containers G ns) =
    a ∙ sym (ap (λ asked. where_asked asked (result_containers G ns)) asks.containers) in
    let content_is : content ≡ where_asked ask.include.content (result_contents G ns) =
    b ∙ sym (ap (λ asked. where_asked asked (result_contents G ns)) asks.content) in
    let structures_are : structures ≡ where_asked ask.include.structures (result_structures G ns) =
    c ∙ sym (ap (λ asked. where_asked asked (result_structures G ns)) asks.structures) in
    let functions_are : functions ≡ map (total G ns) ask.functions =
    totals ∙ counts_are G ns firsts count (counted ∙ ap length told ∙ parts_count ns) ask.functions asks.functions in
    λ i. reply_with (containers_are i) (content_is i) (told i) (functions_are i) ask.kind (structures_are i)

-- the reply with that result
pub alone_reply : (G : Ground) (ask : TypedAsk) (reached : List Node) (result : ResultReply) → AsksNoEntries ask → result ≡ result_of G ask (nodes_in_result G ask reached)
    → Traced result 0 ≡ clean_reply G ask reached
alone_reply G ask reached result asks is =
    ap (λ r. Traced r 0) is
    ∙ sym (ap (λ lists. if lists then controllers_reply G ask reached else result_reply G ask reached) asks.controllers)
