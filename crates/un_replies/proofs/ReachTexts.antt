-- The texts of the replies that may tell a whole network, put together of their members.
use Rattle.std.proofs.Common.{◌≡◌, ℕ, List, ◌∷◌, [], ◌++◌, codes, refl, ap, sym, ◌∙◌}
use Rattle.serde_json.specs.Data.{Data, string}
use Rattle.serde_json.specs.Written.{compact_text}
use Rattle.serde_json.proofs.OnLiterals.{serde_json_on_literals}
use Rattle.un_defs.specs.declared.port.Port.{Port}
use Rattle.un_ask.specs.Words.{trace_text}
use Rattle.un_ask.specs.declared.trace.TraceKind.{TraceKind}
use Rattle.un_ask.specs.declared.trace.TraceKind.TheVariants as trace
use Rattle.un_ask.specs.declared.results.Part.{Part}
use Rattle.un_ask.specs.declared.results.Segment.{Segment}
use Rattle.un_ask.specs.declared.reply.ResultReply.{ResultReply}
use Rattle.un_ask.specs.declared.reply.Reply.TheVariants as reply
use Rattle.un_values.specs.Values.{count, counts, list, object_of}
use Rattle.un_replies.specs.Replies.{part, port, segment, total, reply_value, result_value}
use Rattle.un_replies.proofs.RefusalTexts.{piece}

-- a result whose kind is named so
result_text : (r : ResultReply) (kind : TraceKind) (version : ℕ)
    → compact_text (object_of (
    (codes "containers", counts r.containers) ∷ (codes "content", counts r.content) ∷ (codes "features", list part r.features)
    ∷ (codes "functions", list total r.functions) ∷ (codes "ok", string (trace_text kind)) ∷ (codes "structures", counts r.structures)
    ∷ (codes "version", count version) ∷ []))
    ≡ codes "{\"containers\":" ++ (compact_text (counts r.containers) ++ (codes ",\"content\":" ++ (compact_text (counts r.content) ++ (codes ",\"features\":"
    ++ (compact_text (list part r.features) ++ (codes ",\"functions\":" ++ (compact_text (list total r.functions) ++ (codes ",\"ok\":\"" ++ (trace_text kind
    ++ (codes "\",\"structures\":" ++ (compact_text (counts r.structures) ++ (codes ",\"version\":" ++ (compact_text (count version) ++ codes "}")))))))))))))
unfolding serde_json_on_literals
result_text r trace.Connected version = refl
result_text r trace.Subnetwork version = refl
result_text r trace.Controllers version = refl
result_text r trace.Upstream version = refl
result_text r trace.Downstream version = refl
result_text r trace.Loops version = refl
result_text r trace.Isolation version = refl

pub result_steps : (r : ResultReply) (version : ℕ) (start a b c d e f g h i j k l m n o : List ℕ)
    → a ≡ start ++ codes "{\"containers\":" → b ≡ a ++ compact_text (counts r.containers) → c ≡ b ++ codes ",\"content\":" → d ≡ c ++ compact_text (counts r.content)
    → e ≡ d ++ codes ",\"features\":" → f ≡ e ++ compact_text (list part r.features) → g ≡ f ++ codes ",\"functions\":" → h ≡ g ++ compact_text (list total r.functions)
    → i ≡ h ++ codes ",\"ok\":\"" → j ≡ i ++ trace_text r.kind → k ≡ j ++ codes "\",\"structures\":" → l ≡ k ++ compact_text (counts r.structures)
    → m ≡ l ++ codes ",\"version\":" → n ≡ m ++ compact_text (count version) → o ≡ n ++ codes "}"
    → o ≡ start ++ compact_text (result_value r version)
result_steps r version start a b c d e f g h i j k l m n o p0 p1 p2 p3 p4 p5 p6 p7 p8 p9 p10 p11 p12 p13 p14 =
    piece start a o _ _ p0 (piece a b o _ _ p1 (piece b c o _ _ p2 (piece c d o _ _ p3 (piece d e o _ _ p4 (piece e f o _ _ p5 (piece f g o _ _ p6 (piece g h o _ _ p7
    (piece h i o _ _ p8 (piece i j o _ _ p9 (piece j k o _ _ p10 (piece k l o _ _ p11 (piece l m o _ _ p12 (piece m n o _ _ p13 p14)))))))))))))
    ∙ ap (λ t. start ++ t) (sym (result_text r r.kind version))

loops_text : (segments : List Segment) (version : ℕ)
    → compact_text (reply_value (reply.Loops segments version))
    ≡ codes "{\"ok\":\"loops\",\"segments\":" ++ (compact_text (list segment segments) ++ (codes ",\"version\":" ++ (compact_text (count version) ++ codes "}")))
unfolding serde_json_on_literals
loops_text segments version = refl

pub loops_steps : (segments : List Segment) (version : ℕ) (start a b c d e : List ℕ)
    → a ≡ start ++ codes "{\"ok\":\"loops\",\"segments\":" → b ≡ a ++ compact_text (list segment segments) → c ≡ b ++ codes ",\"version\":"
    → d ≡ c ++ compact_text (count version) → e ≡ d ++ codes "}" → e ≡ start ++ compact_text (reply_value (reply.Loops segments version))
loops_steps segments version start a b c d e p0 p1 p2 p3 p4 =
    piece start a e _ _ p0 (piece a b e _ _ p1 (piece b c e _ _ p2 (piece c d e _ _ p3 p4))) ∙ ap (λ t. start ++ t) (sym (loops_text segments version))

isolation_text : (borders : List Port) (features : List Part) (version : ℕ)
    → compact_text (reply_value (reply.Isolation borders features version))
    ≡ codes "{\"borders\":" ++ (compact_text (list port borders) ++ (codes ",\"features\":" ++ (compact_text (list part features)
    ++ (codes ",\"ok\":\"isolation\",\"version\":" ++ (compact_text (count version) ++ codes "}")))))
unfolding serde_json_on_literals
isolation_text borders features version = refl

pub isolation_steps : (borders : List Port) (features : List Part) (version : ℕ) (start a b c d e f g : List ℕ)
    → a ≡ start ++ codes "{\"borders\":" → b ≡ a ++ compact_text (list port borders) → c ≡ b ++ codes ",\"features\":" → d ≡ c ++ compact_text (list part features)
    → e ≡ d ++ codes ",\"ok\":\"isolation\",\"version\":" → f ≡ e ++ compact_text (count version) → g ≡ f ++ codes "}"
    → g ≡ start ++ compact_text (reply_value (reply.Isolation borders features version))
isolation_steps borders features version start a b c d e f g p0 p1 p2 p3 p4 p5 p6 =
    piece start a g _ _ p0 (piece a b g _ _ p1 (piece b c g _ _ p2 (piece c d g _ _ p3 (piece d e g _ _ p4 (piece e f g _ _ p5 p6)))))
    ∙ ap (λ t. start ++ t) (sym (isolation_text borders features version))
