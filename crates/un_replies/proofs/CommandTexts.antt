-- The texts of the replies of commands, put together of their members.
use Rattle.std.proofs.Common.{◌≡◌, ℕ, List, [], ◌∷◌, ◌++◌, codes, Option, refl, ap, ◌∙◌, append_assoc, append-nil}
use Rattle.json.specs.Print.{quoted}
use Rattle.serde_json.specs.Data.{Data, string, object, member, no_members}
use Rattle.serde_json.specs.Written.{compact_text}
use Rattle.serde_json.proofs.OnLiterals.{serde_json_on_literals}
use Rattle.un_ask.specs.Words.{edit_text}
use Rattle.un_ask.specs.declared.word.EditWord.{EditWord}
use Rattle.un_ask.specs.declared.stored.StoredSubnet.{StoredSubnet}
use Rattle.un_ask.specs.declared.reply.Reply.TheVariants as reply
use Rattle.un_values.specs.Values.{count, counts}
use Rattle.un_replies.specs.Pieces.{following, opening}
use Rattle.un_replies.specs.Replies.{past_around, PastAroundLaw, reply_value, stored_members, stored_status}
use Rattle.un_replies.proofs.RefusalTexts.{piece}

-- a member and what comes behind it
one_member : (q : List ℕ × Data) (rest : List ℕ) → following (q ∷ []) ++ rest ≡ 44 ∷ (quoted q.0 ++ 58 ∷ (compact_text q.1 ++ rest))
one_member q rest =
    ap (λ t. 44 ∷ t) (append_assoc (quoted q.0) (58 ∷ (compact_text q.1 ++ [])) rest)
    ∙ ap (λ t. 44 ∷ (quoted q.0 ++ 58 ∷ (t ++ rest))) (append-nil (compact_text q.1))

-- four members, one after the other
four_steps : (start a b c d e : List ℕ) (m n o p : List ℕ × Data)
    → a ≡ start ++ opening m → b ≡ a ++ following (n ∷ []) → c ≡ b ++ following (o ∷ []) → d ≡ c ++ following (p ∷ []) → e ≡ d ++ codes "}"
    → e ≡ start ++ compact_text (object (member m.0 m.1 (member n.0 n.1 (member o.0 o.1 (member p.0 p.1 no_members)))))
four_steps start a b c d e m n o p one two three four five =
    let second = following (n ∷ []) in
    let third = following (o ∷ []) in
    let fourth = following (p ∷ []) in
    five ∙ ap (λ t. t ++ codes "}") (four ∙ ap (λ t. t ++ fourth) (three ∙ ap (λ t. t ++ third) (two ∙ ap (λ t. t ++ second) one)))
    ∙ append_assoc (((start ++ opening m) ++ second) ++ third) fourth (codes "}")
    ∙ append_assoc ((start ++ opening m) ++ second) third (fourth ++ codes "}")
    ∙ append_assoc (start ++ opening m) second (third ++ (fourth ++ codes "}"))
    ∙ append_assoc start (opening m) (second ++ (third ++ (fourth ++ codes "}")))
    ∙ ap (λ t. start ++ t) joined
  where
    first_member : (q : List ℕ × Data) (rest : List ℕ) → opening q ++ rest ≡ 123 ∷ (quoted q.0 ++ 58 ∷ (compact_text q.1 ++ rest))
    first_member q rest = ap (λ t. 123 ∷ t) (append_assoc (quoted q.0) (58 ∷ compact_text q.1) rest)

    joined : opening m ++ (following (n ∷ []) ++ (following (o ∷ []) ++ (following (p ∷ []) ++ codes "}")))
        ≡ compact_text (object (member m.0 m.1 (member n.0 n.1 (member o.0 o.1 (member p.0 p.1 no_members)))))
    joined =
        ap (λ t. opening m ++ (following (n ∷ []) ++ (following (o ∷ []) ++ t))) (one_member p (codes "}"))
        ∙ ap (λ t. opening m ++ (following (n ∷ []) ++ t)) (one_member o _)
        ∙ ap (λ t. opening m ++ t) (one_member n _)
        ∙ first_member m _

-- the replies, step by step
pub edited_steps : (areas : List ℕ) (id : ℕ) (word : EditWord) (version : ℕ) (text start a b c d e : List ℕ)
    → text ≡ edit_text word → a ≡ start ++ opening (codes "areas", counts areas) → b ≡ a ++ following ((codes "id", count id) ∷ [])
    → c ≡ b ++ following ((codes "ok", string text) ∷ []) → d ≡ c ++ following ((codes "version", count version) ∷ []) → e ≡ d ++ codes "}"
    → e ≡ start ++ compact_text (reply_value (reply.Edited areas id word version))
edited_steps areas id word version text start a b c d e same one two three four five =
    four_steps start a b c d e (codes "areas", counts areas) (codes "id", count id) (codes "ok", string (edit_text word)) (codes "version", count version)
    one two (three ∙ ap (λ t. b ++ following ((codes "ok", string t) ∷ [])) same) four five

pub batch_steps : (areas ids : List ℕ) (version : ℕ) (start a b c d e : List ℕ)
    → a ≡ start ++ opening (codes "areas", counts areas) → b ≡ a ++ following ((codes "ids", counts ids) ∷ [])
    → c ≡ b ++ following ((codes "ok", string (codes "batch")) ∷ []) → d ≡ c ++ following ((codes "version", count version) ∷ []) → e ≡ d ++ codes "}"
    → e ≡ start ++ compact_text (reply_value (reply.Batch areas ids version))
batch_steps areas ids version start a b c d e =
    four_steps start a b c d e (codes "areas", counts areas) (codes "ids", counts ids) (codes "ok", string (codes "batch")) (codes "version", count version)

pub ruled_steps : (areas : List ℕ) (rules version : ℕ) (start a b c d e : List ℕ)
    → a ≡ start ++ opening (codes "areas", counts areas) → b ≡ a ++ following ((codes "ok", string (codes "rule")) ∷ [])
    → c ≡ b ++ following ((codes "rules", count rules) ∷ []) → d ≡ c ++ following ((codes "version", count version) ∷ []) → e ≡ d ++ codes "}"
    → e ≡ start ++ compact_text (reply_value (reply.Ruled areas rules version))
ruled_steps areas rules version start a b c d e =
    four_steps start a b c d e (codes "areas", counts areas) (codes "ok", string (codes "rule")) (codes "rules", count rules) (codes "version", count version)

pub validated_steps : (cleared errors version : ℕ) (start a b c d e : List ℕ)
    → a ≡ start ++ opening (codes "cleared", count cleared) → b ≡ a ++ following ((codes "errors", count errors) ∷ [])
    → c ≡ b ++ following ((codes "ok", string (codes "validate")) ∷ []) → d ≡ c ++ following ((codes "version", count version) ∷ []) → e ≡ d ++ codes "}"
    → e ≡ start ++ compact_text (reply_value (reply.Validated cleared errors version))
validated_steps cleared errors version start a b c d e =
    four_steps start a b c d e (codes "cleared", count cleared) (codes "errors", count errors) (codes "ok", string (codes "validate")) (codes "version", count version)

pub updated_steps : (row : Option StoredSubnet) (version members : ℕ) (text start a b c d e : List ℕ)
    → members ≡ stored_members row → text ≡ stored_status row
    → a ≡ start ++ opening (codes "members", count members) → b ≡ a ++ following ((codes "ok", string (codes "update")) ∷ [])
    → c ≡ b ++ following ((codes "status", string text) ∷ []) → d ≡ c ++ following ((codes "version", count version) ∷ []) → e ≡ d ++ codes "}"
    → e ≡ start ++ compact_text (reply_value (reply.Updated row version))
updated_steps row version members text start a b c d e counted same one two three four five =
    four_steps start a b c d e (codes "members", count (stored_members row)) (codes "ok", string (codes "update")) (codes "status", string (stored_status row)) (codes "version", count version)
    (one ∙ ap (λ n. start ++ opening (codes "members", count n)) counted) two (three ∙ ap (λ t. b ++ following ((codes "status", string t) ∷ [])) same) four five

-- what is told of a past version stands round the reply at that version
pub past_steps : (version : ℕ) (inner start a b c d : List ℕ)
    → a ≡ start ++ codes "{\"ok\":\"past\",\"past\":" → b ≡ a ++ inner → c ≡ b ++ following ((codes "version", count version) ∷ []) → d ≡ c ++ codes "}"
    → d ≡ start ++ past_around inner version
unfolding serde_json_on_literals
past_steps version inner start a b c d one two three four =
    let opened = codes "{\"ok\":\"past\",\"past\":" in
    piece start a d _ _ one (piece a b d _ _ two (piece b c d _ _ three four))
    ∙ ap (λ t. start ++ (opened ++ (inner ++ t))) (one_member (codes "version", count version) (codes "}"))

pub past_stands_around : PastAroundLaw
unfolding serde_json_on_literals
past_stands_around past version = refl
