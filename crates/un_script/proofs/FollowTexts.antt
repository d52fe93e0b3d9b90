-- The reply to a page that was taken, by the pieces that are written.
use Rattle.std.proofs.Common.{◌≡◌, ℕ, List, [], ◌∷◌, ◌++◌, codes, decimal, refl, sym, ap, ◌∙◌, append_assoc}
use Rattle.serde_json.proofs.OnLiterals.{serde_json_on_literals}
use Rattle.un_feed_json.specs.Shown.{followed_text}

abbrev before : List ℕ
before = codes "{\"ok\":\"follow\",\"points\":"

abbrev between : List ℕ
between = codes ",\"version\":"

abbrev behind : List ℕ
behind = codes "}"

pieces : (points version : ℕ) → followed_text points version ≡ before ++ (decimal points ++ (between ++ (decimal version ++ behind)))
unfolding serde_json_on_literals
pieces points version = refl

joined : (start a b c d e end : List ℕ) → ((((start ++ a) ++ b) ++ c) ++ d) ++ (e ++ end) ≡ start ++ ((a ++ (b ++ (c ++ (d ++ e)))) ++ end)
joined start a b c d e end =
    append_assoc (((start ++ a) ++ b) ++ c) d (e ++ end) ∙ append_assoc ((start ++ a) ++ b) c (d ++ (e ++ end))
    ∙ append_assoc (start ++ a) b (c ++ (d ++ (e ++ end))) ∙ append_assoc start a (b ++ (c ++ (d ++ (e ++ end))))
    ∙ ap (λ t. start ++ t) (sym (append_assoc a (b ++ (c ++ (d ++ e))) end
    ∙ ap (λ t. a ++ t) (append_assoc b (c ++ (d ++ e)) end
    ∙ ap (λ t. b ++ t) (append_assoc c (d ++ e) end ∙ ap (λ t. c ++ t) (append_assoc d e end)))))

-- the pieces, one behind the other, with the line's end
pub written : (points version : ℕ) (start a b c d e : List ℕ) → a ≡ start ++ before → b ≡ a ++ decimal points → c ≡ b ++ between → d ≡ c ++ decimal version
    → e ≡ d ++ (behind ++ 10 ∷ []) → e ≡ start ++ (followed_text points version ++ 10 ∷ [])
written points version start a b c d e first second third fourth fifth =
    fifth ∙ ap (λ t. t ++ (behind ++ 10 ∷ [])) (fourth ∙ ap (λ t. t ++ decimal version) (third ∙ ap (λ t. t ++ between) (second ∙ ap (λ t. t ++ decimal points) first)))
    ∙ joined start before (decimal points) between (decimal version) behind (10 ∷ [])
    ∙ ap (λ t. start ++ (t ++ 10 ∷ [])) (sym (pieces points version))
