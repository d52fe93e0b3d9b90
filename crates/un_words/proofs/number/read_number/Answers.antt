use Rattle.std.proofs.Common.{ℕ, ◌<◌, ◌^◌, ◌≡◌, ◌≢◌, MatchOption, decimal, subst, sym}
use Rattle.un_words.proofs.Numbers.{HasPrefix, not_prefixed, by_result, fails}
use Rattle.un_words.proofs.number.read_number.Goals as goal

pub returns-then-has_prefix : goal.returns-then-has_prefix
returns-then-has_prefix c = not_prefixed c.args.text.now (subst HasPrefix c.as_bytes.ensures.value (c.has_prefix.ensures.0 c.if-has_prefix.true))

pub returns : goal.returns
returns c =
    let text = c.args.text.now in
    let plain = λ (has : HasPrefix text). fails c.has_prefix.result c.if-has_prefix.false (c.has_prefix.ensures.1 (subst HasPrefix (sym c.as_bytes.ensures.value) has)) in
    subst (λ o. MatchOption o ((n : ℕ) → n < 2 ^ 32 → text ≢ decimal n) (λ n. text ≡ decimal n)) (sym c.ok.ensures.value) (by_result text c.parse.result c.parse.ensures.value.0 plain)
