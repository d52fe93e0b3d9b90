-- The numbers in the run of one subject.
use Rattle.std.proofs.Common.{◌≡◌, ℕ, Bool, true, false, List, [], ◌∷◌, ◌++◌, map, cond, sym, ◌∙◌, ap, append_assoc}
use Rattle.std.proofs.lemmas.List.{append-nil}
use Rattle.std.proofs.lemmas.List.Sums.{take_while-cons}
use Rattle.std.specs.declared.ops.Bound.TheVariants.{Included}
use Rattle.std.specs.List.{take_while}
use Rattle.un_pages.specs.Pairs.{IsOrdered, from_on}
use Rattle.un_subnet.specs.declared.row_index.Subject.{Subject}
use Rattle.un_subnet.specs.declared.row_index.Key.{Key}
use Rattle.un_subnet.specs.RowIndex.{same_subject, numbers_at}
use Rattle.un_subnet.proofs.Keys.{key_cmp, first_of, run_is}

-- the numbers of the keys at the front that are of the subject
abbrev pub run_at : Subject → List (Key × Unit {0}) → List ℕ
run_at s rest = map (λ k. k.0.number) (take_while (λ k. same_subject s k.0.subject) rest)

pub run_all : (s : Subject) (keys : List (Key × Unit {0})) → IsOrdered key_cmp keys → run_at s (from_on key_cmp (Included (first_of s)) keys) ≡ numbers_at keys s
run_all s keys h = ap (map (λ k. k.0.number)) (run_is s keys h)

run_step : (s : Subject) (b : Bool) (k : Key × Unit {0}) (rest : List (Key × Unit {0})) → same_subject s k.0.subject ≡ b → run_at s (k ∷ rest) ≡ cond b (k.0.number ∷ run_at s rest) []
run_step s true k rest e =
    ap (map (λ k. k.0.number)) (take_while-cons (λ k. same_subject s k.0.subject) k rest ∙ ap (λ b. cond b (k ∷ take_while (λ k. same_subject s k.0.subject) rest) []) e)
run_step s false k rest e =
    ap (map (λ k. k.0.number)) (take_while-cons (λ k. same_subject s k.0.subject) k rest ∙ ap (λ b. cond b (k ∷ take_while (λ k. same_subject s k.0.subject) rest) []) e)

pub run_more : (s : Subject) (k : Key × Unit {0}) (rest : List (Key × Unit {0})) → same_subject s k.0.subject ≡ true → run_at s (k ∷ rest) ≡ k.0.number ∷ run_at s rest
run_more s k rest e = run_step s true k rest e

pub run_end : (s : Subject) (k : Key × Unit {0}) (rest : List (Key × Unit {0})) → same_subject s k.0.subject ≡ false → run_at s (k ∷ rest) ≡ []
run_end s k rest e = run_step s false k rest e

-- one number along the run
pub run_on : (s : Subject) (found : List ℕ) (rest more : List (Key × Unit {0})) (k : Key × Unit {0}) (whole : List ℕ) → rest ≡ k ∷ more → same_subject s k.0.subject ≡ true
    → found ++ run_at s rest ≡ whole → (found ++ k.0.number ∷ []) ++ run_at s more ≡ whole
run_on s found rest more k whole e one before =
    append_assoc found (k.0.number ∷ []) (run_at s more) ∙ ap (λ l. found ++ l) (sym (ap (run_at s) e ∙ run_more s k more one)) ∙ before

-- the run is over
pub run_over : (s : Subject) (found : List ℕ) (rest : List (Key × Unit {0})) (whole : List ℕ) → run_at s rest ≡ [] → found ++ run_at s rest ≡ whole → found ≡ whole
run_over s found rest whole none before = sym (append-nil found) ∙ ap (λ l. found ++ l) (sym none) ∙ before
