-- Words are one command at most.
use Rattle.std.proofs.Common.{◌≡◌, ℕ, ◌<◌, ◌^◌, List, [], ◌∷◌, Option, None, Some, MatchOption, length, get_or, decimal, codes, sym, ◌∙◌, ap, arith}
use Rattle.std.proofs.lemmas.Fmt.{decimal_injective}
use Rattle.un_words.specs.Words.{IsCommand}
use Rattle.un_words.specs.declared.command.ProgramCommand.{ProgramCommand}
use Rattle.un_words.specs.declared.command.ProgramCommand.TheVariants.{Script, Follow, Make, Serve}

-- a list of three words
pub three_words : (words : List (List ℕ)) (a b c x y z : List ℕ) → length words ≡ 3 → a ≡ get_or words 0 x → b ≡ get_or words 1 y → c ≡ get_or words 2 z → words ≡ a ∷ b ∷ c ∷ []
three_words [] a b c x y z three is_a is_b is_c = absurd (omega arith)
three_words (k ∷ []) a b c x y z three is_a is_b is_c = absurd (omega arith)
three_words (k ∷ l ∷ []) a b c x y z three is_a is_b is_c = absurd (omega arith)
three_words (k ∷ l ∷ m ∷ n ∷ words) a b c x y z three is_a is_b is_c = absurd (omega arith)
three_words (k ∷ l ∷ m ∷ []) a b c x y z three is_a is_b is_c = cc

-- the numbers after a name
same_numbers : (name : List ℕ) (words : List (List ℕ)) (a b c d : ℕ) → a < 2 ^ 32 → b < 2 ^ 32 → c < 2 ^ 32 → d < 2 ^ 32 → words ≡ name ∷ decimal a ∷ decimal b ∷ [] → words ≡ name ∷ decimal c ∷ decimal d ∷ [] → (a ≡ c) × (b ≡ d)
same_numbers name words a b c d sa sb sc sd one other =
    let first : decimal a ≡ decimal c = cc in
    let second : decimal b ≡ decimal d = cc in
    (decimal_injective a c (omega arith) (omega arith) first, decimal_injective b d (omega arith) (omega arith) second)

-- the two commands of one word have names of other lengths or bytes
other_names : codes "script" ∷ [] ≡ codes "follow" ∷ [] → ⊥
other_names e = let first : 115 ≡ 102 = ap (λ (words : List (List ℕ)). get_or (get_or words 0 []) 0 0) e in omega (arith, first)

unique : (words : List (List ℕ)) (one other : ProgramCommand) → IsCommand words one → IsCommand words other → one ≡ other
unique words Script Script is is' = cc
unique words Script Follow is is' = absurd (other_names (sym is ∙ is'))
unique words Follow Script is is' = absurd (other_names (sym is' ∙ is))
unique words Follow Follow is is' = cc
unique words Follow (Make seed count) is is' = let e = sym is ∙ is'.0 in cc
unique words Follow (Serve port workers) is is' = let e = sym is ∙ is'.0 in cc
unique words (Make seed count) Follow is is' = let e = sym is.0 ∙ is' in cc
unique words (Serve port workers) Follow is is' = let e = sym is.0 ∙ is' in cc
unique words Script (Make seed count) is is' = let e = sym is ∙ is'.0 in cc
unique words Script (Serve port workers) is is' = let e = sym is ∙ is'.0 in cc
unique words (Make seed count) Script is is' = let e = sym is.0 ∙ is' in cc
unique words (Make seed count) (Make seed' count') is is' =
    let same = same_numbers (codes "make") words seed count seed' count' (omega (arith, is.1)) (omega (arith, is.3)) (omega (arith, is'.1)) (omega (arith, is'.3)) is.0 is'.0 in
    cc
unique words (Make seed count) (Serve port workers) is is' = let e = sym is.0 ∙ is'.0 in cc
unique words (Serve port workers) Script is is' = let e = sym is.0 ∙ is' in cc
unique words (Serve port workers) (Make seed count) is is' = let e = sym is.0 ∙ is'.0 in cc
unique words (Serve port workers) (Serve port' workers') is is' =
    let same = same_numbers (codes "serve") words port workers port' workers' (omega (arith, is.2)) (omega (arith, is.4)) (omega (arith, is'.2)) (omega (arith, is'.4)) is.0 is'.0 in
    cc

pub only_one : (words : List (List ℕ)) (read : Option ProgramCommand) → MatchOption read ((command : ProgramCommand) → ¬ (IsCommand words command)) (IsCommand words) → (command : ProgramCommand) → IsCommand words command → read ≡ Some command
only_one words None none command is = absurd (none command is)
only_one words (Some one) is command is' = ap Some (unique words one command is is')
