-- A code of conditions, by which their values are told apart: the words of a condition, its parts before what joins them.
use Rattle.std.specs.Prelude.{◌≡◌, ℕ, ◌==◌, ℤ, pos, if◌then◌else◌, List, [], ◌∷◌, ◌++◌, refl}
use Rattle.std.specs.Coded.{Coded, code_by, coded×, coded_list, coded_ℕ, coded_ℤ}
use Rattle.std.proofs.Common.{ap, ◌∙◌}
use Rattle.un_conds.specs.declared.op.Op.{Op}
use Rattle.un_conds.specs.declared.op.Op.TheVariants.{Eq, Ne, Lt, Le, Gt, Ge}
use Rattle.un_conds.specs.Conditions.{Condition, Has, Test, And, Or, Not}

-- a tag, a name and a value
abbrev Word : Type 0 → Type 0
Word N = ℕ × (N × ℤ)

abbrev tag_of : Op → ℕ
tag_of Eq = 1
tag_of Ne = 2
tag_of Lt = 3
tag_of Le = 4
tag_of Gt = 5
tag_of Ge = 6

abbrev op_at : ℕ → Op
op_at tag =
    if tag == 1 then Eq else (if tag == 2 then Ne else (if tag == 3 then Lt else (if tag == 4 then Le else (if tag == 5 then Gt else Ge))))

module _ {N : Type 0} (none : N) where
  abbrev tag : ℕ → Word N
  tag t = (t, (none, pos 0))

  abbrev words : Condition N → List (Word N)
  words (Has c) = (0, (c, pos 0)) ∷ []
  words (Test op a n) = (tag_of op, (a, n)) ∷ []
  words (And c d) = words c ++ words d ++ tag 7 ∷ []
  words (Or c d) = words c ++ words d ++ tag 8 ∷ []
  words (Not c) = words c ++ tag 9 ∷ []

  -- the last condition of a pile, and the last two, joined
  abbrev join_one : (Condition N → Condition N) → List (Condition N) → List (Condition N)
  join_one f [] = []
  join_one f (c ∷ pile) = f c ∷ pile

  abbrev join_first : (Condition N → Condition N → Condition N) → Condition N → List (Condition N) → List (Condition N)
  join_first f d [] = []
  join_first f d (c ∷ pile) = f c d ∷ pile

  abbrev join_two : (Condition N → Condition N → Condition N) → List (Condition N) → List (Condition N)
  join_two f [] = []
  join_two f (d ∷ pile) = join_first f d pile

  -- the pile after a word
  abbrev take_word : Word N → List (Condition N) → List (Condition N)
  take_word w pile =
      if w.0 == 7 then join_two And pile
      else (if w.0 == 8 then join_two Or pile
      else (if w.0 == 9 then join_one Not pile
      else (if w.0 == 0 then Has w.1.0 ∷ pile else Test (op_at w.0) w.1.0 w.1.1 ∷ pile)))

  abbrev read_words : List (Word N) → List (Condition N) → List (Condition N)
  read_words [] pile = pile
  read_words (w ∷ ws) pile = read_words ws (take_word w pile)

  abbrev first_of : List (Condition N) → Condition N
  first_of [] = Has none
  first_of (c ∷ pile) = c

  read_words-append : (xs ys : List (Word N)) (pile : List (Condition N)) → read_words (xs ++ ys) pile ≡ read_words ys (read_words xs pile)
  read_words-append [] ys pile = refl
  read_words-append (x ∷ xs) ys pile = read_words-append xs ys (take_word x pile)

  take_word-test : (op : Op) (a : N) (n : ℤ) (pile : List (Condition N)) → take_word (tag_of op, (a, n)) pile ≡ Test op a n ∷ pile
  take_word-test Eq a n pile = refl
  take_word-test Ne a n pile = refl
  take_word-test Lt a n pile = refl
  take_word-test Le a n pile = refl
  take_word-test Gt a n pile = refl
  take_word-test Ge a n pile = refl

  -- the words of a condition put it on the pile
  pub read_words-words : (c : Condition N) (pile : List (Condition N)) → read_words (words c) pile ≡ c ∷ pile
  read_words-words (Has c) pile = refl
  read_words-words (Test op a n) pile = take_word-test op a n pile
  read_words-words (And c d) pile =
      read_words-append (words c ++ words d) (tag 7 ∷ []) pile ∙ ap (take_word (tag 7)) (read_words-append (words c) (words d) pile ∙ ap (read_words (words d)) (read_words-words c pile) ∙ read_words-words d (c ∷ pile))
  read_words-words (Or c d) pile =
      read_words-append (words c ++ words d) (tag 8 ∷ []) pile ∙ ap (take_word (tag 8)) (read_words-append (words c) (words d) pile ∙ ap (read_words (words d)) (read_words-words c pile) ∙ read_words-words d (c ∷ pile))
  read_words-words (Not c) pile =
      read_words-append (words c) (tag 9 ∷ []) pile ∙ ap (take_word (tag 9)) (read_words-words c pile)

  -- a code of the conditions whose names have one
  abbrev pub coded_condition : Coded N → Coded (Condition N)
  coded_condition coded =
      code_by (List (Word N)) (coded_list (coded× coded_ℕ (coded× coded coded_ℤ))) words (λ ws. first_of (read_words ws [])) (λ c. ap first_of (read_words-words c []))

-- conditions by numbers, and conditions by texts
abbrev pub condition_code : Coded (Condition ℕ)
condition_code = coded_condition 0 coded_ℕ

abbrev pub written_code : Coded (Condition (List ℕ))
written_code = coded_condition [] (coded_list coded_ℕ)
