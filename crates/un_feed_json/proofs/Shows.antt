-- Values that are written as tokens.
use Rattle.std.proofs.Common.{◌≡◌, ℕ, List, [], ◌∷◌, ◌++◌, map, refl, ap, ◌∙◌, append_assoc}
use Rattle.json.specs.Token.{Token}
use Rattle.json.specs.Tree.{json_tokens}
use Rattle.json.specs.Print.{print}
use Rattle.serde_json.specs.Data.{Data, array, item}
use Rattle.serde_json.specs.Written.{compact_text, outline}
use Rattle.un_values.specs.Values.{items_of, list}
use Rattle.un_values.proofs.Shows.{text_of}

-- a list of what each element shows
pub items-map : {A B : Type 0} (f : B → Data) (g : A → B) (xs : List A) → items_of (λ x. f (g x)) xs ≡ items_of f (map g xs)
items-map f g [] = refl
items-map f g (x ∷ xs) = ap (item (f (g x))) (items-map f g xs)

pub list-map : {A B : Type 0} (f : B → Data) (g : A → B) (xs : List A) → list (λ x. f (g x)) xs ≡ list f (map g xs)
list-map f g xs = ap array (items-map f g xs)

-- ---- pieces behind one another

-- a value behind a token, and what comes behind both
pub behind_value : (start a end value m rest : List Token) (t : Token) → a ≡ start ++ t ∷ (value ++ m) → end ≡ a ++ rest → end ≡ start ++ t ∷ (value ++ (m ++ rest))
behind_value start a end value m rest t first others =
    others ∙ ap (λ ts. ts ++ rest) first ∙ append_assoc start (t ∷ (value ++ m)) rest ∙ ap (λ ts. start ++ t ∷ ts) (append_assoc value m rest)

-- what a new writer has written of a value is its compact text
pub text_written : (d : Data) (items before old_before made : List ℕ) (tokens old_tokens : List Token) → items ≡ before ++ print tokens → before ≡ old_before → old_before ≡ made → made ≡ []
    → tokens ≡ old_tokens ++ json_tokens (outline d) → old_tokens ≡ [] → items ≡ compact_text d
text_written d items before old_before made tokens old_tokens all first second third written fresh =
    all ∙ ap (λ b. b ++ print tokens) (first ∙ second ∙ third) ∙ text_of d tokens (written ∙ ap (λ ts. ts ++ json_tokens (outline d)) fresh)
