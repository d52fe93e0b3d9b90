-- The names of a schema and of its tiers, looked at one after the other.
use Rattle.std.proofs.Common.{◌≡◌, ℕ, ◌+◌, ◌<◌, ◌≤◌, List, length, take, get_or, All, Option, None, Some, IsUtf8, refl, sym, ap, subst, ◌∙◌}
use Rattle.std.specs.Prelude.{slice_get}
use Rattle.std.specs.Option.{option_map}
use Rattle.std.proofs.lemmas.List.{take_all}
use Rattle.std.proofs.lemmas.List.Elements.{All-nil, All-more}
use Rattle.std.proofs.lemmas.Option.{get_or_from_slice_get}

-- the texts of the first elements are UTF-8
pub record AreTexts {A : Type 0} (f : A → List ℕ) (done : ℕ) (xs : List A) : Type 0 where
  pub each : All (λ x. IsUtf8 (f x)) (take done xs)

pub none_yet : {A : Type 0} (f : A → List ℕ) (xs : List A) → AreTexts f 0 xs
none_yet f xs = record { each = All-nil (λ x. IsUtf8 (f x)) }

pub one_more : {A : Type 0} (f : A → List ℕ) (done : ℕ) (xs : List A) (x : A) (text : List ℕ) → AreTexts f done xs → done < length xs → x ≡ get_or xs done x → text ≡ f x → IsUtf8 text → AreTexts f (done + 1) xs
one_more f done xs x text h below here is utf8 = record {
  each = All-more (λ y. IsUtf8 (f y)) xs done x below h.each (subst IsUtf8 (is ∙ ap f here) utf8);
}

-- the same of an element that is found by its place
pub one_more_at : {A : Type 0} (f : A → List ℕ) (done : ℕ) (xs : List A) (text : List ℕ) → AreTexts f done xs → done < length xs → Some text ≡ option_map f (slice_get xs done) → IsUtf8 text → AreTexts f (done + 1) xs
one_more_at {A} f done xs text h below is utf8 = go (slice_get xs done) refl is
  where
    go : (o : Option A) → slice_get xs done ≡ o → Some text ≡ option_map f o → AreTexts f (done + 1) xs
    go None at e = cc
    go (Some x) at e = let same : text ≡ f x = cc in one_more f done xs x text h below (sym (get_or_from_slice_get xs done x x at)) same utf8

pub all_texts : {A : Type 0} (f : A → List ℕ) (done : ℕ) (xs : List A) → AreTexts f done xs → length xs ≤ done → All (λ x. IsUtf8 (f x)) xs
all_texts f done xs h over = subst (All (λ x. IsUtf8 (f x))) (take_all done xs over) h.each
