-- A chain of containers that is followed for as many steps as there are associations misses nothing.
use Rattle.std.proofs.Common.{◌≡◌, ◌≢◌, ℕ, zero, suc, ◌+◌, ◌-◌, ◌<◌, ◌≤◌, Bool, true, false, not, ◌==◌, ◌&&◌, ◌||◌, List, [], ◌∷◌, ◌⊎◌, inl, inr, find, length, Option, Some, None, cond, refl, sym, ◌∙◌, ap, subst, arith, true≢false, eqb-true}
use Rattle.std.proofs.lemmas.Bool.Decides.{nat_tests}
use Rattle.std.specs.List.{filter}
use Rattle.std.specs.Option.{option_map}
use Rattle.un_defs.specs.declared.assoc.Assoc.{Assoc}
use Rattle.un_defs.specs.Star.{is_containment}
use Rattle.un_assoc.specs.Containing.{is_content, container_of}
use Rattle.un_assoc.specs.Lawful.{ChainsEndLaw}
use Rattle.un_assoc.proofs.Chains.{is_among, chain_end, chain_on}

-- ---- chains of any kind

one_of : (a b : Bool) → (a || b) ≡ true → (a ≡ true) ⊎ (b ≡ true)
one_of true b e = inl refl
one_of false b e = inr e

second : (a b : Bool) → b ≡ true → (a || b) ≡ true
second true b e = refl
second false b e = e

module _ (sought : ℕ) where
  -- the step from a row to what is above it
  pub step : (n : ℕ) (up : ℕ → Option ℕ) (x c : ℕ) → up x ≡ Some c → is_among (suc n) up x sought ≡ ((c == sought) || is_among n up c sought)
  step n up x c e = let less : suc n - 1 ≡ n = omega arith in chain_on (suc n) up x sought c (omega arith) e ∙ ap (λ m. (c == sought) || is_among m up c sought) less

  -- what is reached at all is reached by a first step
  pub record IsUp (n : ℕ) (up : ℕ → Option ℕ) (x : ℕ) : Type 0 where
    pub next : ℕ
    pub is : up x ≡ Some next
    pub reached : (next == sought) ≡ true ⊎ (is_among n up next sought ≡ true)

  first_step : (n : ℕ) (up : ℕ → Option ℕ) (x : ℕ) → is_among (suc n) up x sought ≡ true → IsUp n up x
  first_step n up x e = by (up x) refl
    where
      by : (o : Option ℕ) → up x ≡ o → IsUp n up x
      by None is = absurd (true≢false (sym e ∙ chain_end (suc n) up x sought is))
      by (Some c) is = record { next = c; is = is; reached = one_of (c == sought) (is_among n up c sought) (sym (step n up x c is) ∙ e) }

  by_step : (n : ℕ) (up : ℕ → Option ℕ) (x c : ℕ) → up x ≡ Some c → (c == sought) ≡ true ⊎ (is_among n up c sought ≡ true) → is_among (suc n) up x sought ≡ true
  by_step n up x c is h = step n up x c is ∙ elim h [ inl e ↦ ap (λ b. b || is_among n up c sought) e | inr e ↦ second (c == sought) (is_among n up c sought) e ]

  -- more steps reach no less
  one_more : (n : ℕ) (up : ℕ → Option ℕ) (x : ℕ) → is_among n up x sought ≡ true → is_among (suc n) up x sought ≡ true
  one_more zero up x e = absurd (true≢false (sym e))
  one_more (suc n) up x e =
      let f = first_step n up x e in
      by_step (suc n) up x f.next f.is (elim f.reached [ inl h ↦ inl h | inr h ↦ inr (one_more n up f.next h) ])

  more : (k n : ℕ) (up : ℕ → Option ℕ) (x : ℕ) → is_among n up x sought ≡ true → is_among (k + n) up x sought ≡ true
  more zero n up x e = let same : n ≡ zero + n = omega arith in subst (λ m. is_among m up x sought ≡ true) same e
  more (suc k) n up x e = let same : suc (k + n) ≡ suc k + n = omega arith in subst (λ m. is_among m up x sought ≡ true) same (one_more (k + n) up x (more k n up x e))

  pub upto : (n m : ℕ) (up : ℕ → Option ℕ) (x : ℕ) → n ≤ m → is_among n up x sought ≡ true → is_among m up x sought ≡ true
  upto n m up x h e = let same : (m - n) + n ≡ m = omega arith in subst (λ k. is_among k up x sought ≡ true) same (more (m - n) n up x e)

  -- fewer steps up lead to no more
  pub within : (n : ℕ) (few up : ℕ → Option ℕ) → ((x c : ℕ) → few x ≡ Some c → up x ≡ Some c) → (x : ℕ) → is_among n few x sought ≡ true → is_among n up x sought ≡ true
  within zero few up h x e = e
  within (suc n) few up h x e =
      let f = first_step n few x e in
      by_step n up x f.next (h x f.next f.is) (elim f.reached [ inl g ↦ inl g | inr g ↦ inr (within n few up h f.next g) ])

  -- a chain either never passes a row, or goes on from it
  pub passes : (id n : ℕ) (few up : ℕ → Option ℕ) → ((x : ℕ) → x ≢ id → few x ≡ up x) → (x : ℕ) → is_among n up x sought ≡ true
      → (is_among n few x sought ≡ true) ⊎ (is_among n up id sought ≡ true)
  passes id zero few up h x e = inl e
  passes id (suc n) few up h x e = by (x == id) refl (passes id n few up h)
    where
      by : (t : Bool) → (x == id) ≡ t → ((y : ℕ) → is_among n up y sought ≡ true → (is_among n few y sought ≡ true) ⊎ (is_among n up id sought ≡ true))
          → (is_among (suc n) few x sought ≡ true) ⊎ (is_among (suc n) up id sought ≡ true)
      by true t ih = inr (subst (λ y. is_among (suc n) up y sought ≡ true) (eqb-true x id t) e)
      by false t ih =
          let f = first_step n up x e in
          let other : x ≢ id = λ s. absurd (grind (arith, nat_tests)) in
          let is : few x ≡ Some f.next = h x other ∙ f.is in
          elim f.reached [
            | inl g ↦ inl (by_step n few x f.next is (inl g))
            | inr g ↦ elim (ih f.next g) [ inl k ↦ inl (by_step n few x f.next is (inr k)) | inr k ↦ inr (one_more n up id k) ]
          ]

-- ---- chains of containers

-- the associations but those in which the row is a content
abbrev without : ℕ → List Assoc → List Assoc
without id = filter (λ a. not (is_content id a))

none_left : (id : ℕ) (list : List Assoc) → container_of (without id list) id ≡ None
none_left id [] = refl
none_left id (a ∷ more) = by (is_content id a) refl (none_left id more)
  where
    by : (t : Bool) → is_content id a ≡ t → container_of (without id more) id ≡ None → option_map (λ b. b.from.feature) (find (is_content id) (cond (not t) (a ∷ without id more) (without id more))) ≡ None
    by true t ih = ih
    by false t ih = ap (λ b. option_map (λ b. b.from.feature) (cond b (Some a) (find (is_content id) (without id more)))) t ∙ ih

content_apart : (id x : ℕ) (a : Assoc) → x ≢ id → is_content x a ≡ true → is_content id a ≡ false
content_apart id x a other e = by (is_containment a.sort) e
  where
    by : (s : Bool) → (s && (a.to.feature == x)) ≡ true → (s && (a.to.feature == id)) ≡ false
    by true e = let same : a.to.feature ≡ x = eqb-true a.to.feature x e in grind (arith, nat_tests)
    by false e = refl

as_before : (id : ℕ) (list : List Assoc) (x : ℕ) → x ≢ id → container_of (without id list) x ≡ container_of list x
as_before id [] x other = refl
as_before id (a ∷ more) x other = by (is_content id a) (is_content x a) refl refl (as_before id more x other)
  where
    by : (s t : Bool) → is_content id a ≡ s → is_content x a ≡ t → container_of (without id more) x ≡ container_of more x
        → option_map (λ b. b.from.feature) (find (is_content x) (cond (not s) (a ∷ without id more) (without id more))) ≡ option_map (λ b. b.from.feature) (cond t (Some a) (find (is_content x) more))
    by true true e g ih = absurd (true≢false (sym e ∙ content_apart id x a other g))
    by true false e g ih = ih
    by false true e g ih = ap (λ b. option_map (λ b. b.from.feature) (cond b (Some a) (find (is_content x) (without id more)))) g
    by false false e g ih = ap (λ b. option_map (λ b. b.from.feature) (cond b (Some a) (find (is_content x) (without id more)))) g ∙ ih

no_longer : (id : ℕ) (list : List Assoc) → length (without id list) ≤ length list
no_longer id [] = omega arith
no_longer id (a ∷ more) = by (is_content id a) (no_longer id more)
  where
    by : (t : Bool) → length (without id more) ≤ length more → length (cond (not t) (a ∷ without id more) (without id more)) ≤ length (a ∷ more)
    by true h = omega arith
    by false h = omega arith

shorter : (id c : ℕ) (list : List Assoc) → container_of list id ≡ Some c → length (without id list) < length list
shorter id c [] e = cc
shorter id c (a ∷ more) e = by (is_content id a) e (no_longer id more) (shorter id c more)
  where
    by : (t : Bool) → option_map (λ b. b.from.feature) (cond t (Some a) (find (is_content id) more)) ≡ Some c → length (without id more) ≤ length more
        → (container_of more id ≡ Some c → length (without id more) < length more) → length (cond (not t) (a ∷ without id more) (without id more)) < length (a ∷ more)
    by true e h ih = omega arith
    by false e h ih = let rest = ih e in omega arith

-- what is reached from a row is reached in as many steps as there are associations
abbrev IsBounded : ℕ → List Assoc → Type 0
IsBounded sought list = (n id : ℕ) → is_among n (container_of list) id sought ≡ true → is_among (length list) (container_of list) id sought ≡ true

module _ (sought l : ℕ) (ih : (few : List Assoc) → length few ≤ l → IsBounded sought few) (list : List Assoc) (h : length list ≤ suc l) where
  kept : (id x c : ℕ) → container_of (without id list) x ≡ Some c → container_of list x ≡ Some c
  kept id x c e = by (x == id) refl
    where
      by : (t : Bool) → (x == id) ≡ t → container_of list x ≡ Some c
      by true t = let none : container_of (without id list) x ≡ None = subst (λ y. container_of (without id list) y ≡ None) (sym (eqb-true x id t)) (none_left id list) in cc
      by false t = let other : x ≢ id = λ s. absurd (grind (arith, nat_tests)) in sym (as_before id list x other) ∙ e

  finish : (n id : ℕ) → IsUp sought n (container_of list) id → (is_among n (container_of list) id sought ≡ true → is_among (length list) (container_of list) id sought ≡ true)
      → is_among (length list) (container_of list) id sought ≡ true
  finish n id f again =
      let less : length (without id list) < length list = shorter id f.next list f.is in
      let some : 0 < length list = omega arith in
      let room : length (without id list) ≤ l = omega arith in
      let below : length (without id list) ≤ length list - 1 = omega arith in
      let turn : is_among (length list) (container_of list) id sought ≡ ((f.next == sought) || is_among (length list - 1) (container_of list) f.next sought) =
      chain_on (length list) (container_of list) id sought f.next some f.is in
      elim f.reached [
        | inl g ↦ turn ∙ ap (λ b. b || is_among (length list - 1) (container_of list) f.next sought) g
        | inr g ↦ elim (passes sought id n (container_of (without id list)) (container_of list) (as_before id list) f.next g) [
          | inl k ↦ turn ∙ second (f.next == sought) (is_among (length list - 1) (container_of list) f.next sought)
              (upto sought (length (without id list)) (length list - 1) (container_of list) f.next below
              (within sought (length (without id list)) (container_of (without id list)) (container_of list) (kept id) f.next (ih (without id list) room n f.next k)))
          | inr k ↦ again k
        ]
      ]

  bounded : IsBounded sought list
  bounded zero id e = absurd (true≢false (sym e))
  bounded (suc n) id e = finish n id (first_step sought n (container_of list) id e) (bounded n id)

all_bounded : (sought l : ℕ) (list : List Assoc) → length list ≤ l → IsBounded sought list
all_bounded sought zero [] h n id e = absurd (true≢false (sym e ∙ chain_end n (container_of []) id sought refl))
all_bounded sought zero (a ∷ more) h n id e = absurd (omega arith)
all_bounded sought (suc l) list h n id e = bounded sought l (all_bounded sought l) list h n id e

pub chains_end : ChainsEndLaw
chains_end associations id sought n e = let all : length associations ≤ length associations = omega arith in all_bounded sought (length associations) associations all n id e
