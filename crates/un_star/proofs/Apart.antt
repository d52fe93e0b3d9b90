-- Lists whose elements are apart, and what two such lists with the same elements have in common.
use Rattle.std.proofs.Common.{◌≡◌, ◌≢◌, zero, suc, Bool, true, false, cond, inl, inr, List, [], ◌∷◌, ◌++◌, length, map, filter, filter_map, flat_map, option_to_list, refl, sym, ap, ◌∙◌, subst, Option, Some, None, AllPairs, Ordering, Less, Equal, nat_le, arith, rules}
use Rattle.std.specs.Cmp.{IsTotalOrder, tied_itself}
use Rattle.std.specs.List.{list_any, AllByRecursion, cons_option}
use Rattle.std.specs.List.Sorted.{IsStrictlySortedBy}
use Rattle.std.specs.Option.{option_map}
use Rattle.un_defs.specs.Links.{only}
use Rattle.un_defs.proofs.Rising.{Among}
use Rattle.un_defs.proofs.Members.{among_from-filter, among_cases, among_from-filter_map, list_any_from_among, among_from_list_any}
use Rattle.un_defs.proofs.Unique.{from_all}

both_or_neither : (b c : Bool) → (b ≡ true → c ≡ true) → (c ≡ true → b ≡ true) → b ≡ c
both_or_neither true c f g = sym (f refl)
both_or_neither false true f g = g refl
both_or_neither false false f g = refl

-- no two elements are one
abbrev pub Apart : {A : Type 0} → List A → Type 0
Apart [] = Unit {0}
Apart {A} (x ∷ xs) = ((y : A) → Among xs y → x ≢ y) × Apart xs

module _ {A : Type 0} where
  -- the elements of one list are those of another
  pub record Same (xs ys : List A) : Type 0 where
    pub to : (x : A) → Among xs x → Among ys x
    pub from : (x : A) → Among ys x → Among xs x

  -- both have none, one or several
  pub data Alike (xs ys : List A) : Type 0 where
    none : xs ≡ [] → ys ≡ [] → Alike xs ys
    one : (x : A) → xs ≡ x ∷ [] → ys ≡ x ∷ [] → Alike xs ys
    several : (a b : A) (rest : List A) → xs ≡ a ∷ b ∷ rest → (c d : A) (cs : List A) → ys ≡ c ∷ d ∷ cs → Alike xs ys

  pub alike : (xs ys : List A) → Apart xs → Apart ys → Same xs ys → Alike xs ys
  alike [] [] p q s = none refl refl
  alike [] (y ∷ ys) p q s = absurd (s.from y (inl refl))
  alike (x ∷ xs) [] p q s = absurd (s.to x (inl refl))
  alike (x ∷ []) (y ∷ []) p q s = one x refl (ap (λ z. z ∷ []) (elim (s.to x (inl refl)) [ inl e ↦ e | inr h ↦ absurd h ]))
  alike (x ∷ []) (c ∷ d ∷ cs) p q s =
      let first : x ≡ c = elim (s.from c (inl refl)) [ inl e ↦ e | inr h ↦ absurd h ] in
      let second : x ≡ d = elim (s.from d (inr (inl refl))) [ inl e ↦ e | inr h ↦ absurd h ] in
      absurd (q.0 d (inl refl) (sym first ∙ second))
  alike (a ∷ b ∷ rest) (y ∷ []) p q s =
      let first : y ≡ a = elim (s.to a (inl refl)) [ inl e ↦ e | inr h ↦ absurd h ] in
      let second : y ≡ b = elim (s.to b (inr (inl refl))) [ inl e ↦ e | inr h ↦ absurd h ] in
      absurd (p.0 b (inl refl) (sym first ∙ second))
  alike (a ∷ b ∷ rest) (c ∷ d ∷ cs) p q s = several a b rest refl c d cs refl

  pub alike_only : (xs ys : List A) → Alike xs ys → only xs ≡ only ys
  alike_only xs ys (none e f) = ap only e ∙ sym (ap only f)
  alike_only xs ys (one x e f) = ap only e ∙ sym (ap only f)
  alike_only xs ys (several a b rest e c d cs f) = ap only e ∙ sym (ap only f)

  two : (a b : A) (xs : List A) → nat_le 2 (length (a ∷ b ∷ xs)) ≡ true
  two a b xs = search (rules, arith)

  pub alike_two : (xs ys : List A) → Alike xs ys → nat_le 2 (length xs) ≡ nat_le 2 (length ys)
  alike_two xs ys (none e f) = ap (λ l. nat_le 2 (length l)) e ∙ sym (ap (λ l. nat_le 2 (length l)) f)
  alike_two xs ys (one x e f) = ap (λ l. nat_le 2 (length l)) e ∙ sym (ap (λ l. nat_le 2 (length l)) f)
  alike_two xs ys (several a b rest e c d cs f) = ap (λ l. nat_le 2 (length l)) e ∙ two a b rest ∙ sym (two c d cs) ∙ sym (ap (λ l. nat_le 2 (length l)) f)

  pub same_any : (p : A → Bool) (xs ys : List A) → Same xs ys → list_any p xs ≡ list_any p ys
  same_any p xs ys s = both_or_neither (list_any p xs) (list_any p ys)
      (λ e. let x = among_from_list_any p xs e in list_any_from_among p ys x.0 (s.to x.0 x.1) x.2)
      (λ e. let x = among_from_list_any p ys e in list_any_from_among p xs x.0 (s.from x.0 x.1) x.2)

  -- ---- which lists are apart

  pub apart-filter : (p : A → Bool) (xs : List A) → Apart xs → Apart (filter p xs)
  apart-filter p [] h = tt
  apart-filter p (x ∷ xs) h =
      elim (p x) as (λ b. Apart (cond b (x ∷ filter p xs) (filter p xs))) [
        | true ↦ ((λ y g. h.0 y (among_from-filter p xs y g).0), apart-filter p xs h.1)
        | false ↦ apart-filter p xs h.1
      ]

  pub apart-append : (xs ys : List A) → Apart xs → Apart ys → ((x y : A) → Among xs x → Among ys y → x ≢ y) → Apart (xs ++ ys)
  apart-append [] ys p q cross = q
  apart-append (x ∷ xs) ys p q cross = (
    (λ y h. elim (among_cases xs ys y h) [ inl g ↦ p.0 y g | inr g ↦ cross x y (inl refl) g ]),
    apart-append xs ys p.1 q (λ a b g h. cross a b (inr g) h),
  )

  pub apart_by : {K : Type 0} (key : A → K) (xs : List A) → AllPairs (λ x y. key x ≢ key y) xs → Apart xs
  apart_by key [] pairs = tt
  apart_by key (x ∷ xs) pairs =
      ((λ y h e. head y h (ap key e)), apart_by key xs (λ i j d l m. pairs (suc i) (suc j) d (omega (arith, l)) (omega (arith, m))))
    where
      head : (y : A) → Among xs y → key x ≢ key y
      head = from_all (λ w. key x ≢ key w) xs (λ k d l. pairs zero (suc k) d (omega arith) (omega (arith, l)))

  all_here : (P : A → Type 0) (xs : List A) → AllByRecursion P xs → (x : A) → Among xs x → P x
  all_here P [] h x g = absurd g
  all_here P (y ∷ ys) h x g = elim g [ inl e ↦ subst P e h.0 | inr i ↦ all_here P ys h.1 x i ]

  pub apart_sorted : {cmp : A → A → Ordering} → IsTotalOrder cmp → (xs : List A) → IsStrictlySortedBy cmp xs → Apart xs
  unfolding IsStrictlySortedBy
  apart_sorted total [] h = tt
  apart_sorted {cmp} total (x ∷ xs) h = (
    (λ y g e.
        let less : cmp x y ≡ Less = all_here (λ z. cmp x z ≡ Less) xs h.0 y g in
        let tied : cmp x y ≡ Equal = ap (cmp x) (sym e) ∙ tied_itself total x in
        let no : Less ≡ Equal = sym less ∙ tied in absurd (cc)),
    apart_sorted total xs h.1,
  )

module _ {A B : Type 0} where
  pub apart-filter_map : (f : A → Option B) (xs : List A) → ((x y : A) (z : B) → f x ≡ Some z → f y ≡ Some z → x ≡ y) → Apart xs → Apart (filter_map f xs)
  apart-filter_map f [] into h = tt
  apart-filter_map f (x ∷ xs) into h = go (apart-filter_map f xs into h.1) (f x) refl
    where
      go : Apart (filter_map f xs) → (o : Option B) → f x ≡ o → Apart (cons_option o (filter_map f xs))
      go tail None e = tail
      go tail (Some z) e = ((λ w g same. let y = among_from-filter_map f xs w g in h.0 y.0 y.1 (into x y.0 z e (y.2 ∙ ap Some (sym same)))), tail)

  pub apart-flat_map : (f : A → List B) (xs : List A) → ((x y : A) (z : B) → Among (f x) z → Among (f y) z → x ≡ y) → ((x : A) → Apart (f x)) → Apart xs → Apart (flat_map f xs)
  apart-flat_map f [] into each h = tt
  apart-flat_map f (x ∷ xs) into each h = apart-append (f x) (flat_map f xs) (each x) (apart-flat_map f xs into each h.1) (λ z w g i e.
      let y = flat xs w i in
      h.0 y.0 y.1 (into x y.0 z g (subst (Among (f y.0)) (sym e) y.2)))
    where
      flat : (xs : List A) (w : B) → Among (flat_map f xs) w → (x : A) × Among xs x × Among (f x) w
      flat [] w h = absurd h
      flat (x ∷ xs) w h = elim (among_cases (f x) (flat_map f xs) w h) [ inl g ↦ (x, inl refl, g) | inr g ↦ let r = flat xs w g in (r.0, inr r.1, r.2) ]

  -- ---- maps

  pub filter_map-flat : (f : A → Option B) (xs : List A) → flat_map (λ x. option_to_list (f x)) xs ≡ filter_map f xs
  filter_map-flat f [] = refl
  filter_map-flat f (x ∷ xs) = go (f x) (filter_map-flat f xs)
    where
      go : (o : Option B) → flat_map (λ x. option_to_list (f x)) xs ≡ filter_map f xs → option_to_list o ++ flat_map (λ x. option_to_list (f x)) xs ≡ cons_option o (filter_map f xs)
      go None h = h
      go (Some z) h = ap (λ l. z ∷ l) h

  pub same-map : (f : A → B) (xs ys : List A) → Same xs ys → Same (map f xs) (map f ys)
  same-map f xs ys s = record {
    to = λ z h. let x = from_map xs z h in subst (Among (map f ys)) x.2 (to_map ys x.0 (s.to x.0 x.1));
    from = λ z h. let x = from_map ys z h in subst (Among (map f xs)) x.2 (to_map xs x.0 (s.from x.0 x.1));
  }
    where
      from_map : (xs : List A) (z : B) → Among (map f xs) z → (x : A) × Among xs x × (f x ≡ z)
      from_map [] z h = absurd h
      from_map (x ∷ xs) z h = elim h [ inl e ↦ (x, inl refl, e) | inr g ↦ let r = from_map xs z g in (r.0, inr r.1, r.2) ]

      to_map : (xs : List A) (x : A) → Among xs x → Among (map f xs) (f x)
      to_map [] x h = absurd h
      to_map (y ∷ xs) x h = elim h [ inl e ↦ inl (ap f e) | inr g ↦ inr (to_map xs x g) ]

module _ {A B C : Type 0} where
  pub filter_map-map : (g : B → C) (f : A → Option B) (xs : List A) → filter_map (λ x. option_map g (f x)) xs ≡ map g (filter_map f xs)
  filter_map-map g f [] = refl
  filter_map-map g f (x ∷ xs) = go (f x) (filter_map-map g f xs)
    where
      go : (o : Option B) → filter_map (λ x. option_map g (f x)) xs ≡ map g (filter_map f xs) → cons_option (option_map g o) (filter_map (λ x. option_map g (f x)) xs) ≡ map g (cons_option o (filter_map f xs))
      go None h = h
      go (Some z) h = ap (λ l. g z ∷ l) h
