-- How a list of found nodes grows.
use Rattle.std.proofs.Common.{◌≡◌, ℕ, zero, suc, ◌<◌, Bool, true, false, cond, List, [], ◌∷◌, ◌++◌, length, get_or, take, Contains, refl, sym, ap, ◌∙◌, ◌⊎◌, inl, inr, append-nil, append_assoc, arith}
use Rattle.un_defs.specs.declared.port.Node.{Node}
use Rattle.un_defs.proofs.Rising.{Among}
use Rattle.un_defs.proofs.Members.{among_cases, contains_from_among, among_from_contains}
use Rattle.un_walk.specs.Growth.{has_node, with_node, GrowsBy}

none_taken : {A : Type 0} (xs : List A) (y : A) → Among (take 0 xs) y → ⊥
none_taken [] y h = h
none_taken (x ∷ xs) y h = h

-- what the first elements of a list have, one element further
pub taken : {A : Type 0} (xs : List A) (k : ℕ) (d y : A) → Among (take (suc k) xs) y → Among (take k xs) y ⊎ (y ≡ get_or xs k d)
taken [] k d y h = absurd h
taken (x ∷ xs) zero d y h = elim h [ inl e ↦ inr (sym e) | inr rest ↦ absurd (none_taken xs y rest) ]
taken (x ∷ xs) (suc k) d y h = elim h [
  | inl e ↦ inl (inl e)
  | inr rest ↦ elim (taken xs k d y rest) [ inl a ↦ inl (inr a) | inr e ↦ inr e ]
]

pub taken_kept : {A : Type 0} (xs : List A) (k : ℕ) (y : A) → Among (take k xs) y → Among (take (suc k) xs) y
taken_kept [] zero y h = absurd h
taken_kept [] (suc k) y h = absurd h
taken_kept (x ∷ xs) zero y h = absurd h
taken_kept (x ∷ xs) (suc k) y h = elim h [ inl e ↦ inl e | inr rest ↦ inr (taken_kept xs k y rest) ]

pub taken_last : {A : Type 0} (xs : List A) (k : ℕ) (d : A) → k < length xs → Among (take (suc k) xs) (get_or xs k d)
taken_last [] k d l = absurd (omega arith)
taken_last (x ∷ xs) zero d l = inl refl
taken_last (x ∷ xs) (suc k) d l = inr (taken_last xs k d (omega arith))

-- a list has the element at each of its places
pub contains_at : {A : Type 0} (xs : List A) (k : ℕ) (d : A) → k < length xs → Contains xs (get_or xs k d)
contains_at {A} xs k d l = (k, l, again xs k l)
  where
    again : (xs : List A) (k : ℕ) → k < length xs → get_or xs k (get_or xs k d) ≡ get_or xs k d
    again [] k l = absurd (omega arith)
    again (y ∷ ys) zero l = refl
    again (y ∷ ys) (suc k) l = again ys k (omega arith)

-- ---- lists that grow

-- a list that stays has no more
pub grows_none : (ns : List Node) (next : Node → Bool) → GrowsBy ns ns next
grows_none ns next = record { more = []; is = sym (append-nil ns); only = λ n h. absurd (among_from_contains [] n h) }

-- the test may be another that answers alike
pub grows_same : (old new : List Node) (p q : Node → Bool) → ((n : Node) → q n ≡ p n) → GrowsBy old new p → GrowsBy old new q
grows_same old new p q same g = record { more = g.more; is = g.is; only = λ n h. same n ∙ g.only n h }

-- one node more, unless the list has it
pub grows_with : (old new : List Node) (next : Node → Bool) (m : Node) → next m ≡ true → GrowsBy old new next → GrowsBy old (with_node new m) next
grows_with old new next m passes g = go (has_node new m)
  where
    go : (b : Bool) → GrowsBy old (cond b new (new ++ m ∷ [])) next
    go true = g
    go false = record {
      more = g.more ++ m ∷ [];
      is = ap (λ l. l ++ m ∷ []) g.is ∙ append_assoc old g.more (m ∷ []);
      only = λ n h. elim (among_cases g.more (m ∷ []) n (among_from_contains (g.more ++ m ∷ []) n h)) [
        | inl a ↦ g.only n (contains_from_among g.more n a)
        | inr a ↦ elim a [ inl e ↦ ap next (sym e) ∙ passes | inr e ↦ absurd e ]
      ];
    }
