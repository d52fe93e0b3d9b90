-- What a row of parts stands for around the part that may have a key.
use Rattle.std.proofs.Common.{◌≡◌, ℕ, zero, suc, ◌+◌, ◌≤◌, false, List, [], ◌∷◌, ◌++◌, length, take, drop, slice_get, Some, None, IfSome, refl, sym, ◌∙◌, ap, subst, arith, append_assoc}
use Rattle.std.specs.declared.cmp.Ordering.{Ordering}
use Rattle.std.specs.Ordering.{is_lt}
use Rattle.std.specs.Cmp.{IsTotalOrder}
use Rattle.std.specs.List.Sorted.{IsStrictlySortedBy}
use Rattle.std.specs.Map.{lookup, remove_entry}
use Rattle.std.specs.BTreeMap.{insert_entry, is_at}
use Rattle.un_pages.specs.Pairs.{IsOrdered, IsAbove, IsBelow, past, flat, first_key, HasFirstKeys, IsGrown, IsPlace}
use Rattle.un_pages.proofs.Ordered.{above_lower, above-right, below_pair, below_higher, lookup-below, lookup-above, insert-below, insert-above, remove-below, remove-above, past-below, past-above, ordered-right, above_first}

-- a list around one of its places
pub around : {A : Type 0} (l : List A) (i : ℕ) (x : A) → slice_get l i ≡ Some x → l ≡ take i l ++ x ∷ drop (suc i) l
around [] i x h = cc
around (y ∷ l) zero x h = cc
around (y ∷ l) (suc i) x h = ap (λ r. y ∷ r) (around l i x h)

pub flat-append : {K T V : Type 0} (pairs : T → List (K × V)) (xs ys : List (K × T)) → flat pairs (xs ++ ys) ≡ flat pairs xs ++ flat pairs ys
flat-append pairs [] ys = refl
flat-append pairs (x ∷ xs) ys = rw (flat-append pairs xs ys) (sym (append_assoc (pairs x.1) (flat pairs xs) (flat pairs ys)))

pub leads-append : {K T V : Type 0} (pairs : T → List (K × V)) (xs ys : List (K × T)) → HasFirstKeys pairs xs → HasFirstKeys pairs ys → HasFirstKeys pairs (xs ++ ys)
leads-append pairs [] ys a b = b
leads-append pairs (x ∷ xs) ys a b = (a.0, leads-append pairs xs ys a.1 b)

pub leads-take : {K T V : Type 0} (pairs : T → List (K × V)) (xs : List (K × T)) (i : ℕ) → HasFirstKeys pairs xs → HasFirstKeys pairs (take i xs)
leads-take pairs xs zero a = tt
leads-take pairs [] (suc i) a = tt
leads-take pairs (x ∷ xs) (suc i) a = (a.0, leads-take pairs xs i a.1)

pub leads-drop : {K T V : Type 0} (pairs : T → List (K × V)) (xs : List (K × T)) (i : ℕ) → HasFirstKeys pairs xs → HasFirstKeys pairs (drop i xs)
leads-drop pairs xs zero a = a
leads-drop pairs [] (suc i) a = tt
leads-drop pairs (x ∷ xs) (suc i) a = leads-drop pairs xs i a.1

pub lead_at : {K T V : Type 0} (pairs : T → List (K × V)) (xs : List (K × T)) (i : ℕ) (x : K × T) → HasFirstKeys pairs xs → slice_get xs i ≡ Some x → first_key (pairs x.1) ≡ Some x.0
lead_at pairs [] i x a h = cc
lead_at pairs (y ∷ xs) zero x a h = let e : y ≡ x = cc in subst (λ z. first_key (pairs z.1) ≡ Some z.0) e a.0
lead_at pairs (y ∷ xs) (suc i) x a h = lead_at pairs xs i x a.1 h

-- a list that begins with a key
pub begun : {K V : Type 0} (l : List (K × V)) (k : K) → first_key l ≡ Some k → (v : V) × (r : List (K × V)) × (l ≡ (k, v) ∷ r)
begun [] k h = cc
begun (p ∷ ps) k h = let e : p.0 ≡ k = cc in (p.1, ps, ap (λ q. (q, p.1) ∷ ps) e)

-- the pairs past a key: of the part that may have it, and then of the part after that
module _ {K V : Type 0} where
  pub head_some : (l m : List (K × V)) (p : K × V) → Some p ≡ slice_get l 0 → Some p ≡ slice_get (l ++ m) 0
  head_some [] m p h = cc
  head_some (x ∷ l) m p h = h

  pub head_none : (l m : List (K × V)) → None ≡ slice_get l 0 → slice_get (l ++ m) 0 ≡ slice_get m 0
  head_none [] m h = refl
  head_none (x ∷ l) m h = cc

pub drop_beyond : {A : Type 0} (l : List A) (i : ℕ) → length l ≤ i → drop i l ≡ []
drop_beyond [] zero h = refl
drop_beyond [] (suc i) h = refl
drop_beyond (x ∷ l) zero h = absurd (omega arith)
drop_beyond (x ∷ l) (suc i) h = drop_beyond l i (omega arith)

pub slice_get-drop : {A : Type 0} (l : List A) (i : ℕ) → slice_get (drop i l) 0 ≡ slice_get l i
slice_get-drop [] zero = refl
slice_get-drop [] (suc i) = refl
slice_get-drop (x ∷ l) zero = refl
slice_get-drop (x ∷ l) (suc i) = slice_get-drop l i

-- the first pair of a grown row is the first of its first part
pub first_of : {K T V : Type 0} (pairs : T → List (K × V)) (row : List (K × T)) (x : K × T) → HasFirstKeys pairs row → slice_get row 0 ≡ Some x → slice_get (flat pairs row) 0 ≡ slice_get (pairs x.1) 0
first_of pairs [] x leads here = cc
first_of pairs (y ∷ row) x leads here =
    let e : y ≡ x = cc in
    let b = begun (pairs y.1) y.0 leads.0 in
    rw (← e, b.2) refl

module _ {K T V : Type 0} {cmp : K → K → Ordering} (o : IsTotalOrder cmp) (pairs : T → List (K × V)) where
  -- parts that begin above a key are above it
  above_flat : (key : K) (xs : List (K × T)) → HasFirstKeys pairs xs → IsOrdered cmp (flat pairs xs) → IsAbove cmp key xs → IsAbove cmp key (flat pairs xs)
  above_flat key [] l s a = tt
  above_flat key (x ∷ xs) l s a =
      let b = begun (pairs x.1) x.0 l.0 in
      let s' : IsOrdered cmp (((x.0, b.0) ∷ b.1) ++ flat pairs xs) = subst (λ q. IsOrdered cmp (q ++ flat pairs xs)) b.2 s in
      let up = above_first o (x.0, b.0) (b.1 ++ flat pairs xs) s' in
      subst (λ q. IsAbove cmp key (q ++ flat pairs xs)) (sym b.2) (a.0, above_lower o key x.0 (b.1 ++ flat pairs xs) a.0 up)

  -- the first keys of the parts of a grown row rise
  pub keys_rise : (xs : List (K × T)) → HasFirstKeys pairs xs → IsOrdered cmp (flat pairs xs) → IsOrdered cmp xs
  unfolding IsStrictlySortedBy
  keys_rise [] l s = tt
  keys_rise (x ∷ xs) l s =
      let b = begun (pairs x.1) x.0 l.0 in
      let s' : IsOrdered cmp (((x.0, b.0) ∷ b.1) ++ flat pairs xs) = subst (λ q. IsOrdered cmp (q ++ flat pairs xs)) b.2 s in
      let up = above-right o x.0 b.1 (flat pairs xs) (above_first o (x.0, b.0) (b.1 ++ flat pairs xs) s') in
      let rest = ordered-right o (pairs x.1) (flat pairs xs) s in
      (leading x.0 xs l.1 up, keys_rise xs l.1 rest)
    where
      leading : (key : K) (ys : List (K × T)) → HasFirstKeys pairs ys → IsAbove cmp key (flat pairs ys) → IsAbove cmp key ys
      leading key [] l a = tt
      leading key (y ∷ ys) l a =
          let b = begun (pairs y.1) y.0 l.0 in
          let a' : IsAbove cmp key (((y.0, b.0) ∷ b.1) ++ flat pairs ys) = subst (λ q. IsAbove cmp key (q ++ flat pairs ys)) b.2 a in
          (a'.0, leading key ys l.1 (above-right o key b.1 (flat pairs ys) a'.1))

  module _ (row : List (K × T)) (key : K) (i : ℕ) (x : K × T) (grown : IsGrown cmp pairs row) (place : IsPlace cmp row key i) (here : slice_get row i ≡ Some x) where
    abbrev before : List (K × V)
    before = flat pairs (take i row)

    abbrev after : List (K × V)
    after = flat pairs (drop (suc i) row)

    -- the parts before the place, the part there, and those after it
    pub parts : flat pairs row ≡ before ++ (pairs x.1 ++ after)
    parts = ap (flat pairs) (around row i x here) ∙ flat-append pairs (take i row) (x ∷ drop (suc i) row)

    parted : IsOrdered cmp (before ++ (pairs x.1 ++ after))
    parted = subst (IsOrdered cmp) parts grown.ordered

    pub is_above : IsAbove cmp key after
    is_above = above_flat key (drop (suc i) row) (leads-drop pairs row (suc i) grown.leads) (ordered-right o (pairs x.1) after (ordered-right o before (pairs x.1 ++ after) parted)) place.after

    below_from : (j : ℕ) → i ≡ j → IsBelow cmp (flat pairs (take j row)) key
    below_from zero e = tt
    below_from (suc j) e =
        let b = begun (pairs x.1) x.0 (lead_at pairs row i x grown.leads here) in
        let s : IsOrdered cmp (before ++ (x.0, b.0) ∷ (b.1 ++ after)) = subst (λ q. IsOrdered cmp (before ++ (q ++ after))) b.2 parted in
        let r : IfSome (slice_get row i) (λ p. is_lt (cmp key p.0) ≡ false) = place.reached (omega arith) in
        let g : is_lt (cmp key x.0) ≡ false = subst (λ q. IfSome q (λ p. is_lt (cmp key p.0) ≡ false)) here r in
        subst (λ q. IsBelow cmp (flat pairs (take q row)) key) e (below_higher o x.0 key before (below_pair o before (x.0, b.0) (b.1 ++ after) s) g)

    pub is_below : IsBelow cmp before key
    is_below = subst (λ q. IsBelow cmp (flat pairs (take q row)) key) refl (below_from i refl)

    pub looked_up : lookup (is_at (cmp key)) (flat pairs row) ≡ lookup (is_at (cmp key)) (pairs x.1)
    looked_up = ap (lookup (is_at (cmp key))) parts ∙ lookup-below o key before (pairs x.1 ++ after) is_below ∙ lookup-above o key (pairs x.1) after is_above

    pub inserted : (v : V) → insert_entry cmp (flat pairs row) key v ≡ before ++ (insert_entry cmp (pairs x.1) key v ++ after)
    inserted v = ap (λ l. insert_entry cmp l key v) parts ∙ insert-below o key before (pairs x.1 ++ after) v is_below ∙ ap (λ l. before ++ l) (insert-above o key (pairs x.1) after v is_above)

    pub removed : remove_entry (is_at (cmp key)) (flat pairs row) ≡ before ++ (remove_entry (is_at (cmp key)) (pairs x.1) ++ after)
    removed = ap (remove_entry (is_at (cmp key))) parts ∙ remove-below o key before (pairs x.1 ++ after) is_below ∙ ap (λ l. before ++ l) (remove-above o key (pairs x.1) after is_above)

    pub gone_past : past cmp (Some key) (flat pairs row) ≡ past cmp (Some key) (pairs x.1) ++ after
    gone_past = ap (past cmp (Some key)) parts ∙ past-below o key before (pairs x.1 ++ after) is_below ∙ past-above o key (pairs x.1) after is_above

    -- the first pair past the key stands in that part, or it is the first of the next part
    pub next_here : (p : K × V) → Some p ≡ slice_get (past cmp (Some key) (pairs x.1)) 0 → Some p ≡ slice_get (past cmp (Some key) (flat pairs row)) 0
    next_here p h = rw gone_past (head_some (past cmp (Some key) (pairs x.1)) after p h)

    pub next_beyond : None ≡ slice_get (past cmp (Some key) (pairs x.1)) 0 → slice_get (past cmp (Some key) (flat pairs row)) 0 ≡ slice_get after 0
    next_beyond h = rw gone_past (head_none (past cmp (Some key) (pairs x.1)) after h)

-- the first keys of a grown row rise
pub rises : {K T V : Type 0} {cmp : K → K → Ordering} (o : IsTotalOrder cmp) (pairs : T → List (K × V)) (row : List (K × T)) → IsGrown cmp pairs row → IsOrdered cmp row
rises o pairs row grown = keys_rise o pairs row grown.leads grown.ordered

-- the first pair of the parts from a place on
pub first_from : {K T V : Type 0} (pairs : T → List (K × V)) (row : List (K × T)) (i j : ℕ) (x : K × T) → j ≡ i + 1 → HasFirstKeys pairs row → slice_get row j ≡ Some x → slice_get (flat pairs (drop (suc i) row)) 0 ≡ slice_get (pairs x.1) 0
first_from pairs row i j x e leads here =
    let here' : slice_get row (suc i) ≡ Some x = subst (λ q. slice_get row q ≡ Some x) {x = j} (omega arith) here in
    first_of pairs (drop (suc i) row) x (leads-drop pairs row (suc i) leads) (slice_get-drop row (suc i) ∙ here')

pub none_from : {K T V : Type 0} (pairs : T → List (K × V)) (row : List (K × T)) (i : ℕ) → length row ≤ i + 1 → slice_get (flat pairs (drop (suc i) row)) 0 ≡ None
none_from pairs row i h = let none : drop (suc i) row ≡ [] = drop_beyond row (suc i) (omega arith) in ap (λ l. slice_get (flat pairs l) 0) none
