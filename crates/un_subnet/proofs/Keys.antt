-- How keys compare, by subject and then by number, and what an insertion, a removal and a run of them are.
use Rattle.std.proofs.Common.{◌≡◌, ℕ, Bool, true, false, not, ◌==◌, ◌&&◌, ◌||◌, List, [], ◌∷◌, cond, refl, sym, ◌∙◌, ap, subst, arith, true≢false}
use Rattle.std.proofs.lemmas.Bool.Decides.{nat_tests}
use Rattle.std.proofs.lemmas.Cmp.{ranked}
use Rattle.std.proofs.lemmas.List.Sums.{take_while-cons}
use Rattle.std.specs.declared.cmp.Ordering.{Ordering}
use Rattle.std.specs.declared.cmp.Ordering.TheVariants.{Less, Equal, Greater}
use Rattle.std.specs.declared.ops.Bound.TheVariants.{Included}
use Rattle.std.specs.Ordering.{nat_cmp, int_cmp, is_eq, is_lt, ordering_then, ordering_reverse, match_ordering}
use Rattle.std.specs.Cmp.{IsTotalOrder, on_total, then_total, nat_cmp_total, tied_itself}
use Rattle.std.specs.List.{list_any, filter, take_while}
use Rattle.std.specs.List.Sorted.{IsStrictlySortedBy}
use Rattle.std.specs.Map.{remove_entry}
use Rattle.std.specs.BTreeMap.{is_at, insert_entry}
use Rattle.un_geom.specs.Places.{point_cmp}
use Rattle.un_pages.specs.Pairs.{IsOrdered, IsAbove, from_on}
use Rattle.un_defs.proofs.OrderLaws.{point_total, point_ties}
use Rattle.un_subnet.specs.contracts.row_index.KeyOrd.TheImpl as by_key
use Rattle.un_subnet.specs.contracts.row_index.SubjectOrd.TheImpl as by_subject
use Rattle.un_subnet.specs.declared.row_index.Subject.{Subject}
use Rattle.un_subnet.specs.declared.row_index.Subject.TheVariants.{Subnet, At}
use Rattle.un_subnet.specs.declared.row_index.Key.{Key}
use Rattle.un_subnet.specs.RowIndex.{same_subject, same_key, has_key}
use Rattle.un_subnet.proofs.Alike.{points_alike}

-- ---- the orders

abbrev pub subject_cmp : Subject → Subject → Ordering
subject_cmp (Subnet a) (Subnet b) = nat_cmp a b
subject_cmp (Subnet a) (At q) = Less
subject_cmp (At p) (Subnet b) = Greater
subject_cmp (At p) (At q) = point_cmp p q

abbrev pub key_cmp : Key → Key → Ordering
key_cmp a b = ordering_then (subject_cmp a.subject b.subject) (nat_cmp a.number b.number)

subject_alike : (a b : Subject) → by_subject.ghosts.cmp a b ≡ subject_cmp a b
subject_alike (Subnet a) (Subnet b) = refl
subject_alike (Subnet a) (At q) = refl
subject_alike (At p) (Subnet b) = refl
subject_alike (At p) (At q) = ap (λ f. f p q) points_alike

pub keys_alike : by_key.ghosts.cmp ≡ key_cmp
keys_alike = λ i a b. ordering_then (subject_alike a.subject b.subject i) (nat_cmp a.number b.number)

subject_total : IsTotalOrder subject_cmp
subject_total = record { antisymm = back; trans = on; congr = alike }
  where
    back : (x y : Subject) → subject_cmp x y ≡ ordering_reverse (subject_cmp y x)
    back (Subnet a) (Subnet b) = nat_cmp_total.antisymm a b
    back (Subnet a) (At q) = refl
    back (At p) (Subnet b) = refl
    back (At p) (At q) = point_total.antisymm p q

    on : (x y z : Subject) → subject_cmp x y ≡ Less → subject_cmp y z ≡ Less → subject_cmp x z ≡ Less
    on (Subnet a) (Subnet b) (Subnet c) e f = nat_cmp_total.trans a b c e f
    on (Subnet a) (Subnet b) (At r) e f = refl
    on (Subnet a) (At q) (Subnet c) e f = cc
    on (Subnet a) (At q) (At r) e f = refl
    on (At p) (Subnet b) z e f = cc
    on (At p) (At q) (Subnet c) e f = cc
    on (At p) (At q) (At r) e f = point_total.trans p q r e f

    alike : (x y z : Subject) → subject_cmp x y ≡ Equal → subject_cmp x z ≡ subject_cmp y z
    alike (Subnet a) (Subnet b) (Subnet c) e = nat_cmp_total.congr a b c e
    alike (Subnet a) (Subnet b) (At r) e = refl
    alike (Subnet a) (At q) z e = cc
    alike (At p) (Subnet b) z e = cc
    alike (At p) (At q) (Subnet c) e = refl
    alike (At p) (At q) (At r) e = point_total.congr p q r e

pub key_total : IsTotalOrder key_cmp
key_total = then_total (on_total (λ (k : Key). k.subject) subject_total) (on_total (λ (k : Key). k.number) nat_cmp_total)

-- ---- keys that are one

pub is_equal : (r : Ordering) → is_eq r ≡ true → r ≡ Equal
is_equal Less t = cc
is_equal Equal t = refl
is_equal Greater t = cc

pub nat_tie : (a b : ℕ) → nat_cmp a b ≡ Equal → a ≡ b
nat_tie a b e = ranked a b Equal (sym e)

pub nat_same : (a b : ℕ) → is_eq (nat_cmp a b) ≡ (a == b)
nat_same a b = grind (arith, nat_tests)

by_parts : (a b c : Ordering) → is_eq (ordering_then a (ordering_then b (ordering_then c Equal))) ≡ (is_eq a && is_eq b && is_eq c)
by_parts Less b c = refl
by_parts Greater b c = refl
by_parts Equal Less c = refl
by_parts Equal Greater c = refl
by_parts Equal Equal Less = refl
by_parts Equal Equal Equal = refl
by_parts Equal Equal Greater = refl

subject_same : (a b : Subject) → is_eq (subject_cmp a b) ≡ same_subject a b
subject_same (Subnet a) (Subnet b) = nat_same a b
subject_same (Subnet a) (At q) = refl
subject_same (At p) (Subnet b) = refl
subject_same (At p) (At q) = by_parts (int_cmp p.x q.x) (int_cmp p.y q.y) (int_cmp p.z q.z)

subject_ties : (a b : Subject) → subject_cmp a b ≡ Equal → a ≡ b
subject_ties (Subnet a) (Subnet b) e = ap Subnet (nat_tie a b e)
subject_ties (Subnet a) (At q) e = cc
subject_ties (At p) (Subnet b) e = cc
subject_ties (At p) (At q) e = ap At (point_ties p q e)

pub subject_is : (a b : Subject) → same_subject a b ≡ true → a ≡ b
subject_is a b e = subject_ties a b (is_equal (subject_cmp a b) (subject_same a b ∙ e))

pub subject_itself : (a : Subject) → same_subject a a ≡ true
subject_itself a = sym (subject_same a a) ∙ ap is_eq (tied_itself subject_total a)

both_tie : (r s : Ordering) → ordering_then r s ≡ Equal → (r ≡ Equal) × (s ≡ Equal)
both_tie Less s e = cc
both_tie Equal s e = (refl, e)
both_tie Greater s e = cc

both_eq : (r s : Ordering) → is_eq (ordering_then r s) ≡ (is_eq r && is_eq s)
both_eq Less s = refl
both_eq Equal s = refl
both_eq Greater s = refl

key_ties : (a b : Key) → key_cmp a b ≡ Equal → a ≡ b
key_ties a b e =
    let parts = both_tie (subject_cmp a.subject b.subject) (nat_cmp a.number b.number) e in
    let subjects = subject_ties a.subject b.subject parts.0 in
    let numbers = nat_tie a.number b.number parts.1 in
    λ i. record { subject = subjects i; number = numbers i }

key_same : (a b : Key) → is_eq (key_cmp a b) ≡ same_key a b
key_same a b =
    both_eq (subject_cmp a.subject b.subject) (nat_cmp a.number b.number)
    ∙ ap (λ t. t && is_eq (nat_cmp a.number b.number)) (subject_same a.subject b.subject)
    ∙ ap (λ t. same_subject a.subject b.subject && t) (nat_same a.number b.number)

-- ---- a key more, a key less

twice : (b h : Bool) → (b || h) ≡ (b || (b || h))
twice true h = refl
twice false h = refl

swapped : (b c h : Bool) → (b || (c || h)) ≡ (c || (b || h))
swapped true true h = refl
swapped true false h = refl
swapped false c h = refl

never : (b : Bool) → false ≡ (not b && false)
never true = refl
never false = refl

left_out : (b c h : Bool) → (b ≡ true → c ≡ true → ⊥) → (b || (not c && h)) ≡ (not c && (b || h))
left_out true true h off = absurd (off refl refl)
left_out true false h off = refl
left_out false c h off = refl

module _ {K V : Type 0} {cmp : K → K → Ordering} (o : IsTotalOrder cmp) (ties : (a b : K) → cmp a b ≡ Equal → a ≡ b)
    (same : K → K → Bool) (same_is : (a b : K) → is_eq (cmp a b) ≡ same a b) (q p : K) where
  put_one : (v : V) (ps : List (K × V)) → list_any (λ k. same q k.0) (insert_entry cmp ps p v) ≡ (same q p || list_any (λ k. same q k.0) ps)
  put_one v [] = refl
  put_one v (x ∷ ps) = by (cmp p x.0) refl (put_one v ps)
    where
      by : (r : Ordering) → cmp p x.0 ≡ r → list_any (λ k. same q k.0) (insert_entry cmp ps p v) ≡ (same q p || list_any (λ k. same q k.0) ps)
          → list_any (λ k. same q k.0) (match_ordering r ((p, v) ∷ x ∷ ps) ((x.0, v) ∷ ps) (x ∷ insert_entry cmp ps p v)) ≡ (same q p || (same q x.0 || list_any (λ k. same q k.0) ps))
      by Less e ih = refl
      by Equal e ih =
          subst (λ k. (same q x.0 || list_any (λ k. same q k.0) ps) ≡ (same q k || (same q x.0 || list_any (λ k. same q k.0) ps))) (sym (ties p x.0 e))
          (twice (same q x.0) (list_any (λ k. same q k.0) ps))
      by Greater e ih = ap (λ b. same q x.0 || b) ih ∙ swapped (same q x.0) (same q p) (list_any (λ k. same q k.0) ps)

  none_above : (k : K) (ps : List (K × V)) → IsAbove cmp k ps → list_any (λ x. same k x.0) ps ≡ false
  none_above k [] a = refl
  none_above k (x ∷ ps) a = ap (λ b. b || list_any (λ x. same k x.0) ps) (sym (same_is k x.0) ∙ ap is_eq a.0) ∙ none_above k ps a.1

  cut_one : (ps : List (K × V)) → IsOrdered cmp ps → list_any (λ k. same q k.0) (remove_entry (is_at (cmp p)) ps) ≡ (not (same q p) && list_any (λ k. same q k.0) ps)
  unfolding IsStrictlySortedBy
  cut_one [] s = never (same q p)
  cut_one (x ∷ ps) s = by (is_eq (cmp p x.0)) refl (cut_one ps s.1)
    where
      gone : (b : Bool) → same q x.0 ≡ b → list_any (λ k. same q k.0) ps ≡ (not b && (b || list_any (λ k. same q k.0) ps))
      gone true e = subst (λ k. list_any (λ x. same k x.0) ps ≡ false) (sym (ties q x.0 (is_equal (cmp q x.0) (same_is q x.0 ∙ e)))) (none_above x.0 ps s.0)
      gone false e = refl

      apart : is_eq (cmp p x.0) ≡ false → same q x.0 ≡ true → same q p ≡ true → ⊥
      apart e here there = true≢false (sym (same_is p x.0 ∙ subst (λ k. same k x.0 ≡ true) (ties q p (is_equal (cmp q p) (same_is q p ∙ there))) here) ∙ e)

      by : (b : Bool) → is_eq (cmp p x.0) ≡ b → list_any (λ k. same q k.0) (remove_entry (is_at (cmp p)) ps) ≡ (not (same q p) && list_any (λ k. same q k.0) ps)
          → list_any (λ k. same q k.0) (cond b ps (x ∷ remove_entry (is_at (cmp p)) ps)) ≡ (not (same q p) && (same q x.0 || list_any (λ k. same q k.0) ps))
      by true e ih =
          subst (λ k. list_any (λ k. same q k.0) ps ≡ (not (same q k) && (same q x.0 || list_any (λ k. same q k.0) ps))) (sym (ties p x.0 (is_equal (cmp p x.0) e)))
          (gone (same q x.0) refl)
      by false e ih = ap (λ b. same q x.0 || b) ih ∙ left_out (same q x.0) (same q p) (list_any (λ k. same q k.0) ps) (apart e)

pub has_put : (q p : Key) (v : Unit {0}) (keys : List (Key × Unit {0})) → has_key q (insert_entry key_cmp keys p v) ≡ (same_key q p || has_key q keys)
has_put q p = put_one key_total key_ties same_key key_same q p

pub has_cut : (q p : Key) (keys : List (Key × Unit {0})) → IsOrdered key_cmp keys → has_key q (remove_entry (is_at (key_cmp p)) keys) ≡ (not (same_key q p) && has_key q keys)
has_cut q p = cut_one key_total key_ties same_key key_same q p

-- ---- the run of one subject

-- the subject of a greater key is no smaller
subject_above : (a b : Key) → key_cmp a b ≡ Less → subject_cmp b.subject a.subject ≡ Less → ⊥
subject_above a b e h = by (subject_cmp a.subject b.subject) refl e
  where
    by : (r : Ordering) → subject_cmp a.subject b.subject ≡ r → ordering_then r (nat_cmp a.number b.number) ≡ Less → ⊥
    by Less c e = let turned : Greater ≡ Less = sym (subject_total.antisymm b.subject a.subject ∙ ap ordering_reverse c) ∙ h in cc
    by Equal c e = let turned : Equal ≡ Less = sym (subject_total.antisymm b.subject a.subject ∙ ap ordering_reverse c) ∙ h in cc
    by Greater c e = cc

-- where the keys of a subject begin
abbrev pub first_of : Subject → Key
first_of s = record { subject = s; number = 0 }

before_is : (x : Key) (s : Subject) → is_lt (key_cmp x (first_of s)) ≡ is_lt (subject_cmp x.subject s)
before_is x s = by (subject_cmp x.subject s)
  where
    by : (r : Ordering) → is_lt (ordering_then r (nat_cmp x.number 0)) ≡ is_lt r
    by Less = refl
    by Equal = grind (arith, nat_tests)
    by Greater = refl

module _ {V : Type 0} (s : Subject) where
  -- of the subject
  abbrev pub is_under : Key × V → Bool
  is_under k = same_subject s k.0.subject

  under_is : (k : Key × V) (r : Ordering) → subject_cmp k.0.subject s ≡ r → is_under k ≡ is_eq (ordering_reverse r)
  under_is k r c = sym (subject_same s k.0.subject) ∙ ap is_eq (subject_total.antisymm s k.0.subject ∙ ap ordering_reverse c)

  none_later : (x : Key) (ps : List (Key × V)) → subject_cmp s x.subject ≡ Less → IsAbove key_cmp x ps → filter is_under ps ≡ []
  none_later x [] h a = refl
  none_later x (p ∷ ps) h a = by (is_under p) refl (none_later x ps h a.1)
    where
      by : (t : Bool) → is_under p ≡ t → filter is_under ps ≡ [] → cond t (p ∷ filter is_under ps) (filter is_under ps) ≡ []
      by true t ih = absurd (subject_above x p.0 a.0 (subst (λ f. subject_cmp f x.subject ≡ Less) (subject_is s p.0.subject t) h))
      by false t ih = ih

  -- from the first key of a subject on, its pairs stand before all others
  pub run_is : (ps : List (Key × V)) → IsOrdered key_cmp ps → take_while is_under (from_on key_cmp (Included (first_of s)) ps) ≡ filter is_under ps
  unfolding IsStrictlySortedBy
  run_is [] h = refl
  run_is (p ∷ ps) h = by (subject_cmp p.0.subject s) refl (run_is ps h.1)
    where
      begun : (r : Ordering) → subject_cmp p.0.subject s ≡ r
          → from_on key_cmp (Included (first_of s)) (p ∷ ps) ≡ cond (not (is_lt r)) (p ∷ from_on key_cmp (Included (first_of s)) ps) (from_on key_cmp (Included (first_of s)) ps)
      begun r c = ap (λ b. cond (not b) (p ∷ from_on key_cmp (Included (first_of s)) ps) (from_on key_cmp (Included (first_of s)) ps)) (before_is p.0 s ∙ ap is_lt c)

      taken : (t : Bool) → is_under p ≡ t → take_while is_under (p ∷ from_on key_cmp (Included (first_of s)) ps) ≡ cond t (p ∷ take_while is_under (from_on key_cmp (Included (first_of s)) ps)) []
      taken t e = take_while-cons is_under p (from_on key_cmp (Included (first_of s)) ps) ∙ ap (λ b. cond b (p ∷ take_while is_under (from_on key_cmp (Included (first_of s)) ps)) []) e

      kept : (t : Bool) → is_under p ≡ t → filter is_under (p ∷ ps) ≡ cond t (p ∷ filter is_under ps) (filter is_under ps)
      kept t e = ap (λ b. cond b (p ∷ filter is_under ps) (filter is_under ps)) e

      by : (r : Ordering) → subject_cmp p.0.subject s ≡ r → take_while is_under (from_on key_cmp (Included (first_of s)) ps) ≡ filter is_under ps
          → take_while is_under (from_on key_cmp (Included (first_of s)) (p ∷ ps)) ≡ filter is_under (p ∷ ps)
      by Less c ih = ap (take_while is_under) (begun Less c) ∙ ih ∙ sym (kept false (under_is p Less c))
      by Equal c ih = ap (take_while is_under) (begun Equal c) ∙ taken true (under_is p Equal c) ∙ ap (λ l. p ∷ l) ih ∙ sym (kept true (under_is p Equal c))
      by Greater c ih =
          let over : subject_cmp s p.0.subject ≡ Less = subject_total.antisymm s p.0.subject ∙ ap ordering_reverse c in
          ap (take_while is_under) (begun Greater c) ∙ taken false (under_is p Greater c)
          ∙ sym (kept false (under_is p Greater c) ∙ none_later p.0 ps over h.0)

-- of two keys of one subject, the greater has the greater number
pub number_above : (a b : Key) → key_cmp a b ≡ Less → a.subject ≡ b.subject → nat_cmp a.number b.number ≡ Less
number_above a b e one =
    let tied : subject_cmp a.subject b.subject ≡ Equal = subst (λ s. subject_cmp a.subject s ≡ Equal) one (tied_itself subject_total a.subject) in
    sym (ap (λ r. ordering_then r (nat_cmp a.number b.number)) tied) ∙ e
