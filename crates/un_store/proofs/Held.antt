-- What a look-up finds and what an edit leaves, of pairs in which each row stands under its id.
use Rattle.std.proofs.Common.{◌≡◌, eqb-true, ◌||◌, ℕ, zero, suc, ◌<◌, Bool, true, false, not, ◌==◌, List, [], ◌∷◌, ◌++◌, map, Some, None, All, cond, if◌then◌else◌, refl, sym, ◌∙◌, ap, subst, arith}
use Rattle.std.proofs.lemmas.Bool.Decides.{nat_tests}
use Rattle.std.proofs.lemmas.Cmp.{ranked, nat_cmp_total}
use Rattle.std.specs.declared.cmp.Ordering.{Ordering}
use Rattle.std.specs.declared.cmp.Ordering.TheVariants.{Less, Equal, Greater}
use Rattle.std.specs.Ordering.{nat_cmp, is_eq, match_ordering}
use Rattle.std.specs.List.{filter, list_any}
use Rattle.std.specs.List.Sorted.{IsStrictlySortedBy}
use Rattle.std.specs.Map.{keys_of, values_of, lookup, remove_entry}
use Rattle.std.specs.BTreeMap.{is_at, insert_entry}
use Rattle.un_pages.specs.Pairs.{IsOrdered, IsAbove}
use Rattle.un_pages.proofs.Ordered.{above_lower, above_first, lookup_all_above, insert_ordered, remove_ordered}
use Rattle.un_defs.specs.declared.row.Row.{Row}
use Rattle.un_store.specs.Keyed.{ids_of, IsKeyed, IsRising, row_with}
use Rattle.un_store.specs.Changes.{with_row}
use Rattle.un_store.specs.Edits.{at_moment, settled}

-- the keys are the ids
abbrev pub SameIds : List (ℕ × Row) → Type 0
SameIds ps = keys_of ps ≡ ids_of (values_of ps)

head_id : (p : ℕ × Row) (ps : List (ℕ × Row)) → SameIds (p ∷ ps) → p.0 ≡ p.1.id
head_id p ps e = cc

tail_ids : (p : ℕ × Row) (ps : List (ℕ × Row)) → SameIds (p ∷ ps) → SameIds ps
tail_ids p ps e = cc

at_is : (a b : ℕ) → is_eq (nat_cmp a b) ≡ (b == a)
at_is a b = grind (arith, nat_tests)

pub keyed_none : IsKeyed []
unfolding IsStrictlySortedBy
keyed_none = record { ordered = tt; ids = refl }

pub rising_keyed : (ps : List (ℕ × Row)) → IsKeyed ps → IsRising (values_of ps)
rising_keyed ps k = subst (IsStrictlySortedBy nat_cmp) k.ids k.ordered

-- ---- a look-up

pub lookup_is : (id : ℕ) (ps : List (ℕ × Row)) → SameIds ps → lookup (is_at (nat_cmp id)) ps ≡ row_with (values_of ps) id
lookup_is id [] e = refl
lookup_is id (p ∷ ps) e =
    let same : is_eq (nat_cmp id p.0) ≡ (p.1.id == id) = at_is id p.0 ∙ ap (λ n. n == id) (head_id p ps e) in
    let rest : lookup (is_at (nat_cmp id)) ps ≡ row_with (values_of ps) id = lookup_is id ps (tail_ids p ps e) in
    ap (λ b. cond b (Some p.1) (lookup (is_at (nat_cmp id)) ps)) same ∙ ap (λ o. cond (p.1.id == id) (Some p.1) o) rest

-- ---- a new row

over : (a b : ℕ) → b < a → nat_cmp a b ≡ Greater
over a b h = grind (arith, nat_tests)

pub insert_over : (key : ℕ) (r : Row) (ps : List (ℕ × Row)) → SameIds ps → All (λ s. s.id < key) (values_of ps)
    → values_of (insert_entry nat_cmp ps key r) ≡ values_of ps ++ r ∷ []
insert_over key r [] e h = refl
insert_over key r (p ∷ ps) e h =
    let first : p.1.id < key = h zero p.1 (omega arith) in
    let below : p.0 < key = omega (arith, head_id p ps e) in
    let rest : values_of (insert_entry nat_cmp ps key r) ≡ values_of ps ++ r ∷ [] = insert_over key r ps (tail_ids p ps e) (λ i d l. h (suc i) d (omega (arith, l))) in
    ap (λ o. values_of (match_ordering o ((key, r) ∷ p ∷ ps) ((p.0, r) ∷ ps) (p ∷ insert_entry nat_cmp ps key r))) (over key p.0 below) ∙ ap (λ l. p.1 ∷ l) rest

same_key : (a b : ℕ) → nat_cmp a b ≡ Equal → a ≡ b
same_key a b e = ranked a b Equal (sym e)

insert_ids : (key : ℕ) (r : Row) (ps : List (ℕ × Row)) → r.id ≡ key → SameIds ps → SameIds (insert_entry nat_cmp ps key r)
insert_ids key r [] same e = ap (λ n. n ∷ []) (sym same)
insert_ids key r (p ∷ ps) same e = by (nat_cmp key p.0) refl (insert_ids key r ps same (tail_ids p ps e))
  where
    by : (o : Ordering) → nat_cmp key p.0 ≡ o → SameIds (insert_entry nat_cmp ps key r) → SameIds (match_ordering o ((key, r) ∷ p ∷ ps) ((p.0, r) ∷ ps) (p ∷ insert_entry nat_cmp ps key r))
    by Less c ih = ap (λ n. n ∷ keys_of (p ∷ ps)) (sym same) ∙ ap (λ l. r.id ∷ l) e
    by Equal c ih = ap (λ n. n ∷ keys_of ps) (sym (same_key key p.0 c) ∙ sym same) ∙ ap (λ l. r.id ∷ l) (tail_ids p ps e)
    by Greater c ih = ap (λ n. n ∷ keys_of (insert_entry nat_cmp ps key r)) (head_id p ps e) ∙ ap (λ l. p.1.id ∷ l) ih

pub insert_keyed : (key : ℕ) (r : Row) (ps qs : List (ℕ × Row)) → r.id ≡ key → qs ≡ insert_entry nat_cmp ps key r → IsKeyed ps → IsKeyed qs
insert_keyed key r ps qs same e k = subst IsKeyed (sym e) (record {
  ordered = insert_ordered nat_cmp_total key ps r k.ordered;
  ids = insert_ids key r ps same k.ids;
})

-- the row at its place by id is the one put under its id
pub insert_is : (r : Row) (ps : List (ℕ × Row)) → SameIds ps → values_of (insert_entry nat_cmp ps r.id r) ≡ with_row (values_of ps) r
insert_is r [] e = refl
insert_is r (p ∷ ps) e = by (nat_cmp r.id p.0) (insert_is r ps (tail_ids p ps e)) ∙ ap (λ n. match_ordering (nat_cmp r.id n) (r ∷ p.1 ∷ values_of ps) (r ∷ values_of ps) (p.1 ∷ with_row (values_of ps) r)) (head_id p ps e)
  where
    by : (o : Ordering) → values_of (insert_entry nat_cmp ps r.id r) ≡ with_row (values_of ps) r
        → values_of (match_ordering o ((r.id, r) ∷ p ∷ ps) ((p.0, r) ∷ ps) (p ∷ insert_entry nat_cmp ps r.id r)) ≡ match_ordering o (r ∷ p.1 ∷ values_of ps) (r ∷ values_of ps) (p.1 ∷ with_row (values_of ps) r)
    by Less ih = refl
    by Equal ih = refl
    by Greater ih = ap (λ l. p.1 ∷ l) ih

-- the rows, each under its id
abbrev keyed : List Row → List (ℕ × Row)
keyed rows = map (λ r. (r.id, r)) rows

values_keyed : (rows : List Row) → values_of (keyed rows) ≡ rows
values_keyed [] = refl
values_keyed (r ∷ rows) = ap (λ l. r ∷ l) (values_keyed rows)

keys_keyed : (rows : List Row) → keys_of (keyed rows) ≡ ids_of rows
keys_keyed [] = refl
keys_keyed (r ∷ rows) = ap (λ l. r.id ∷ l) (keys_keyed rows)

same_keyed : (rows : List Row) → SameIds (keyed rows)
same_keyed rows = keys_keyed rows ∙ ap ids_of (sym (values_keyed rows))

-- a row over all others comes last
pub over_all : (r : Row) (rows : List Row) → All (λ s. s.id < r.id) rows → with_row rows r ≡ rows ++ r ∷ []
over_all r rows above =
    ap (λ l. with_row l r) (sym (values_keyed rows)) ∙ sym (insert_is r (keyed rows) (same_keyed rows))
    ∙ insert_over r.id r (keyed rows) (same_keyed rows) (subst (All (λ s. s.id < r.id)) (sym (values_keyed rows)) above)
    ∙ ap (λ l. l ++ r ∷ []) (values_keyed rows)

-- ---- a row that is changed

-- the row with this id is changed, and no other
abbrev pub touched : ℕ → (Row → Row) → Row → Row
touched id change r = if r.id == id then change r else r

not_same : (a b : ℕ) → nat_cmp a b ≡ Less → (b == a) ≡ false
not_same a b e = grind (arith, nat_tests)

-- rows above an id are not touched
untouched : (id : ℕ) (change : Row → Row) (ps : List (ℕ × Row)) → SameIds ps → IsAbove nat_cmp id ps → map (touched id change) (values_of ps) ≡ values_of ps
untouched id change [] e a = refl
untouched id change (p ∷ ps) e a =
    let other : (p.1.id == id) ≡ false = sym (ap (λ n. n == id) (head_id p ps e)) ∙ not_same id p.0 a.0 in
    let rest : map (touched id change) (values_of ps) ≡ values_of ps = untouched id change ps (tail_ids p ps e) a.1 in
    ap (λ b. (if b then change p.1 else p.1) ∷ map (touched id change) (values_of ps)) other ∙ ap (λ l. p.1 ∷ l) rest

pub insert_changed : (id : ℕ) (change : Row → Row) (old : Row) (ps : List (ℕ × Row)) → IsOrdered nat_cmp ps → SameIds ps
    → lookup (is_at (nat_cmp id)) ps ≡ Some old → values_of (insert_entry nat_cmp ps id (change old)) ≡ map (touched id change) (values_of ps)
unfolding IsStrictlySortedBy
insert_changed id change old [] s e h = cc
insert_changed id change old (p ∷ ps) s e h = by (nat_cmp id p.0) refl h (insert_changed id change old ps s.1 (tail_ids p ps e))
  where
    by : (o : Ordering) → nat_cmp id p.0 ≡ o → cond (is_eq o) (Some p.1) (lookup (is_at (nat_cmp id)) ps) ≡ Some old
        → (lookup (is_at (nat_cmp id)) ps ≡ Some old → values_of (insert_entry nat_cmp ps id (change old)) ≡ map (touched id change) (values_of ps))
        → values_of (match_ordering o ((id, change old) ∷ p ∷ ps) ((p.0, change old) ∷ ps) (p ∷ insert_entry nat_cmp ps id (change old))) ≡ map (touched id change) (values_of (p ∷ ps))
    by Less c g ih =
        let none : lookup (is_at (nat_cmp id)) ps ≡ None = lookup_all_above nat_cmp_total id ps (above_lower nat_cmp_total id p.0 ps c s.0) in
        cc
    by Equal c g ih =
        let key : id ≡ p.0 = same_key id p.0 c in
        let here : (p.1.id == id) ≡ true = let e0 = head_id p ps e in grind (arith, nat_tests) in
        let row : p.1 ≡ old = cc in
        let above : IsAbove nat_cmp id ps = subst (λ n. IsAbove nat_cmp n ps) (sym key) (above_first nat_cmp_total p ps s) in
        let rest : map (touched id change) (values_of ps) ≡ values_of ps = untouched id change ps (tail_ids p ps e) above in
        ap (λ r. change r ∷ values_of ps) (sym row) ∙ ap (λ l. change p.1 ∷ l) (sym rest) ∙ ap (λ b. (if b then change p.1 else p.1) ∷ map (touched id change) (values_of ps)) (sym here)
    by Greater c g ih =
        let other : (p.1.id == id) ≡ false = let e0 = head_id p ps e in let below = ranked id p.0 Greater (sym c) in grind (arith, nat_tests) in
        ap (λ l. p.1 ∷ l) (ih g) ∙ ap (λ b. (if b then change p.1 else p.1) ∷ map (touched id change) (values_of ps)) (sym other)

-- a row in place of the one with its id, of rows that rise
pub put_changed : (id : ℕ) (change : Row → Row) (old row : Row) (rows : List Row) → IsRising rows → row.id ≡ id → row_with rows id ≡ Some old → row ≡ change old
    → with_row rows row ≡ map (touched id change) rows
put_changed id change old row rows rising same found is =
    let ps = keyed rows in
    let at : lookup (is_at (nat_cmp id)) ps ≡ Some old = lookup_is id ps (same_keyed rows) ∙ ap (λ l. row_with l id) (values_keyed rows) ∙ found in
    ap (λ l. with_row l row) (sym (values_keyed rows)) ∙ sym (insert_is row ps (same_keyed rows))
    ∙ ap (λ n. values_of (insert_entry nat_cmp ps n row)) same ∙ ap (λ r. values_of (insert_entry nat_cmp ps id r)) is
    ∙ insert_changed id change old ps (subst (IsStrictlySortedBy nat_cmp) (sym (keys_keyed rows)) rising) (same_keyed rows) at
    ∙ ap (map (touched id change)) (values_keyed rows)

itself : (n : ℕ) → (n == n) ≡ true
itself n = grind (arith, nat_tests)

-- a row that was put is found
pub put_found : (row : Row) (rows : List Row) → Some row ≡ row_with (with_row rows row) row.id
put_found row [] = sym (ap (λ b. cond b (Some row) None) (itself row.id))
put_found row (s ∷ rows) = by (nat_cmp row.id s.id) refl (put_found row rows)
  where
    first : (l : List Row) → Some row ≡ row_with (row ∷ l) row.id
    first l = sym (ap (λ b. cond b (Some row) (row_with l row.id)) (itself row.id))

    by : (o : Ordering) → nat_cmp row.id s.id ≡ o → Some row ≡ row_with (with_row rows row) row.id
        → Some row ≡ row_with (match_ordering o (row ∷ s ∷ rows) (row ∷ rows) (s ∷ with_row rows row)) row.id
    by Less c ih = first (s ∷ rows)
    by Equal c ih = first rows
    by Greater c ih =
        let other : (s.id == row.id) ≡ false = let below = ranked row.id s.id Greater (sym c) in grind (arith, nat_tests) in
        ih ∙ sym (ap (λ b. cond b (Some s) (row_with (with_row rows row) row.id)) other)

-- a row that was taken out is not
pub gone_not_found : (id : ℕ) (rows : List Row) → None ≡ row_with (filter (λ r. not (r.id == id)) rows) id
gone_not_found id [] = refl
gone_not_found id (r ∷ rows) = by (r.id == id) refl (gone_not_found id rows)
  where
    by : (b : Bool) → (r.id == id) ≡ b → None ≡ row_with (filter (λ r. not (r.id == id)) rows) id
        → None ≡ row_with (cond (not b) (r ∷ filter (λ r. not (r.id == id)) rows) (filter (λ r. not (r.id == id)) rows)) id
    by true c ih = ih
    by false c ih = ih ∙ sym (ap (λ b. cond b (Some r) (row_with (filter (λ r. not (r.id == id)) rows) id)) c)

-- ---- a row that goes

-- rows above an id stay
kept : (id : ℕ) (ps : List (ℕ × Row)) → SameIds ps → IsAbove nat_cmp id ps → filter (λ r. not (r.id == id)) (values_of ps) ≡ values_of ps
kept id [] e a = refl
kept id (p ∷ ps) e a =
    let other : (p.1.id == id) ≡ false = sym (ap (λ n. n == id) (head_id p ps e)) ∙ not_same id p.0 a.0 in
    let rest : filter (λ r. not (r.id == id)) (values_of ps) ≡ values_of ps = kept id ps (tail_ids p ps e) a.1 in
    ap (λ b. cond (not b) (p.1 ∷ filter (λ r. not (r.id == id)) (values_of ps)) (filter (λ r. not (r.id == id)) (values_of ps))) other ∙ ap (λ l. p.1 ∷ l) rest

pub remove_is : (id : ℕ) (ps : List (ℕ × Row)) → IsOrdered nat_cmp ps → SameIds ps
    → values_of (remove_entry (is_at (nat_cmp id)) ps) ≡ filter (λ r. not (r.id == id)) (values_of ps)
unfolding IsStrictlySortedBy
remove_is id [] s e = refl
remove_is id (p ∷ ps) s e = by (is_eq (nat_cmp id p.0)) refl (remove_is id ps s.1 (tail_ids p ps e))
  where
    same : is_eq (nat_cmp id p.0) ≡ (p.1.id == id)
    same = at_is id p.0 ∙ ap (λ n. n == id) (head_id p ps e)

    by : (b : Bool) → is_eq (nat_cmp id p.0) ≡ b → values_of (remove_entry (is_at (nat_cmp id)) ps) ≡ filter (λ r. not (r.id == id)) (values_of ps)
        → values_of (cond b ps (p ∷ remove_entry (is_at (nat_cmp id)) ps)) ≡ filter (λ r. not (r.id == id)) (values_of (p ∷ ps))
    by true c ih =
        let here : (p.1.id == id) ≡ true = sym same ∙ c in
        let key : id ≡ p.0 = let e0 = head_id p ps e in grind (arith, nat_tests) in
        let above : IsAbove nat_cmp id ps = subst (λ n. IsAbove nat_cmp n ps) (sym key) (above_first nat_cmp_total p ps s) in
        sym (kept id ps (tail_ids p ps e) above) ∙ ap (λ b. cond (not b) (p.1 ∷ filter (λ r. not (r.id == id)) (values_of ps)) (filter (λ r. not (r.id == id)) (values_of ps))) (sym here)
    by false c ih =
        let other : (p.1.id == id) ≡ false = sym same ∙ c in
        ap (λ l. p.1 ∷ l) ih ∙ ap (λ b. cond (not b) (p.1 ∷ filter (λ r. not (r.id == id)) (values_of ps)) (filter (λ r. not (r.id == id)) (values_of ps))) (sym other)

remove_ids : (id : ℕ) (ps : List (ℕ × Row)) → SameIds ps → SameIds (remove_entry (is_at (nat_cmp id)) ps)
remove_ids id [] e = refl
remove_ids id (p ∷ ps) e = elim (is_eq (nat_cmp id p.0)) as (λ b. SameIds (cond b ps (p ∷ remove_entry (is_at (nat_cmp id)) ps))) [
  | true ↦ tail_ids p ps e
  | false ↦ ap (λ n. n ∷ keys_of (remove_entry (is_at (nat_cmp id)) ps)) (head_id p ps e) ∙ ap (λ l. p.1.id ∷ l) (remove_ids id ps (tail_ids p ps e))
]

pub remove_keyed : (id : ℕ) (ps qs : List (ℕ × Row)) → qs ≡ remove_entry (is_at (nat_cmp id)) ps → IsKeyed ps → IsKeyed qs
remove_keyed id ps qs e k = subst IsKeyed (sym e) (record {
  ordered = remove_ordered nat_cmp_total id ps k.ordered;
  ids = remove_ids id ps k.ids;
})

-- ---- the row that is found

pub found_id : (rows : List Row) (id : ℕ) (r : Row) → row_with rows id ≡ Some r → r.id ≡ id
found_id [] id r e = cc
found_id (s ∷ rows) id r e = by (s.id == id) refl e (found_id rows id r)
  where
    by : (b : Bool) → (s.id == id) ≡ b → cond b (Some s) (row_with rows id) ≡ Some r → (row_with rows id ≡ Some r → r.id ≡ id) → r.id ≡ id
    by true t h ih = let same : s ≡ r = cc in subst (λ x. x.id ≡ id) same (eqb-true s.id id t)
    by false t h ih = ih h

pub all_found : (P : Row → Type 0) (rows : List Row) (id : ℕ) (r : Row) → All P rows → row_with rows id ≡ Some r → P r
all_found P [] id r all e = cc
all_found P (s ∷ rows) id r all e = by (s.id == id) e (all_found P rows id r (λ k d l. all (suc k) d (omega (arith, l))))
  where
    by : (b : Bool) → cond b (Some s) (row_with rows id) ≡ Some r → (row_with rows id ≡ Some r → P r) → P r
    by true h ih = let same : s ≡ r = cc in subst P same (all zero s (omega arith))
    by false h ih = ih h

-- where no row has the id, none is touched
pub none_touched : (id : ℕ) (change : Row → Row) (rows : List Row) → row_with rows id ≡ None → map (touched id change) rows ≡ rows
none_touched id change [] e = refl
none_touched id change (s ∷ rows) e = by (s.id == id) e (none_touched id change rows)
  where
    by : (b : Bool) → cond b (Some s) (row_with rows id) ≡ None → (row_with rows id ≡ None → map (touched id change) rows ≡ rows) → (if b then change s else s) ∷ map (touched id change) rows ≡ s ∷ rows
    by true h ih = cc
    by false h ih = ap (λ l. s ∷ l) (ih h)

-- ---- the moment of several rows

any_more : (id : ℕ) (ids : List ℕ) (n : ℕ) → list_any (λ i. i == n) (ids ++ id ∷ []) ≡ (list_any (λ i. i == n) ids || (id == n))
any_more id [] n = elim (id == n) as (λ b. (b || false) ≡ b) [ true ↦ refl | false ↦ refl ]
any_more id (i ∷ ids) n = by (i == n) (any_more id ids n)
  where
    by : (b : Bool) → list_any (λ i. i == n) (ids ++ id ∷ []) ≡ (list_any (λ i. i == n) ids || (id == n)) → (b || list_any (λ i. i == n) (ids ++ id ∷ [])) ≡ ((b || list_any (λ i. i == n) ids) || (id == n))
    by true h = refl
    by false h = h

settled_row : (id moment : ℕ) (ids : List ℕ) (r : Row) → touched id (at_moment moment) (if list_any (λ i. i == r.id) ids then at_moment moment r else r)
    ≡ (if list_any (λ i. i == r.id) (ids ++ id ∷ []) then at_moment moment r else r)
settled_row id moment ids r = by (list_any (λ i. i == r.id) ids) (r.id == id) (id == r.id) refl refl refl
  where
    by : (a b c : Bool) → list_any (λ i. i == r.id) ids ≡ a → (r.id == id) ≡ b → (id == r.id) ≡ c
        → touched id (at_moment moment) (if list_any (λ i. i == r.id) ids then at_moment moment r else r) ≡ (if list_any (λ i. i == r.id) (ids ++ id ∷ []) then at_moment moment r else r)
    by true true c e f g = rw (any_more id ids r.id, e, f) refl
    by true false c e f g = rw (any_more id ids r.id, e, f) refl
    by false true true e f g = rw (any_more id ids r.id, e, f, g) refl
    by false false false e f g = rw (any_more id ids r.id, e, f, g) refl
    by false true false e f g = absurd (grind (arith, nat_tests, f, g))
    by false false true e f g = absurd (grind (arith, nat_tests, f, g))

pub settled_more : (id moment : ℕ) (ids : List ℕ) (rows : List Row) → map (touched id (at_moment moment)) (settled ids moment rows) ≡ settled (ids ++ id ∷ []) moment rows
settled_more id moment ids [] = refl
settled_more id moment ids (r ∷ rows) =
    ap (λ x. x ∷ map (touched id (at_moment moment)) (settled ids moment rows)) (settled_row id moment ids r)
    ∙ ap (λ l. (if list_any (λ i. i == r.id) (ids ++ id ∷ []) then at_moment moment r else r) ∷ l) (settled_more id moment ids rows)

pub settled_none : (moment : ℕ) (rows : List Row) → settled [] moment rows ≡ rows
settled_none moment [] = refl
settled_none moment (r ∷ rows) = ap (λ l. r ∷ l) (settled_none moment rows)
