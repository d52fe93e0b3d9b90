-- The place of a version among the pairs of a past, and the past with one more pair.
use Rattle.std.proofs.Common.{◌≡◌, ◌≢◌, ℕ, zero, suc, ◌≤◌, ◌<◌, ◌-◌, Bool, true, false, cond, List, [], ◌∷◌, ◌++◌, map, length, take, drop, get_or, refl, sym, ap, ◌∙◌, subst, ⊎_elim, arith, ◌==◌}
use Rattle.std.specs.Prelude.{All, AllPairs, filter, insert, remove, nat_le, nat_lt}
use Rattle.std.specs.Prelude.{Result, Ok, Err, IsOk, is_ok, if◌then◌else◌}
use Rattle.std.specs.Arc.{arc_value}
use Rattle.std.proofs.lemmas.Bool.{cases_lt}
use Rattle.std.proofs.lemmas.Bool.Decides.{nat_tests}
use Rattle.std.proofs.lemmas.List.{take-map, drop-map, map-append, length-map}
use Rattle.std.proofs.Math.ListN.{get_or-map}
use Rattle.std.proofs.lemmas.List.Edits.{length-insert, length-remove}
use Rattle.std.proofs.lemmas.List.Elements.{All-from_get_or, All-append, All-cons, All-take, All-drop, Contains-get_or}
use Rattle.std.proofs.lemmas.List.Quantifiers.{all_pairs_remove}
use Rattle.std.proofs.lemmas.List.Kept.{AllPairs-cons}
use Rattle.std.proofs.lemmas.List.Folds.{list_any_at, list_any_none}
use native.Mathlib.Decide.{ℕ_discrete}
use mathlib.Core.Logic.{dite}
use Rattle.un_publish.specs.declared.session.View.{View}
use Rattle.un_asof.specs.Pasts.{IsPast, IsNearest, IsCount, pair_of, with_room, put, has_version, keeping}

-- what holds of each view's pair holds of each pair
pub at_map : {A B : Type 0} (f : A → B) (P : B → Type 0) (xs : List A) (i : ℕ) → i < length xs → ((d : A) → P (f (get_or xs i d))) → (e : B) → P (get_or (map f xs) i e)
at_map f P [] i lt h e = absurd (omega arith)
at_map f P (x ∷ xs) zero lt h e = h x
at_map f P (x ∷ xs) (suc i) lt h e = at_map f P xs i (omega arith) h e

module _ {A : Type 0} (test : A → Bool) where
  -- a test that the first n elements pass, and no other
  pub front_passes : (xs : List A) (n : ℕ) → ((k : ℕ) (d : A) → k < n → k < length xs → test (get_or xs k d) ≡ true) → ((k : ℕ) (d : A) → n ≤ k → k < length xs → test (get_or xs k d) ≡ false)
      → filter test xs ≡ take n xs
  front_passes [] zero pass fail = refl
  front_passes [] (suc n) pass fail = refl
  front_passes (x ∷ xs) zero pass fail =
      let here : test x ≡ false = fail 0 x (omega arith) (omega arith) in
      let rest : filter test xs ≡ [] = front_passes xs zero (λ k d lt in'. absurd (omega arith)) (λ k d le lt. fail (suc k) d (omega arith) (omega arith)) in
      rw here rest
  front_passes (x ∷ xs) (suc n) pass fail =
      let here : test x ≡ true = pass 0 x (omega arith) (omega arith) in
      let rest : filter test xs ≡ take n xs = front_passes xs n (λ k d lt in'. pass (suc k) d (omega arith) (omega arith)) (λ k d le lt. fail (suc k) d (omega arith) (omega arith)) in
      rw here (ap (λ (ys : List A). x ∷ ys) rest)

  -- a test that all but the first n elements pass, and none of these
  pub rest_passes : (xs : List A) (n : ℕ) → ((k : ℕ) (d : A) → k < n → k < length xs → test (get_or xs k d) ≡ false) → ((k : ℕ) (d : A) → n ≤ k → k < length xs → test (get_or xs k d) ≡ true)
      → filter test xs ≡ drop n xs
  rest_passes [] zero fail pass = refl
  rest_passes [] (suc n) fail pass = refl
  rest_passes (x ∷ xs) zero fail pass =
      let here : test x ≡ true = pass 0 x (omega arith) (omega arith) in
      let rest : filter test xs ≡ xs = rest_passes xs zero (λ k d lt in'. absurd (omega arith)) (λ k d le lt. pass (suc k) d (omega arith) (omega arith)) in
      rw here (ap (λ (ys : List A). x ∷ ys) rest)
  rest_passes (x ∷ xs) (suc n) fail pass =
      let here : test x ≡ false = fail 0 x (omega arith) (omega arith) in
      let rest : filter test xs ≡ drop n xs = rest_passes xs n (λ k d lt in'. fail (suc k) d (omega arith) (omega arith)) (λ k d le lt. pass (suc k) d (omega arith) (omega arith)) in
      rw here rest

-- an element that stands in the relation with those before it and those after it
all_pairs_insert : {A : Type 0} (R : A → A → Type 0) (xs : List A) (n : ℕ) (y : A) → n ≤ length xs → AllPairs R xs
    → ((k : ℕ) (d : A) → k < n → k < length xs → R (get_or xs k d) y) → ((k : ℕ) (d : A) → n ≤ k → k < length xs → R y (get_or xs k d)) → AllPairs R (insert xs n y)
all_pairs_insert R xs zero y within all front rest = AllPairs-cons R y xs (λ k d lt. rest k d (omega arith) lt) all
all_pairs_insert R [] (suc n) y within all front rest = absurd (omega arith)
all_pairs_insert R (x ∷ xs) (suc n) y within all front rest =
    let later : All (R x) xs = λ k d lt. all 0 (suc k) d (omega arith) (omega arith) in
    AllPairs-cons R x (insert xs n y)
    (All-append (R x) (take n xs) (y ∷ drop n xs) (All-take (R x) n xs later) (All-cons (R x) y (drop n xs) (front 0 x (omega arith) (omega arith)) (All-drop (R x) n xs later)))
    (all_pairs_insert R xs n y (omega arith) (λ i j d lt le. all (suc i) (suc j) d (omega arith) (omega arith)) (λ k d lt in'. front (suc k) d (omega arith) (omega arith)) (λ k d le lt. rest (suc k) d (omega arith) (omega arith)))

-- room for one more
room_at : {A : Type 0} (xs : List A) (b : Bool) → length xs == 16 ≡ b → length xs ≤ 16 → length (cond b (remove xs 1) xs) < 16
room_at xs true h le =
    let full : length xs ≡ 16 = grind (arith, nat_tests) in
    let l = length-remove xs 1 (omega arith) in omega arith
room_at xs false h le = grind (arith, nat_tests)

pub with_room_below : {A : Type 0} (xs : List A) → length xs ≤ 16 → length (with_room xs) < 16
with_room_below xs le = room_at xs (length xs == 16) refl le

room_map_at : {A B : Type 0} (f : A → B) (xs : List A) (b : Bool) → map f (cond b (remove xs 1) xs) ≡ cond b (remove (map f xs) 1) (map f xs)
room_map_at f xs true = map-append f (take 1 xs) (drop 2 xs) ∙ (ap (λ ys. ys ++ map f (drop 2 xs)) (sym (take-map f 1 xs)) ∙ ap (λ ys. take 1 (map f xs) ++ ys) (sym (drop-map f 2 xs)))
room_map_at f xs false = refl

pub with_room_map : {A B : Type 0} (f : A → B) (xs : List A) → map f (with_room xs) ≡ with_room (map f xs)
with_room_map f xs = room_map_at f xs (length xs == 16) ∙ ap (λ n. cond (n == 16) (remove (map f xs) 1) (map f xs)) (sym (length-map xs f))

pub insert_map : {A B : Type 0} (f : A → B) (xs : List A) (n : ℕ) (x : A) → map f (insert xs n x) ≡ insert (map f xs) n (f x)
insert_map f xs n x = map-append f (take n xs) (x ∷ drop n xs) ∙ (ap (λ ys. ys ++ f x ∷ map f (drop n xs)) (sym (take-map f n xs)) ∙ ap (λ ys. take n (map f xs) ++ f x ∷ ys) (sym (drop-map f n xs)))

module _ {M : Type 0} where
  -- the pairs after those that are counted have greater versions
  pub rest_over : (past : List (ℕ × M)) (v n : ℕ) → AllPairs (λ p q. p.0 < q.0) past → IsCount past v n → (k : ℕ) (d : ℕ × M) → n ≤ k → k < length past → v < (get_or past k d).0
  rest_over past v n rising c k d le lt =
      let o : v < (get_or past n d).0 = c.over d (omega arith) in
      dite (ℕ_discrete n k)
      (λ (same : n ≡ k). subst (λ (j : ℕ). v < (get_or past j d).0) same o)
      (λ (apart : n ≢ k). let r : (get_or past n d).0 < (get_or past k d).0 = rising n k d (omega arith) lt in omega arith)

  -- the opening state is always counted
  pub counted_some : (past : List (ℕ × M)) (v n : ℕ) → IsPast past → IsCount past v n → 0 < n
  counted_some [] v n i c = let s = i.some in absurd (omega arith)
  counted_some (p ∷ ps) v zero i c =
      let o : v < p.0 = c.over p (omega arith) in
      let f : p.0 ≡ 0 = i.first p in absurd (omega arith)
  counted_some (p ∷ ps) v (suc n) i c = omega arith

  -- the last pair that is counted is the nearest one
  pub nearest_counted : (past : List (ℕ × M)) (v n : ℕ) (d : ℕ × M) → IsPast past → IsCount past v n → IsNearest past v (get_or past (n - 1) d)
  nearest_counted past v n d i c =
      let some = counted_some past v n i c in
      let within = c.within in record {
        kept = Contains-get_or past (n - 1) d (omega arith);
        below = c.below (n - 1) d (omega arith);
        greatest = All-from_get_or (λ q. q.0 ≤ v → q.0 ≤ (get_or past (n - 1) d).0) past d (λ k lt le.
            dite (ℕ_discrete k (n - 1))
            (λ (same : k ≡ n - 1). subst (λ (j : ℕ). (get_or past k d).0 ≤ (get_or past j d).0) same (omega arith))
            (λ (apart : k ≢ n - 1).
            ⊎_elim
            (λ (h : k < n). let r : (get_or past k d).0 < (get_or past (n - 1) d).0 = i.rising k (n - 1) d (omega arith) (omega arith) in omega arith)
            (λ (h : n ≤ k). let r = rest_over past v n i.rising c k d h lt in absurd (omega arith))
            (cases_lt k n)));
      }

  -- no state of this version is kept
  abbrev pub IsAbsent : ℕ → List (ℕ × M) → Type 0
  IsAbsent v past = All (λ q. q.0 ≢ v) past

  pub absent : (past : List (ℕ × M)) (v : ℕ) (p : ℕ × M) → IsNearest past v p → p.0 ≢ v → IsAbsent v past
  absent past v p near apart k d lt = λ same.
      let g = near.greatest k d lt in
      let b = near.below in
      apart (let s : (get_or past k d).0 ≤ p.0 = g (omega arith) in omega arith)

  is_kept : (past : List (ℕ × M)) (v : ℕ) (p : ℕ × M) → IsNearest past v p → p.0 ≡ v → has_version v past ≡ true
  is_kept past v p near same =
      let k = near.kept in
      let at : (get_or past k.0 p).0 ≡ v = ap (λ (q : ℕ × M). q.0) k.2 ∙ same in
      list_any_at (λ (q : ℕ × M). q.0 == v) past k.0 p k.1 (grind (arith, nat_tests))

  not_kept : (past : List (ℕ × M)) (v : ℕ) → IsAbsent v past → has_version v past ≡ false
  not_kept past v away = list_any_none (λ (q : ℕ × M). q.0 == v) past (λ k d lt. let a = away k d lt in grind (arith, nat_tests))

  -- a pair whose version is kept changes nothing
  pub keeping_again : (past : List (ℕ × M)) (v : ℕ) (s : M) (p : ℕ × M) → IsNearest past v p → p.0 ≡ v → keeping (v, s) past ≡ past
  keeping_again past v s p near same = ap (λ b. cond b past (put (v, s) (with_room past))) (is_kept past v p near same)

  room_past_at : (past : List (ℕ × M)) (b : Bool) → (b ≡ true → length past ≡ 16) → IsPast past → IsPast (cond b (remove past 1) past)
  room_past_at past false full i = i
  room_past_at [] true full i = absurd (let s = i.some in omega arith)
  room_past_at (p ∷ []) true full i = absurd (let l = full refl in omega arith)
  room_past_at (p ∷ q ∷ ps) true full i = record {
    most = let m = i.most in omega arith;
    some = omega arith;
    first = i.first;
    rising = all_pairs_remove (λ (p : ℕ × M) q. p.0 < q.0) (p ∷ q ∷ ps) 1 (omega arith) i.rising;
  }

  pub room_past : (past : List (ℕ × M)) → IsPast past → IsPast (with_room past)
  room_past past i = room_past_at past (length past == 16) (λ e. grind (arith, nat_tests)) i

  room_absent_at : (v : ℕ) (past : List (ℕ × M)) (b : Bool) → IsAbsent v past → IsAbsent v (cond b (remove past 1) past)
  room_absent_at v past true away = let P = λ (q : ℕ × M). q.0 ≢ v in All-append P (take 1 past) (drop 2 past) (All-take P 1 past away) (All-drop P 2 past away)
  room_absent_at v past false away = away

  pub room_absent : (v : ℕ) (past : List (ℕ × M)) → IsAbsent v past → IsAbsent v (with_room past)
  room_absent v past away = room_absent_at v past (length past == 16) away

  -- a new pair is put where the count of its version ends
  pub put_counted : (past : List (ℕ × M)) (v n : ℕ) (s : M) → AllPairs (λ p q. p.0 < q.0) past → IsCount past v n → put (v, s) past ≡ insert past n (v, s)
  put_counted past v n s rising c =
      let front : filter (λ (q : ℕ × M). nat_le q.0 v) past ≡ take n past
      = front_passes (λ (q : ℕ × M). nat_le q.0 v) past n (λ k d lt in'. let b = c.below k d lt in grind (arith, nat_tests)) (λ k d le lt. let o = rest_over past v n rising c k d le lt in grind (arith, nat_tests)) in
      let rest : filter (λ (q : ℕ × M). nat_lt v q.0) past ≡ drop n past
      = rest_passes (λ (q : ℕ × M). nat_lt v q.0) past n (λ k d lt in'. let b = c.below k d lt in grind (arith, nat_tests)) (λ k d le lt. let o = rest_over past v n rising c k d le lt in grind (arith, nat_tests)) in
      ap (λ ys. ys ++ (v, s) ∷ filter (λ (q : ℕ × M). nat_lt v q.0) past) front ∙ ap (λ ys. take n past ++ (v, s) ∷ ys) rest

  pub keeping_new : (past : List (ℕ × M)) (v n : ℕ) (s : M) → IsPast past → IsAbsent v past → IsCount (with_room past) v n → keeping (v, s) past ≡ insert (with_room past) n (v, s)
  keeping_new past v n s i away c =
      ap (λ b. cond b past (put (v, s) (with_room past))) (not_kept past v away) ∙ put_counted (with_room past) v n s (let r = room_past past i in r.rising) c

  -- the versions rise with the new pair, too
  inserted_rising : (past : List (ℕ × M)) (v n : ℕ) (s : M) → IsPast past → IsAbsent v past → IsCount past v n → AllPairs (λ p q. p.0 < q.0) (insert past n (v, s))
  inserted_rising past v n s i away c =
      all_pairs_insert (λ p q. p.0 < q.0) past n (v, s) c.within i.rising
      (λ k d lt in'. let x = c.below k d lt in let y = away k d in' in omega arith)
      (λ k d le lt. rest_over past v n i.rising c k d le lt)

  first_inserted : (past : List (ℕ × M)) (v n : ℕ) (s : M) → 0 < n → IsPast past → (d : ℕ × M) → (get_or (insert past n (v, s)) 0 d).0 ≡ 0
  first_inserted [] v n s some i d = absurd (let l = i.some in omega arith)
  first_inserted (p ∷ ps) v zero s some i d = absurd (omega arith)
  first_inserted (p ∷ ps) v (suc n) s some i d = i.first d

  pub inserted_past : (past : List (ℕ × M)) (v n : ℕ) (s : M) → IsPast past → IsAbsent v past → IsCount past v n → length past < 16 → IsPast (insert past n (v, s))
  inserted_past past v n s i away c room =
      let within = c.within in
      let l = length-insert past n (v, s) within in record {
        most = omega arith;
        some = omega arith;
        first = first_inserted past v n s (counted_some past v n i c) i;
        rising = inserted_rising past v n s i away c;
      }

  -- the count of a list of views
  pub counted : (views : List (View M)) (v n : ℕ) → n ≤ length views → ((k : ℕ) (d : View M) → k < n → (get_or views k d).version ≤ v) → ((d : View M) → n < length views → v < (get_or views n d).version)
      → IsCount (map pair_of views) v n
  counted views v n within below over =
      let same = length-map views (pair_of {M = M}) in record {
        within = omega arith;
        below = λ k d lt. at_map pair_of (λ (q : ℕ × M). q.0 ≤ v) views k (omega arith) (λ w. below k w lt) d;
        over = λ d lt. let lt' : n < length views = omega arith in at_map pair_of (λ (q : ℕ × M). v < q.0) views n lt' (λ w. over w lt') d;
      }

  -- the nearest pair, as the view at that place
  pub nearest_view : (views : List (View M)) (v n : ℕ) (w : View M) → IsPast (map pair_of views) → IsCount (map pair_of views) v n → w ≡ get_or views (n - 1) w → IsNearest (map pair_of views) v (pair_of w)
  nearest_view views v n w i c is =
      let same : get_or (map pair_of views) (n - 1) (pair_of w) ≡ pair_of w = get_or-map pair_of views (n - 1) w ∙ ap pair_of (sym is) in
      subst (λ (p : ℕ × M). IsNearest (map pair_of views) v p) same (nearest_counted (map pair_of views) v n (pair_of w) i c)

  -- so many views are counted that there is one before the end of the count
  pub counted_views : (views : List (View M)) (v n : ℕ) → IsPast (map pair_of views) → IsCount (map pair_of views) v n → (0 < n) × (n ≤ length views)
  counted_views views v n i c = (counted_some (map pair_of views) v n i c, let w = c.within in omega (arith, length-map views (pair_of {M = M})))

  -- the views with one more, whose version was not among them
  pub kept_new : (items views now : List (View M)) (n : ℕ) (w : View M) (p : ℕ × M) → IsPast (map pair_of items) → IsNearest (map pair_of items) w.version p → p.0 ≢ w.version
      → views ≡ with_room items → IsCount (map pair_of views) w.version n → now ≡ insert views n w → IsPast (map pair_of now) × (map pair_of now ≡ keeping (pair_of w) (map pair_of items))
  kept_new items views now n w p i near apart room c inserted =
      let past : List (ℕ × M) = map pair_of items in
      let away = absent past w.version p near apart in
      let roomy : map pair_of views ≡ with_room past = ap (λ (l : List (View M)). map pair_of l) room ∙ with_room_map pair_of items in
      let count : IsCount (with_room past) w.version n = subst (λ (l : List (ℕ × M)). IsCount l w.version n) roomy c in
      let is : map pair_of now ≡ insert (with_room past) n (pair_of w)
      = ap (λ (l : List (View M)). map pair_of l) inserted ∙ (insert_map pair_of views n w ∙ ap (λ (l : List (ℕ × M)). insert l n (pair_of w)) roomy) in (
        subst IsPast (sym is) (inserted_past (with_room past) w.version n (arc_value w.state) (room_past past i) (room_absent w.version past away) count (with_room_below past i.most)),
        is ∙ sym (keeping_new past w.version n (arc_value w.state) i away count),
      )

pub inserted_items : {A E X : Type 0} (r : Result A E) (xs ys zs : List X) → IsOk r → zs ≡ (if is_ok r then xs else ys) → zs ≡ xs
inserted_items (Ok a) xs ys zs ok e = e
inserted_items (Err x) xs ys zs ok e = absurd (cc ok)
