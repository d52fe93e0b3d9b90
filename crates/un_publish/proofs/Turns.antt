-- Each kind of step keeps the rule of a board.
use Rattle.std.proofs.Common.{◌≡◌, ◌≢◌, ℕ, List, [], ◌∷◌, ◌++◌, set, fold, refl, sym, subst, ⊎_elim}
use mathlib.Core.Option.{some}
use mathlib.Core.List.{IsPrefix}
use lib.ListN.{get_elem?}
use Rattle.left_right.specs.Register.{Admits, TurnsAt, Forks, Merges}
use Rattle.atomic_table.proofs.Lists.{at_set, at_snoc, set_again}
use Rattle.un_machine.specs.declared.Entry.{Entry}
use Rattle.un_publish.specs.declared.published.Known.{Known}
use Rattle.un_publish.specs.Rule.{newcomer, informed, Fits, Keeps, Sees}
use Rattle.un_publish.proofs.Prefixes.{prefix_self, prefix_none, prefix_trans}

module _ {M C R H K : Type 0} where
  new_fits : (log : List (Entry M C R H K)) → Fits log newcomer
  new_fits log = record { seen = prefix_none log; told = prefix_none log }

  -- one place knows something else, and the others what they knew
  all_fit : (log : List (Entry M C R H K)) (views : List (Known M C R H K)) (seat : ℕ) (w : Known M C R H K) → Fits log w
      → ((by : ℕ) (v : Known M C R H K) → get_elem? views by ≡ some v → Fits log v)
      → (by : ℕ) (u : Known M C R H K) → get_elem? (set views seat w) by ≡ some u → Fits log u
  all_fit log views seat w f others by u e =
      ⊎_elim (λ (t : (by ≡ seat) × (w ≡ u)). subst (λ (y : Known M C R H K). Fits log y) t.1 f) (λ (t : (by ≢ seat) × (get_elem? views by ≡ some u)). others by u t.1) (at_set views seat by w u e)

  -- one place is new
  more_fit : (log : List (Entry M C R H K)) (views : List (Known M C R H K)) (w : Known M C R H K) → Fits log w
      → ((by : ℕ) (v : Known M C R H K) → get_elem? views by ≡ some v → Fits log v)
      → (by : ℕ) (u : Known M C R H K) → get_elem? (views ++ w ∷ []) by ≡ some u → Fits log u
  more_fit log views w f others by u e =
      ⊎_elim (others by u) (λ (same : w ≡ u). subst (λ (y : Known M C R H K). Fits log y) same f) (at_snoc views w u by e)

  abbrev pub keeps : M × List (Entry M C R H K) → List (Known M C R H K) → Type 0
  keeps x views = Keeps x views

  pub begins : (x : M × List (Entry M C R H K)) → Keeps x (newcomer ∷ [])
  begins x = more_fit x.1 [] newcomer (new_fits x.1) (λ by v e. absurd (cc e))

  pub admits : Admits keeps newcomer
  admits x views k = more_fit x.1 views newcomer (new_fits x.1) k

  -- what is published only grows
  pub looks : (seat : ℕ) (v : Known M C R H K) (x y : M × List (Entry M C R H K)) → IsPrefix x.1 y.1 → TurnsAt keeps seat v x y (λ v x y w. Sees v y w)
  looks seat v x y grows views k at =
      let f = k seat v at in
      let w : Known M C R H K = record { seen = y.1; told = v.told } in
      let seen = prefix_trans v.seen x.1 y.1 f.seen grows in
      let told = prefix_trans v.told x.1 y.1 f.told grows in
      let other : (by : ℕ) (u : Known M C R H K) → get_elem? views by ≡ some u → Fits y.1 u
      = λ by u a. let g = k by u a in record { seen = prefix_trans u.seen x.1 y.1 g.seen grows; told = prefix_trans u.told x.1 y.1 g.told grows } in (
        w,
        all_fit y.1 views seat w (record { seen = prefix_self y.1; told = told }) other,
        record { seen = seen; told = told; now = refl; same = refl },
      )

  pub forks : (seat : ℕ) (v : Known M C R H K) → Forks keeps seat v v v
  forks seat v x views k at =
      let same : set views seat v ≡ views = set_again views seat v at in
      more_fit x.1 (set views seat v) v (k seat v at) (subst (λ (vs : List (Known M C R H K)). Keeps x vs) (sym same) k)

  pub merges : (seat : ℕ) (v : Known M C R H K) (other : ℕ) (w : Known M C R H K) → Merges keeps seat v other w (informed v w) newcomer
  merges seat v other w x views k at apart there =
      let there' : get_elem? views other ≡ some w = ⊎_elim (λ (t : (other ≡ seat) × (informed v w ≡ w)). absurd (apart t.0)) (λ (t : (other ≢ seat) × (get_elem? views other ≡ some w)). t.1) (at_set views seat other (informed v w) w there) in
      let f = k seat v at in
      let h = k other w there' in
      let both : Fits x.1 (informed v w) = record { seen = f.seen; told = h.seen } in
      all_fit x.1 (set views seat (informed v w)) other newcomer (new_fits x.1) (all_fit x.1 views seat (informed v w) both k)

-- of a list of steps the last one comes last
pub fold_snoc : {A B : Type 0} (f : A → B → A) (s : A) (xs : List B) (o : B) → fold f s (xs ++ o ∷ []) ≡ f (fold f s xs) o
fold_snoc f s [] o = refl
fold_snoc f s (x ∷ xs) o = fold_snoc f (f s x) xs o
