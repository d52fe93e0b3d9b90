-- The partners of a row are the other ends of the associations of which it is an end.
use Rattle.std.proofs.Common.{◌≡◌, ◌≢◌, ℕ, ◌==◌, Bool, true, false, cond, ◌&&◌, ◌||◌, List, [], ◌∷◌, ◌++◌, filter, flat_map, AllPairs, refl}
use Rattle.std.specs.Prelude.{if◌then◌else◌}
use Rattle.std.specs.FinMap.{nat_cmp-IsAntisymmetric}
use Rattle.std.specs.Cmp.{nat_cmp_total}
use Rattle.std.specs.Ordering.{nat_cmp}
use Rattle.un_defs.specs.declared.assoc.Assoc.{Assoc}
use Rattle.un_defs.specs.declared.assoc.AssocKind.{AssocKind}
use Rattle.un_defs.specs.Orders.{rising}
use Rattle.un_defs.specs.Features.{Features, is_end_of, by_id, associations_of}
use Rattle.un_defs.specs.Dirtied.{other_end, partners}
use Rattle.un_defs.proofs.Rising.{Among, TiesAreOne, among-rising, among_from-rising, rising_same}
use Rattle.un_defs.proofs.Unique.{unique_by}
use Rattle.un_facts.specs.declared.rectangles.Which.{Which}
use Rattle.un_facts.specs.Partners.{takes, taken_end}
use Rattle.un_defs.proofs.Members.{among_from-filter, among-filter, among_from-flat_map, among-flat_map}

module _ (F : Features) (apart : AllPairs (λ a b. a.id ≢ b.id) F.associations) (is_sort : AssocKind → Bool) (id : ℕ) where
  -- the associations of the sort, and of these the ones of which the row is an end
  abbrev all : List Assoc
  all = filter (λ a. is_sort a.sort) F.associations

  abbrev own : List Assoc
  own = filter (λ a. is_sort a.sort) (associations_of F id)

  ids_one : TiesAreOne by_id (filter (is_end_of id) F.associations)
  ids_one a b h g e =
      unique_by (λ a. a.id) F.associations apart a b (among_from-filter (is_end_of id) F.associations a h).0 (among_from-filter (is_end_of id) F.associations b g).0
      (nat_cmp-IsAntisymmetric a.id b.id e)

  -- an association that has another end than the row is one of the row
  has_end : (a : Assoc) (n : ℕ) → Among (other_end id a) n → is_end_of id a ≡ true
  has_end a n = go (a.from.feature == id) (a.to.feature == id)
    where
      go : (b c : Bool) → Among ((if b then a.to.feature ∷ [] else []) ++ (if c then a.from.feature ∷ [] else [])) n → (b || c) ≡ true
      go true c h = refl
      go false true h = refl
      go false false h = absurd h

  to_all : (n : ℕ) → Among (flat_map (other_end id) own) n → Among (flat_map (other_end id) all) n
  to_all n h =
      let r = among_from-flat_map (other_end id) own n h in
      let s = among_from-filter (λ a. is_sort a.sort) (associations_of F id) r.0 r.1 in
      let lives = (among_from-filter (is_end_of id) F.associations r.0 (among_from-rising by_id (filter (is_end_of id) F.associations) r.0 s.0)).0 in
      among-flat_map (other_end id) all r.0 n (among-filter (λ a. is_sort a.sort) F.associations r.0 lives s.1) r.2

  to_own : (n : ℕ) → Among (flat_map (other_end id) all) n → Among (flat_map (other_end id) own) n
  to_own n h =
      let r = among_from-flat_map (other_end id) all n h in
      let s = among_from-filter (λ a. is_sort a.sort) F.associations r.0 r.1 in
      let ended = among-filter (is_end_of id) F.associations r.0 s.0 (has_end r.0 n r.2) in
      among-flat_map (other_end id) own r.0 n
      (among-filter (λ a. is_sort a.sort) (associations_of F id) r.0 (among-rising by_id (filter (is_end_of id) F.associations) ids_one r.0 ended) s.1) r.2

  numbers_one : (ns : List ℕ) → TiesAreOne nat_cmp ns
  numbers_one ns m n h g e = nat_cmp-IsAntisymmetric m n e

  pub partners_are : rising nat_cmp (flat_map (other_end id) own) ≡ partners F is_sort id
  partners_are = rising_same nat_cmp_total (flat_map (other_end id) own) (flat_map (other_end id) all) (numbers_one _) (numbers_one _) to_all to_own

-- ---- the associations that are taken

taken_is : (which : Which) (id : ℕ) (a : Assoc) (b : Bool) → takes which a.sort ≡ b → taken_end which id a ≡ (if b then other_end id a else [])
taken_is which id a true e = λ i.
    (if e i && (a.from.feature == id) then a.to.feature ∷ [] else []) ++ (if e i && (a.to.feature == id) then a.from.feature ∷ [] else [])
taken_is which id a false e = λ i.
    (if e i && (a.from.feature == id) then a.to.feature ∷ [] else []) ++ (if e i && (a.to.feature == id) then a.from.feature ∷ [] else [])

pub taken_ends : (which : Which) (id : ℕ) (found : List Assoc) → flat_map (taken_end which id) found ≡ flat_map (other_end id) (filter (λ a. takes which a.sort) found)
taken_ends which id [] = refl
taken_ends which id (a ∷ found) = go (takes which a.sort) refl (taken_ends which id found)
  where
    go : (b : Bool) → takes which a.sort ≡ b → flat_map (taken_end which id) found ≡ flat_map (other_end id) (filter (λ a. takes which a.sort) found)
        → taken_end which id a ++ flat_map (taken_end which id) found ≡ flat_map (other_end id) (cond b (a ∷ filter (λ a. takes which a.sort) found) (filter (λ a. takes which a.sort) found))
    go true e rest = λ i. taken_is which id a true e i ++ rest i
    go false e rest = λ i. taken_is which id a false e i ++ rest i
