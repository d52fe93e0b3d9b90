-- Controllers under their ports.
use Rattle.std.proofs.Common.{◌≡◌, ℕ, Bool, true, false, cond, ◌||◌, not, ◌==◌, List, [], ◌∷◌, find, None, refl, sym, ◌∙◌, ap}
use Rattle.std.specs.declared.cmp.Ordering.{Ordering}
use Rattle.std.specs.declared.cmp.Ordering.TheVariants.{Less, Equal, Greater}
use Rattle.std.specs.Ordering.{nat_cmp, is_eq, ordering_then}
use Rattle.std.specs.Cmp.{IsTotalOrder}
use Rattle.std.specs.declared.ops.Bound.TheVariants.{Included}
use Rattle.std.specs.List.{filter, list_any, take_while}
use Rattle.std.specs.Map.{values_of, lookup, remove_entry}
use Rattle.std.specs.BTreeMap.{is_at, insert_entry}
use Rattle.std.specs.BTreeSet.{insert_key}
use Rattle.un_pages.specs.Pairs.{IsOrdered, from_on}
use Rattle.un_defs.specs.declared.port.Port.{Port}
use Rattle.un_defs.specs.declared.assoc.Controller.{Controller}
use Rattle.un_defs.specs.Orders.{same_port, port_cmp}
use Rattle.un_defs.specs.Result.{controller_cmp}
use Rattle.un_assoc.specs.Indexes.{AreKeyed}
use Rattle.un_assoc.proofs.PairKeys.{pair_cmp, pair_total, pair_tie, pair_same, run_none, run_other, run_begun}
use Rattle.un_assoc.proofs.Keyed.{lookup_is, insert_new, insert_keys, remove_is, remove_keys}

-- the order that the derive gives
abbrev pub own_cmp : Port → Port → Ordering
own_cmp = pair_cmp (λ (q : Port). q.feature) (λ (q : Port). q.number)

pub own_total : IsTotalOrder own_cmp
own_total = pair_total (λ (q : Port). q.feature) (λ (q : Port). q.number)

own_tie : (a b : Port) → own_cmp a b ≡ Equal → a ≡ b
own_tie a b e =
    let parts = pair_tie (λ (q : Port). q.feature) (λ (q : Port). q.number) a b e in
    let features : a.feature ≡ b.feature = parts.0 in
    let numbers : a.number ≡ b.number = parts.1 in
    λ i. record { feature = features i; number = numbers i }

own_same : (a b : Port) → is_eq (own_cmp a b) ≡ same_port b a
own_same = pair_same (λ (q : Port). q.feature) (λ (q : Port). q.number)

at_end : (k : Ordering) → k ≡ ordering_then k Equal
at_end Less = refl
at_end Equal = refl
at_end Greater = refl

-- it is that of ports
orders : own_cmp ≡ port_cmp
orders = λ i q r. ordering_then (nat_cmp q.feature r.feature) (at_end (nat_cmp q.number r.number) i)

pub by_port_lookup : (q : Port) (ps : List (Port × Controller)) → AreKeyed (λ c. c.port) ps → lookup (is_at (own_cmp q)) ps ≡ find (λ c. same_port c.port q) (values_of ps)
by_port_lookup = lookup_is own_total own_tie same_port own_same (λ (c : Controller). c.port)

pub by_port_keys : (c : Controller) (ps : List (Port × Controller)) → AreKeyed (λ c. c.port) ps → AreKeyed (λ c. c.port) (insert_entry own_cmp ps c.port c)
by_port_keys c ps e = insert_keys own_total own_tie same_port own_same (λ (c : Controller). c.port) c.port c ps refl e

pub by_port_new : (c : Controller) (ps : List (Port × Controller)) → AreKeyed (λ c. c.port) ps → find (λ x. same_port x.port c.port) (values_of ps) ≡ None
    → values_of (insert_entry own_cmp ps c.port c) ≡ insert_key controller_cmp (values_of ps) c
by_port_new c ps e free =
    insert_new own_total own_tie same_port own_same (λ (c : Controller). c.port) c.port c ps refl e (by_port_lookup c.port ps e ∙ free)
    ∙ ap (λ (cmp : Port → Port → Ordering). insert_key (λ x y. cmp x.port y.port) (values_of ps) c) orders

pub by_port_removed : (q : Port) (ps : List (Port × Controller)) → IsOrdered own_cmp ps → AreKeyed (λ c. c.port) ps
    → values_of (remove_entry (is_at (own_cmp q)) ps) ≡ filter (λ c. not (same_port c.port q)) (values_of ps)
by_port_removed = remove_is own_total own_tie same_port own_same (λ (c : Controller). c.port)

pub by_port_removed_keys : (q : Port) (ps : List (Port × Controller)) → AreKeyed (λ c. c.port) ps → AreKeyed (λ c. c.port) (remove_entry (is_at (own_cmp q)) ps)
by_port_removed_keys = remove_keys own_total own_tie same_port own_same (λ (c : Controller). c.port)

-- ---- those of one feature

keyed_any : (f : ℕ) (ps : List (Port × Controller)) → AreKeyed (λ c. c.port) ps → list_any (λ c. c.port.feature == f) (values_of ps) ≡ list_any (λ p. p.0.feature == f) ps
keyed_any f [] e = refl
keyed_any f (p ∷ ps) e =
    let key : p.0 ≡ p.1.port = cc in
    let rest : AreKeyed (λ c. c.port) ps = cc in
    ap (λ q. (q.feature == f) || list_any (λ c. c.port.feature == f) (values_of ps)) (sym key) ∙ ap (λ b. (p.0.feature == f) || b) (keyed_any f ps rest)

any_none : (f : ℕ) (ps : List (Port × Controller)) → filter (λ p. p.0.feature == f) ps ≡ [] → list_any (λ p. p.0.feature == f) ps ≡ false
any_none f [] e = refl
any_none f (p ∷ ps) e = by (p.0.feature == f) e (any_none f ps)
  where
    by : (t : Bool) → cond t (p ∷ filter (λ p. p.0.feature == f) ps) (filter (λ p. p.0.feature == f) ps) ≡ [] → (filter (λ p. p.0.feature == f) ps ≡ [] → list_any (λ p. p.0.feature == f) ps ≡ false)
        → (t || list_any (λ p. p.0.feature == f) ps) ≡ false
    by true e ih = cc
    by false e ih = ih e

any_one : (f : ℕ) (ps : List (Port × Controller)) (q : Port × Controller) (more : List (Port × Controller)) → filter (λ p. p.0.feature == f) ps ≡ q ∷ more → list_any (λ p. p.0.feature == f) ps ≡ true
any_one f [] q more e = cc
any_one f (p ∷ ps) q more e = by (p.0.feature == f) e (any_one f ps q more)
  where
    by : (t : Bool) → cond t (p ∷ filter (λ p. p.0.feature == f) ps) (filter (λ p. p.0.feature == f) ps) ≡ q ∷ more → (filter (λ p. p.0.feature == f) ps ≡ q ∷ more → list_any (λ p. p.0.feature == f) ps ≡ true)
        → (t || list_any (λ p. p.0.feature == f) ps) ≡ true
    by true e ih = refl
    by false e ih = ih e

module _ (f : ℕ) (ps rest : List (Port × Controller)) (keyed : AreKeyed (λ c. c.port) ps) (s : IsOrdered own_cmp ps) (is : rest ≡ from_on own_cmp (Included (record { feature = f; number = 0 })) ps) where
  pub has_none : rest ≡ [] → false ≡ list_any (λ c. c.port.feature == f) (values_of ps)
  has_none e =
      sym (keyed_any f ps keyed ∙ any_none f ps (run_none (λ (q : Port). q.feature) (λ (q : Port). q.number) f (record { feature = f; number = 0 }) refl refl ps rest s is e))

  pub has_some : (p : Port × Controller) (more : List (Port × Controller)) → rest ≡ p ∷ more → (p.0.feature == f) ≡ list_any (λ c. c.port.feature == f) (values_of ps)
  has_some p more e = by (p.0.feature == f) refl
    where
      by : (t : Bool) → (p.0.feature == f) ≡ t → t ≡ list_any (λ c. c.port.feature == f) (values_of ps)
      by true t =
          sym (keyed_any f ps keyed ∙ any_one f ps p (take_while (λ p. p.0.feature == f) more)
          (run_begun (λ (q : Port). q.feature) (λ (q : Port). q.number) f (record { feature = f; number = 0 }) refl refl ps rest s is p more e t))
      by false t =
          sym (keyed_any f ps keyed ∙ any_none f ps (run_other (λ (q : Port). q.feature) (λ (q : Port). q.number) f (record { feature = f; number = 0 }) refl refl ps rest s is p more e t))
