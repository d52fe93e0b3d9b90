-- One link more of a node: it is done, put off, or one by which no walk goes.
use Rattle.std.proofs.Common.{◌≡◌, ◌⊎◌, ℕ, ◌<◌, ◌≤◌, Bool, true, false, List, [], ◌∷◌, ◌++◌, length, slice_get, cond, append-nil, append_assoc, Contains, Some, inl, inr, refl, sym, ap, subst, ◌∙◌, true≢false, arith}
use Rattle.std.specs.List.{IsDistinct, list_any}
use denote.Ref.{Bor}
use Rattle.std.proofs.lemmas.Option.{slice_get_within}
use Rattle.un_defs.specs.declared.port.Node.{Node}
use Rattle.un_defs.specs.declared.link.Tie.{Tie}
use Rattle.un_defs.specs.declared.walk.Mode.{Mode}
use Rattle.un_defs.specs.declared.walk.Barriers.{Barriers}
use Rattle.un_defs.specs.Orders.{same_node}
use Rattle.un_defs.specs.Ground.{Ground, ties}
use Rattle.un_defs.specs.Reach.{goes_by, is_open}
use Rattle.un_defs.proofs.Members.{among_left, among_right, among_cases, contains_from_among, among_from_contains, list_any_from_among}
use Rattle.un_walk.specs.declared.traversal.Away.{Away}
use Rattle.un_walk.specs.declared.found.Found.{Found}
use Rattle.un_walk.specs.Growth.{has_node, with_node, GrowsBy}
use Rattle.un_walk.specs.Found.{nodes}
use Rattle.un_walk.specs.Traced.{Traces, Adds, IsFoundFrom}
use Rattle.un_walk.specs.Aways.{HasAway, IsAwayOf, AreSettled, StandsAt, Follows}
use Rattle.un_walk.proofs.Tracing.{traces_done, traces_link}
use Rattle.un_walk.proofs.Growing.{grows_none, grows_with}

-- ---- lists with one element more

first_or : {A : Type 0} (x y : A) (xs : List A) → Contains (x ∷ xs) y → (x ≡ y) ⊎ Contains xs y
first_or x y xs c = elim (among_from_contains (x ∷ xs) y c) [ inl e ↦ inl e | inr g ↦ inr (contains_from_among xs y g) ]

after_first : {A : Type 0} (x y : A) (xs : List A) → Contains xs y → Contains (x ∷ xs) y
after_first x y xs c = contains_from_among (x ∷ xs) y (inr (among_from_contains xs y c))

the_first : {A : Type 0} (x : A) (xs : List A) → Contains (x ∷ xs) x
the_first x xs = contains_from_among (x ∷ xs) x (inl refl)

pub has_more : (aways more : List Away) (p : ℕ) (t : Tie) → HasAway aways p t → HasAway (aways ++ more) p t
has_more aways more p t h = record {
  away = h.away;
  stands = contains_from_among (aways ++ more) h.away (among_left aways more h.away (among_from_contains aways h.away h.stands));
  from = h.from;
  tie = h.tie;
}

has_last : (aways : List Away) (a : Away) (p : ℕ) (t : Tie) → a.from ≡ p → a.tie.now ≡ t → HasAway (aways ++ a ∷ []) p t
has_last aways a p t from tie = record {
  away = a;
  stands = contains_from_among (aways ++ a ∷ []) a (among_right aways (a ∷ []) a (inl refl));
  from = from;
  tie = tie;
}

module _ (G : Ground) (B : Barriers) (mode : Mode) where
  -- one link more is done
  pub settled_more : (f g : Found) (n : Node) (first s p : ℕ) (settled : List (ℕ × Tie)) (tie : Bor Tie) (one : Node)
      → nodes g ≡ with_node (nodes f) n → IsDistinct same_node (nodes g) → first ≤ s → Traces G B mode f first (AreSettled settled)
      → ((q : ℕ) (t : Tie) → Contains settled (q, t) → q < length (nodes f))
      → slice_get (nodes f) s ≡ Some one → is_open G B one ≡ true → Contains (ties G one) tie.now → goes_by G B mode one n tie.now ≡ true → Adds G f g n s (Some tie)
      → Traces G B mode g first (AreSettled ((s, tie.now) ∷ settled))
  settled_more f g n first s p settled tie one added distinct low traces bounded at opened stands goes adds =
      traces_done G B mode g first first (λ q t. AreSettled settled q t ⊎ ((q ≡ s) × (t ≡ tie.now))) (AreSettled ((s, tie.now) ∷ settled)) (omega arith)
      (traces_link G B mode f g n added distinct first s (AreSettled settled) tie one low traces bounded at opened stands goes adds)
      (λ q x other t is at_x open_x stands_x goes_x. elim (first_or (s, tie.now) (q, t) settled is) [
        | inl e ↦ inr (sym (ap (λ (x : ℕ × Tie). x.0) e), sym (ap (λ (x : ℕ × Tie). x.1) e))
        | inr old ↦ inl old
      ])

  module _ (aways : List Away) (n : Node) (first p : ℕ) (settled : List (ℕ × Tie)) where
    -- no link yet
    pub follows_none : (f : Found) → StandsAt G B mode f first p settled → Follows G B mode f aways n first p settled []
    follows_none f at = record {
      more = [];
      after = at;
      covers = λ opened t m c goes. absurd (among_from_contains [] t c);
    }

    module _ (ts : List Tie) where
      -- a link that is done
      pub follows_link : (f g : Found) (m : Node) (tie : Bor Tie) → nodes g ≡ with_node (nodes f) m → IsDistinct same_node (nodes g)
          → slice_get (nodes f) p ≡ Some n → is_open G B n ≡ true → Contains (ties G n) tie.now → goes_by G B mode n m tie.now ≡ true → Adds G f g m p (Some tie)
          → Follows G B mode f aways n first p settled ts → Follows G B mode g aways n first p settled (tie.now ∷ ts)
      follows_link f g m tie added distinct at opened stands goes adds h = record {
        more = (p, tie.now) ∷ h.more;
        after = record {
          low = h.after.low;
          bounded = λ q t c. elim (first_or (p, tie.now) (q, t) (h.more ++ settled) c) [
            | inl e ↦ let same : p ≡ q = ap (λ (x : ℕ × Tie). x.0) e in omega (arith, same)
            | inr old ↦ h.after.bounded q t old
          ];
          traces = settled_more f g m first p p (h.more ++ settled) tie n added distinct h.after.low h.after.traces
              (λ q t c. omega (arith, h.after.bounded q t c, slice_get_within (nodes f) p n at)) at opened stands goes adds;
        };
        covers = λ open_n t x c goes_t. elim (first_or tie.now t ts c) [
          | inl e ↦ inl (subst (λ (y : Tie). Contains ((p, tie.now) ∷ (h.more ++ settled)) (p, y)) e (the_first (p, tie.now) (h.more ++ settled)))
          | inr old ↦ elim (h.covers open_n t x old goes_t) [ inl done ↦ inl (after_first (p, tie.now) (p, t) (h.more ++ settled) done) | inr off ↦ inr off ]
        ];
      }

      -- a link by which no walk goes
      pub follows_not : (f : Found) (tie : Tie) → ((x : Node) → goes_by G B mode n x tie ≡ false)
          → Follows G B mode f aways n first p settled ts → Follows G B mode f aways n first p settled (tie ∷ ts)
      follows_not f tie not_by h = record {
        more = h.more;
        after = h.after;
        covers = λ open_n t x c goes_t. elim (first_or tie t ts c) [
          | inl e ↦ absurd (true≢false (sym (subst (λ (y : Tie). goes_by G B mode n x y ≡ true) (sym e) goes_t) ∙ not_by x))
          | inr old ↦ h.covers open_n t x old goes_t
        ];
      }

      -- a link that is put off
      pub follows_later : (f : Found) (a : Away) → a.from ≡ p
          → Follows G B mode f aways n first p settled ts → Follows G B mode f (aways ++ a ∷ []) n first p settled (a.tie.now ∷ ts)
      follows_later f a from h = record {
        more = h.more;
        after = h.after;
        covers = λ open_n t x c goes_t. elim (first_or a.tie.now t ts c) [
          | inl e ↦ inr (has_last aways a p t from e)
          | inr old ↦ elim (h.covers open_n t x old goes_t) [ inl done ↦ inl done | inr off ↦ inr (has_more aways (a ∷ []) p t off) ]
        ];
      }

  -- from a node that is not open, or has no links, no walk goes on
  pub follows_shut : (f : Found) (n : Node) (first p : ℕ) (settled : List (ℕ × Tie)) → (is_open G B n ≡ true → (t : Tie) → Contains (ties G n) t → ⊥) → StandsAt G B mode f first p settled
      → Follows G B mode f [] n first p settled (ties G n)
  follows_shut f n first p settled shut at = record { more = []; after = at; covers = λ opened t m c goes. absurd (shut opened t c) }

  -- ---- the links of one node so far

  module _ (n : Node) (p : ℕ) where
    abbrev next : Node → Bool
    next m = list_any (goes_by G B mode n m) (ties G n)

    -- some links of the node are followed or put off, from these found nodes and links put off to those
    pub record IsFollowing (f g : Found) (old new : List Away) (ts : List Tie) : Type 0 where
      pub grown : GrowsBy (nodes f) (nodes g) next
      pub aways : List Away
      pub is : new ≡ old ++ aways
      pub of : (a : Away) → Contains aways a → IsAwayOf G B mode n p a
      pub follows : (first : ℕ) (settled : List (ℕ × Tie)) → StandsAt G B mode f first p settled → Follows G B mode g aways n first p settled ts

    pub following_none : (f : Found) (old : List Away) → IsFollowing f f old old []
    following_none f old = record {
      grown = grows_none (nodes f) next;
      aways = [];
      is = sym (append-nil old);
      of = λ a c. absurd (among_from_contains [] a c);
      follows = λ first settled at. follows_none [] n first p settled f at;
    }

    module _ (f g : Found) (old new : List Away) (ts : List Tie) (so_far : IsFollowing f g old new ts) where
      -- a link that is done
      pub following_link : (h : Found) (m : Node) (tie : Bor Tie) → nodes h ≡ with_node (nodes g) m → IsDistinct same_node (nodes h)
          → slice_get (nodes g) p ≡ Some n → is_open G B n ≡ true → Contains (ties G n) tie.now → goes_by G B mode n m tie.now ≡ true → Adds G g h m p (Some tie)
          → IsFollowing f h old new (tie.now ∷ ts)
      following_link h m tie added distinct at opened stands goes adds = record {
        grown = subst (λ l. GrowsBy (nodes f) l next) (sym added) (grows_with (nodes f) (nodes g) next m passes so_far.grown);
        aways = so_far.aways;
        is = so_far.is;
        of = so_far.of;
        follows = λ first settled start. follows_link so_far.aways n first p settled ts g h m tie added distinct at opened stands goes adds (so_far.follows first settled start);
      }
        where
          passes : next m ≡ true
          passes = list_any_from_among (goes_by G B mode n m) (ties G n) tie.now (among_from_contains (ties G n) tie.now stands) goes

      -- the link by which the node was found
      pub following_back : (m : Node) (tie : Bor Tie) → has_node (nodes g) m ≡ true → IsFoundFrom g p m → IsDistinct same_node (nodes g)
          → slice_get (nodes g) p ≡ Some n → is_open G B n ≡ true → Contains (ties G n) tie.now → goes_by G B mode n m tie.now ≡ true
          → IsFollowing f g old new (tie.now ∷ ts)
      following_back m tie has from distinct at opened stands goes =
          following_link g m tie (sym (ap (λ b. cond b (nodes g) (nodes g ++ m ∷ [])) has)) distinct at opened stands goes (inr (inr (record { items = refl; chords = refl; why = inl from })))

      -- a link by which no walk goes
      pub following_not : (tie : Tie) → ((x : Node) → goes_by G B mode n x tie ≡ false) → IsFollowing f g old new (tie ∷ ts)
      following_not tie not_by = record {
        grown = so_far.grown;
        aways = so_far.aways;
        is = so_far.is;
        of = so_far.of;
        follows = λ first settled start. follows_not so_far.aways n first p settled ts g tie not_by (so_far.follows first settled start);
      }

      -- a link that is put off
      pub following_later : (later : List Away) (a : Away) → later ≡ new ++ a ∷ [] → IsAwayOf G B mode n p a → IsFollowing f g old later (a.tie.now ∷ ts)
      following_later later a one_more of = record {
        grown = so_far.grown;
        aways = so_far.aways ++ a ∷ [];
        is = one_more ∙ ap (λ l. l ++ a ∷ []) so_far.is ∙ append_assoc old so_far.aways (a ∷ []);
        of = λ b c. elim (among_cases so_far.aways (a ∷ []) b (among_from_contains (so_far.aways ++ a ∷ []) b c)) [
          | inl h ↦ so_far.of b (contains_from_among so_far.aways b h)
          | inr h ↦ elim h [ inl e ↦ subst (IsAwayOf G B mode n p) e of | inr none ↦ absurd none ]
        ];
        follows = λ first settled start. follows_later so_far.aways n first p settled ts g a of.from (so_far.follows first settled start);
      }
