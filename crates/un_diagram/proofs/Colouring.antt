-- How places are coloured: one by one, along a worklist, and piece by piece.
use Rattle.std.proofs.Common.{◌≡◌, ◌≢◌, ℕ, zero, suc, ◌+◌, ◌<◌, ◌≤◌, true, ◌&&◌, List, [], ◌∷◌, ◌++◌, set, length, Option, Some, None, ◌⊎◌, inl, inr, refl, sym, ap, subst, ◌∙◌, arith}
use Rattle.std.specs.Prelude.{slice_get, Contains}
use Rattle.std.proofs.lemmas.Bool.{cases_lt, cases_eq}
use Rattle.std.proofs.lemmas.List.{length-set, append_assoc}
use Rattle.std.proofs.lemmas.Option.{slice_get_within, slice_get-get_or, get_or_from_slice_get}
use Rattle.std.proofs.lemmas.List.Elements.{Contains-append_left, Contains-append_right, Contains-append_cases, Contains-push, Contains-push_cases}
use Rattle.un_defs.specs.declared.port.Node.{Node}
use Rattle.un_defs.specs.declared.walk.Mode.TheVariants.{Any}
use Rattle.un_defs.specs.Ground.{Ground}
use Rattle.un_defs.specs.Reach.{leads, is_open, Walk}
use Rattle.un_defs.proofs.Members.{among_from_contains, contains_from_among}
use Rattle.un_defs.proofs.LinkCases.{both_true, true_both, some_same}
use Rattle.un_defs.proofs.Walking.{walk_from_start, walk_on}
use Rattle.un_ask.specs.declared.typed.DiagramAsk.{DiagramAsk}
use Rattle.un_diagram.specs.declared.roles.Role.{Role}
use Rattle.un_diagram.specs.declared.roles.Role.TheVariants.{Collapsed}
use Rattle.un_diagram.specs.Diagram.{is_collapsed, passes}
use Rattle.un_diagram.specs.Places.{IsAt, IsNetwork, AreEnds, AreRoles}
use Rattle.un_diagram.specs.Colours.{HasColour, IsBlank, EachOnce, Colours, IsLed, AreClosed, IsSpread, AreColoured}
use Rattle.un_diagram.proofs.Linking.{leads_back, collapsed_from, collapsed_role}
use Rattle.un_diagram.proofs.Placing.{contains_at}

-- ---- lists

pub set_here : {X : Type 0} (xs : List X) (i : ℕ) (y : X) → i < length xs → slice_get (set xs i y) i ≡ Some y
set_here [] i y h = absurd (omega arith)
set_here (x ∷ xs) zero y h = refl
set_here (x ∷ xs) (suc i) y h = set_here xs i y (omega arith)

pub set_elsewhere : {X : Type 0} (xs : List X) (i k : ℕ) (y : X) → k ≢ i → slice_get (set xs i y) k ≡ slice_get xs k
set_elsewhere [] i k y ne = refl
set_elsewhere (x ∷ xs) zero zero y ne = absurd (ne refl)
set_elsewhere (x ∷ xs) zero (suc k) y ne = refl
set_elsewhere (x ∷ xs) (suc i) zero y ne = refl
set_elsewhere (x ∷ xs) (suc i) (suc k) y ne = set_elsewhere xs i k y (λ e. ne (ap suc e))

get_left : {X : Type 0} (xs ys : List X) (i : ℕ) → i < length xs → slice_get (xs ++ ys) i ≡ slice_get xs i
get_left [] ys i h = absurd (omega arith)
get_left (x ∷ xs) ys zero h = refl
get_left (x ∷ xs) ys (suc i) h = get_left xs ys i (omega arith)

pub some_at : {X : Type 0} (xs : List X) (i : ℕ) → i < length xs → (x : X) × (slice_get xs i ≡ Some x)
some_at [] i h = absurd (omega arith)
some_at (x ∷ xs) zero h = (x, refl)
some_at (x ∷ xs) (suc i) h = some_at xs i (omega arith)

once_push : (xs : List ℕ) (y : ℕ) → EachOnce xs → (Contains xs y → ⊥) → EachOnce (xs ++ y ∷ [])
once_push [] y o new = (λ h. absurd (among_from_contains [] y h), tt)
once_push (x ∷ xs) y o new = (
  λ h. elim (Contains-push_cases xs y x h) [
    | inl before ↦ o.0 before
    | inr same ↦ new (contains_from_among (x ∷ xs) y (inl (sym same)))
  ],
  once_push xs y o.1 (λ h. new (contains_from_among (x ∷ xs) y (inr (among_from_contains xs y h)))),
)

once_append : (xs ys : List ℕ) → EachOnce xs → EachOnce ys → ((x : ℕ) → Contains xs x → Contains ys x → ⊥) → EachOnce (xs ++ ys)
once_append [] ys o p apart = p
once_append (x ∷ xs) ys o p apart = (
  λ h. elim (Contains-append_cases xs ys x h) [
    | inl before ↦ o.0 before
    | inr after ↦ apart x (contains_from_among (x ∷ xs) x (inl refl)) after
  ],
  once_append xs ys o.1 p (λ y h g. apart y (contains_from_among (x ∷ xs) y (inr (among_from_contains xs y h))) g),
)

clash_free : (colours : List (Option ℕ)) (i g : ℕ) → slice_get colours i ≡ Some None → HasColour colours i g → ⊥
clash_free colours i g free has = (let clash : None ≡ Some g = some_same None (Some g) (sym free ∙ has) in cc)

-- what is free was free
free_before : (old new : List (Option ℕ)) → length new ≡ length old → ((i g : ℕ) → HasColour old i g → HasColour new i g) → (i : ℕ) → slice_get new i ≡ Some None → slice_get old i ≡ Some None
free_before old new count kept i free = go was.0 was.1
  where
    was : (o : Option ℕ) × (slice_get old i ≡ Some o)
    was = some_at old i (let below = slice_get_within new i None free in omega (arith, count))

    go : (o : Option ℕ) → slice_get old i ≡ Some o → slice_get old i ≡ Some None
    go None e = e
    go (Some g) e = absurd (clash_free new i g free (kept i g e))

-- ---- one more place is coloured, or is not blank

pub colours_none : (roles : List Role) (f : ℕ) (colours : List (Option ℕ)) (members : List ℕ) → Colours roles [] f colours colours members members
colours_none roles f colours members = record {
  more = [];
  order = sym (append_nil members);
  count = refl;
  kept = λ i g h. h;
  only = λ i g h. inl h;
  added = λ i h. absurd (among_from_contains [] i h);
  once = tt;
  whole = λ i h. absurd (among_from_contains [] i h);
}
  where
    append_nil : (xs : List ℕ) → xs ++ [] ≡ xs
    append_nil [] = refl
    append_nil (x ∷ xs) = ap (λ l. x ∷ l) (append_nil xs)

module _ (roles : List Role) (f : ℕ) (first old : List (Option ℕ)) (before all ends : List ℕ) (so_far : Colours roles ends f first old before all) (j : ℕ) where
  pub colours_with : IsBlank roles old j → Colours roles (ends ++ j ∷ []) f first (set old j (Some f)) before (all ++ j ∷ [])
  colours_with blank = record {
    more = so_far.more ++ j ∷ [];
    order = ap (λ l. l ++ j ∷ []) so_far.order ∙ append_assoc before so_far.more (j ∷ []);
    count = length-set old j (Some f) ∙ so_far.count;
    kept = λ i g has. onward i g (so_far.kept i g has);
    only = λ i g has. elim (cases_eq i j) [
      | inl same ↦ inr (some_same g f (some_same (Some g) (Some f) (sym has ∙ ap (slice_get (set old j (Some f))) same ∙ here)), subst (Contains (so_far.more ++ j ∷ [])) (sym same) (Contains-push so_far.more j))
      | inr other ↦ elim (so_far.only i g (sym (set_elsewhere old j i (Some f) other) ∙ has)) [
        | inl was ↦ inl was
        | inr (is, among) ↦ inr (is, Contains-append_left so_far.more (j ∷ []) i among)
      ]
    ];
    added = λ i h. elim (Contains-push_cases so_far.more j i h) [
      | inl earlier ↦ let a = so_far.added i earlier in (Contains-append_left ends (j ∷ []) i a.0, a.1, onward i f a.2)
      | inr same ↦ subst (λ k. Contains (ends ++ j ∷ []) k × IsBlank roles first k × HasColour (set old j (Some f)) k f) same (
        Contains-push ends j,
        record { collapsed = blank.collapsed; free = free_before first old so_far.count so_far.kept j blank.free },
        here,
      )
    ];
    once = once_push so_far.more j so_far.once (λ h. clash_free old j f blank.free (so_far.added j h).2);
    whole = λ i h role. elim (Contains-push_cases ends j i h) [
      | inl earlier ↦ let w = so_far.whole i earlier role in (w.0, onward i w.0 w.1)
      | inr same ↦ (f, subst (λ k. HasColour (set old j (Some f)) k f) same here)
    ];
  }
    where
      here : HasColour (set old j (Some f)) j f
      here = set_here old j (Some f) (slice_get_within old j None blank.free)

      onward : (i g : ℕ) → HasColour old i g → HasColour (set old j (Some f)) i g
      onward i g has = set_elsewhere old j i (Some f) (λ same. clash_free old j g blank.free (ap (slice_get old) (sym same) ∙ has)) ∙ has

  pub colours_without : j < length old → (IsBlank roles old j → ⊥) → Colours roles (ends ++ j ∷ []) f first old before all
  colours_without below not_blank = record {
    more = so_far.more;
    order = so_far.order;
    count = so_far.count;
    kept = so_far.kept;
    only = so_far.only;
    added = λ i h. let a = so_far.added i h in (Contains-append_left ends (j ∷ []) i a.0, a.1, a.2);
    once = so_far.once;
    whole = λ i h role. elim (Contains-push_cases ends j i h) [
      | inl earlier ↦ so_far.whole i earlier role
      | inr same ↦ go i same role (some_at old j below).0 (some_at old j below).1
    ];
  }
    where
      go : (i : ℕ) → j ≡ i → slice_get roles i ≡ Some Collapsed → (o : Option ℕ) → slice_get old j ≡ Some o → (g : ℕ) × HasColour old i g
      go i same role None e = absurd (not_blank (record { collapsed = ap (slice_get roles) same ∙ role; free = e }))
      go i same role (Some g) e = (g, ap (slice_get old) (sym same) ∙ e)

-- ---- over the ground

module _ (G : Ground) (ask : DiagramAsk) (nodes : List Node) (are : IsNetwork G ask.barriers nodes) (roles : List Role) (are_roles : AreRoles G ask nodes roles) where
  pub opened : (n : Node) → is_collapsed G ask n ≡ true → is_open G ask.barriers n ≡ true
  opened n e = (both_true (is_open G ask.barriers n) _ e).0

  both_collapsed : (n m : Node) → passes G ask n m ≡ true → (is_collapsed G ask n ≡ true) × (is_collapsed G ask m ≡ true)
  both_collapsed n m e = both_true (is_collapsed G ask n) (is_collapsed G ask m) (both_true (is_collapsed G ask n && is_collapsed G ask m) _ e).0

  pub passes_on : (n m : Node) → is_collapsed G ask n ≡ true → is_collapsed G ask m ≡ true → leads G ask.barriers Any n m ≡ true → passes G ask n m ≡ true
  passes_on n m a b l = true_both (is_collapsed G ask n && is_collapsed G ask m) _ (true_both (is_collapsed G ask n) _ a b) l

  pub passes_back : (n m : Node) → Contains nodes n → Contains nodes m → passes G ask n m ≡ true → passes G ask m n ≡ true
  passes_back n m has_n has_m e =
      let both = both_collapsed n m e in
      passes_on m n both.1 both.0 (leads_back G ask.barriers nodes are n m has_n has_m (both_true (is_collapsed G ask n && is_collapsed G ask m) _ e).1 (opened m both.1))

  -- ---- one piece

  module _ (old : List (Option ℕ)) (count : length old ≡ length nodes) (closed : AreClosed G ask nodes old) (f : ℕ) (blank : IsBlank roles old f) where
    first_at : (n : Node) × IsAt nodes f n
    first_at = some_at nodes f (let below = slice_get_within roles f Collapsed blank.collapsed in let same = are_roles.count in omega arith)

    pub spread_begun : (new : List (Option ℕ)) (members : List ℕ) → Colours roles (f ∷ []) f old new [] members → IsSpread G ask nodes f old new members 0
    spread_begun new members begun = record {
      count = begun.count;
      kept = begun.kept;
      only = λ i g has. elim (begun.only i g has) [
        | inl was ↦ inl was
        | inr (is, among) ↦ inr (is, put i among)
      ];
      was_free = λ i has. (begun.added i (taken i has)).1.free;
      coloured = λ i has. (begun.added i (taken i has)).2;
      collapsed = λ i n has at. collapsed_from G ask nodes roles are_roles i n at (begun.added i (taken i has)).1.collapsed;
      led = λ i has. subst (IsLed G ask nodes f) (sym (only_first i (begun.added i (taken i has)).0)) (record {
        first = first_at.0;
        node = first_at.0;
        at_first = first_at.1;
        at_node = first_at.1;
        walk = walk_from_start (passes G ask) (first_at.0 ∷ []) first_at.0 (inl refl);
      });
      once = subst EachOnce (sym begun.order) begun.once;
      begun = put f first_in;
      closed = λ p i j n m low. absurd (omega arith);
    }
      where
        put : (i : ℕ) → Contains begun.more i → Contains members i
        put i = subst (λ l. Contains l i) (sym begun.order)

        taken : (i : ℕ) → Contains members i → Contains begun.more i
        taken i = subst (λ l. Contains l i) begun.order

        only_first : (i : ℕ) → Contains (f ∷ []) i → i ≡ f
        only_first i h = elim (among_from_contains (f ∷ []) i h) [ inl e ↦ sym e | inr g ↦ absurd g ]

        first_in : Contains begun.more f
        first_in =
            let w = begun.whole f (contains_from_among (f ∷ []) f (inl refl)) blank.collapsed in
            elim (begun.only f w.0 w.1) [
              | inl was ↦ absurd (clash_free old f w.0 blank.free was)
              | inr (is, among) ↦ among
            ]

    module _ (mid new : List (Option ℕ)) (members after : List ℕ) (k i : ℕ) (so_far : IsSpread G ask nodes f old mid members k) (at : slice_get members k ≡ Some i)
        (n : Node) (at_n : IsAt nodes i n) (ends : List ℕ) (ends_are : AreEnds G ask.barriers nodes n ends) (put : Colours roles ends f mid new members after) where
      member : Contains members i
      member = (k, slice_get_within members k i at, get_or_from_slice_get members k i i at)

      this_collapsed : is_collapsed G ask n ≡ true
      this_collapsed = so_far.collapsed i n member at_n

      earlier : (j : ℕ) → Contains members j → Contains after j
      earlier j h = subst (λ l. Contains l j) (sym put.order) (Contains-append_left members put.more j h)

      later : (j : ℕ) → Contains put.more j → Contains after j
      later j h = subst (λ l. Contains l j) (sym put.order) (Contains-append_right members put.more j h)

      cases : (j : ℕ) → Contains after j → Contains members j ⊎ Contains put.more j
      cases j h = Contains-append_cases members put.more j (subst (λ l. Contains l j) put.order h)

      kept_on : (j g : ℕ) → HasColour old j g → HasColour new j g
      kept_on j g h = put.kept j g (so_far.kept j g h)

      only_on : (j g : ℕ) → HasColour new j g → HasColour old j g ⊎ ((g ≡ f) × Contains after j)
      only_on j g h = elim (put.only j g h) [
        | inl was ↦ elim (so_far.only j g was) [
          | inl before ↦ inl before
          | inr (is, among) ↦ inr (is, earlier j among)
        ]
        | inr (is, among) ↦ inr (is, later j among)
      ]

      led_on : (j : ℕ) → Contains put.more j → IsLed G ask nodes f j
      led_on j h =
          let a = put.added j h in
          let (m, at_m, l) = ends_are.sound j a.0 in
          let there : is_collapsed G ask m ≡ true = collapsed_from G ask nodes roles are_roles j m at_m a.1.collapsed in
          let way = so_far.led i member in
          let same : way.node ≡ n = some_same way.node n (sym way.at_node ∙ at_n) in
          record {
            first = way.first;
            node = m;
            at_first = way.at_first;
            at_node = at_m;
            walk = walk_on (passes G ask) (way.first ∷ []) n m (subst (Walk (passes G ask) (way.first ∷ [])) same way.walk) (passes_on n m this_collapsed there l);
          }

      closed_on : (p q j : ℕ) (a b : Node) → p < k + 1 → slice_get after p ≡ Some q → IsAt nodes q a → IsAt nodes j b → passes G ask a b ≡ true → Contains after j
      closed_on p q j a b low at_p at_a at_b e =
          let inside = slice_get_within members k i at in
          let same_get : slice_get after p ≡ slice_get members p = ap (λ l. slice_get l p) put.order ∙ get_left members put.more p (omega arith) in
          elim (cases_lt p k) [
            | inl less ↦ earlier j (so_far.closed p q j a b less (sym same_get ∙ at_p) at_a at_b e)
            | inr high ↦
                let last : p ≡ k = omega arith in
                let place : q ≡ i = some_same q i (sym at_p ∙ same_get ∙ ap (slice_get members) last ∙ at) in
                let node : a ≡ n = some_same a n (sym at_a ∙ ap (slice_get nodes) place ∙ at_n) in
                let on : passes G ask n b ≡ true = subst (λ x. passes G ask x b ≡ true) node e in
                let end = ends_are.whole j b at_b (both_true (is_collapsed G ask n && is_collapsed G ask b) _ on).1 in
                let w = put.whole j end (collapsed_role G ask nodes roles are_roles j b at_b (both_collapsed n b on).1) in
                elim (only_on j w.0 w.1) [
                  | inl was ↦ absurd (clash_free old i w.0 (so_far.was_free i member)
                      (closed j i w.0 b n was at_b at_n (passes_back n b (contains_at nodes i n at_n) (contains_at nodes j b at_b) on)))
                  | inr (is, among) ↦ among
                ]
          ]

      pub spread_on : IsSpread G ask nodes f old new after (k + 1)
      spread_on = record {
        count = put.count ∙ so_far.count;
        kept = kept_on;
        only = only_on;
        was_free = λ j h. elim (cases j h) [
          | inl before ↦ so_far.was_free j before
          | inr more ↦ free_before old mid so_far.count so_far.kept j (put.added j more).1.free
        ];
        coloured = λ j h. elim (cases j h) [
          | inl before ↦ put.kept j f (so_far.coloured j before)
          | inr more ↦ (put.added j more).2
        ];
        collapsed = λ j m h at_m. elim (cases j h) [
          | inl before ↦ so_far.collapsed j m before at_m
          | inr more ↦ collapsed_from G ask nodes roles are_roles j m at_m (put.added j more).1.collapsed
        ];
        led = λ j h. elim (cases j h) [
          | inl before ↦ so_far.led j before
          | inr more ↦ led_on j more
        ];
        once = subst EachOnce (sym put.order) (once_append members put.more so_far.once put.once (λ j h g. clash_free mid j f (put.added j g).1.free (so_far.coloured j h)));
        begun = earlier f so_far.begun;
        closed = closed_on;
      }

  -- ---- piece by piece

  pub coloured_none : (colours : List (Option ℕ)) → length colours ≡ length nodes → ((i f : ℕ) → HasColour colours i f → ⊥) → AreColoured G ask nodes colours 0
  coloured_none colours count none = record {
    count = count;
    below = λ i f h. absurd (none i f h);
    least = λ i f h. absurd (none i f h);
    own = λ i f h. absurd (none i f h);
    collapsed = λ i f n h. absurd (none i f h);
    led = λ i f h. absurd (none i f h);
    closed = λ i j g n m h. absurd (none i g h);
    whole = λ i n low. absurd (omega arith);
  }

  module _ (old : List (Option ℕ)) (k : ℕ) (so_far : AreColoured G ask nodes old k) where
    pub coloured_past : k < length nodes → (IsBlank roles old k → ⊥) → AreColoured G ask nodes old (k + 1)
    coloured_past below not_blank = record {
      count = so_far.count;
      below = λ i f h. (let low = so_far.below i f h in omega arith);
      least = so_far.least;
      own = so_far.own;
      collapsed = so_far.collapsed;
      led = so_far.led;
      closed = so_far.closed;
      whole = λ i n low at e. elim (cases_lt i k) [
        | inl less ↦ so_far.whole i n less at e
        | inr high ↦
            let here : k ≡ i = omega arith in
            subst (λ j. (f : ℕ) × HasColour old j f) here (go n (ap (slice_get nodes) here ∙ at) e here_is.0 here_is.1)
      ];
    }
      where
        here_is : (o : Option ℕ) × (slice_get old k ≡ Some o)
        here_is = some_at old k (let count = so_far.count in omega arith)

        go : (n : Node) → IsAt nodes k n → is_collapsed G ask n ≡ true → (o : Option ℕ) → slice_get old k ≡ Some o → (f : ℕ) × HasColour old k f
        go n at e None free = absurd (not_blank (record { collapsed = collapsed_role G ask nodes roles are_roles k n at e; free = free }))
        go n at e (Some f) has = (f, has)

    module _ (new : List (Option ℕ)) (members : List ℕ) (spread : IsSpread G ask nodes k old new members (length members)) where
      -- the first place is the least of its piece
      pub least_member : (i : ℕ) → Contains members i → k ≤ i
      least_member i h = elim (cases_lt i k) [
        | inl less ↦
            let way = spread.led i h in
            let w = so_far.whole i way.node less way.at_node (spread.collapsed i way.node h way.at_node) in
            absurd (clash_free old i w.0 (spread.was_free i h) w.1)
        | inr high ↦ high
      ]

      pub members_closed : (i j : ℕ) (n m : Node) → Contains members i → IsAt nodes i n → IsAt nodes j m → passes G ask n m ≡ true → Contains members j
      members_closed i j n m h at_n at_m e = spread.closed h.0 i j n m h.1 (slice_get-get_or members h.0 i h.1 ∙ ap Some h.2) at_n at_m e

      pub coloured_on : AreColoured G ask nodes new (k + 1)
      coloured_on = record {
        count = spread.count ∙ so_far.count;
        below = λ i f h. elim (spread.only i f h) [
          | inl was ↦ (let low = so_far.below i f was in omega arith)
          | inr (is, among) ↦ omega arith
        ];
        least = λ i f h. elim (spread.only i f h) [
          | inl was ↦ so_far.least i f was
          | inr (is, among) ↦ (let low = least_member i among in omega arith)
        ];
        own = λ i f h. elim (spread.only i f h) [
          | inl was ↦ spread.kept f f (so_far.own i f was)
          | inr (is, among) ↦ subst (λ g. HasColour new g g) (sym is) (spread.coloured k spread.begun)
        ];
        collapsed = λ i f n h at. elim (spread.only i f h) [
          | inl was ↦ so_far.collapsed i f n was at
          | inr (is, among) ↦ spread.collapsed i n among at
        ];
        led = λ i f h. elim (spread.only i f h) [
          | inl was ↦ so_far.led i f was
          | inr (is, among) ↦ subst (λ g. IsLed G ask nodes g i) (sym is) (spread.led i among)
        ];
        closed = λ i j g n m h at_n at_m e. elim (spread.only i g h) [
          | inl was ↦ spread.kept j g (so_far.closed i j g n m was at_n at_m e)
          | inr (is, among) ↦ subst (HasColour new j) (sym is) (spread.coloured j (members_closed i j n m among at_n at_m e))
        ];
        whole = λ i n low at e. elim (cases_lt i k) [
          | inl less ↦ let w = so_far.whole i n less at e in (w.0, spread.kept i w.0 w.1)
          | inr high ↦ (let here : k ≡ i = omega arith in (k, subst (λ j. HasColour new j k) here (spread.coloured k spread.begun)))
        ];
      }
