-- The marks of several sites in one list.
use Rattle.std.proofs.Common.{◌≡◌, ◌⊎◌, ℕ, zero, suc, ◌+◌, ◌-◌, ◌<◌, ◌≤◌, Bool, cond, nat_lt, List, [], ◌∷◌, ◌++◌, map, length, set, take, drop, get_or, slice_get, All, Option, Some, None, replicate, take_all, length-append, inl, inr, refl, sym, ap, subst, ◌∙◌, length-drop, arith}
use Rattle.std.specs.List.{position}
use Rattle.std.specs.Option.{option_map}
use Rattle.std.proofs.Math.Seq.{take-set-lt, drop-append_seam, map-set, map-set_same}
use Rattle.std.proofs.lemmas.List.{drop-set-lt, drop-set-add, take-set-le, drop-append-le, take-append-le, length-map, length-set, length-replicate, length-take-le, get_or-drop, get_or-map, get_or-take, drop-map, take-map}
use Rattle.std.proofs.lemmas.List.Elements.{All-nil, All-cons, All-head, All-tail, All-append, All-get_or, All-replicate}
use Rattle.std.proofs.lemmas.Option.{slice_get-map, slice_get-get_or}
use Rattle.un_defs.proofs.ListLemmas.{map-append}
use Rattle.un_defs.specs.declared.port.Port.{Port}
use Rattle.un_defs.specs.declared.star.Spot.{Spot}
use Rattle.un_defs.specs.Orders.{same_port}
use Rattle.un_walk.specs.declared.visits.Mark.{Mark}
use Rattle.un_walk.specs.declared.visits.Visit.{Visit}
use Rattle.un_walk.specs.Site.{star_of}
use Rattle.un_walk.specs.Visits.{Visited, count_of, place_of, port_of, unfound_in, ports_in, visited_of, ArePlaced, HasPorts, AreKept, IsOneMore, IsInside, IsPlaceAt, IsMarkedAt, WasMarkedAt}
use Rattle.un_walk.proofs.Marking.{position_map}

-- ---- a part of a list

part_away : (ms : List ℕ) (b c j m : ℕ) → (j < b) ⊎ (b + c ≤ j) → take c (drop b (set ms j m)) ≡ take c (drop b ms)
part_away ms b c j m away = elim away [
  | inl low ↦ ap (take c) (drop-set-lt b ms j m low)
  | inr high ↦ let far : b + (j - b) ≡ j = omega (arith, high) in
      ap (λ i. take c (drop b (set ms i m))) (sym far) ∙ ap (take c) (drop-set-add b ms (j - b) m) ∙ take-set-le c (drop b ms) (j - b) m (omega (arith, high))
]

part_set : (ms : List ℕ) (b c p m : ℕ) → p < c → take c (drop b (set ms (b + p) m)) ≡ set (take c (drop b ms)) p m
part_set ms b c p m l = ap (take c) (drop-set-add b ms p m) ∙ take-set-lt c (drop b ms) p m l

part_longer : {X : Type 0} (ms zs : List X) (b c : ℕ) → b + c ≤ length ms → take c (drop b (ms ++ zs)) ≡ take c (drop b ms)
part_longer ms zs b c l =
    ap (take c) (drop-append-le b ms zs (omega (arith, l))) ∙ take-append-le c (drop b ms) zs (omega (arith, l, length-drop b ms))

-- ---- where they stand

pub placed_end : (k : ℕ) (vs : List Visit) (n : ℕ) → ArePlaced k vs n → k ≤ n
placed_end k [] n h = h
placed_end k (v ∷ vs) n h = let rest = placed_end (v.begin + count_of v.site) vs n h.1 in omega (arith, h.0, rest)

pub placed_longer : (k : ℕ) (vs : List Visit) (m n : ℕ) → ArePlaced k vs m → m ≤ n → ArePlaced k vs n
placed_longer k [] m n h l = omega (arith, h, l)
placed_longer k (v ∷ vs) m n h l = (h.0, placed_longer (v.begin + count_of v.site) vs m n h.1 l)

pub placed_more : (k : ℕ) (vs : List Visit) (m n : ℕ) (v : Visit) → ArePlaced k vs m → v.begin ≡ m → m + count_of v.site ≤ n → ArePlaced k (vs ++ v ∷ []) n
placed_more k [] m n v h e l = (omega (arith, h, e), omega (arith, e, l))
placed_more k (w ∷ vs) m n v h e l = (h.0, placed_more (w.begin + count_of w.site) vs m n v h.1 e l)

pub placed_at : (k : ℕ) (vs : List Visit) (n i : ℕ) (v : Visit) → ArePlaced k vs n → slice_get vs i ≡ Some v → (k ≤ v.begin) × (v.begin + count_of v.site ≤ n)
placed_at k [] n i v h e = cc
placed_at k (w ∷ vs) n zero v h e =
    let same : w ≡ v = one_of e in
    subst (λ (x : Visit). (k ≤ x.begin) × (x.begin + count_of x.site ≤ n)) same (h.0, placed_end (w.begin + count_of w.site) vs n h.1)
  where
    one_of : {x y : Visit} → Some x ≡ Some y → x ≡ y
    one_of e = cc
placed_at k (w ∷ vs) n (suc i) v h e =
    let rest = placed_at (w.begin + count_of w.site) vs n i v h.1 e in
    (omega (arith, h.0, rest.0), rest.1)

-- ---- what is seen of them

pub seen_longer : (k : ℕ) (vs : List Visit) (ms zs : List ℕ) → ArePlaced k vs (length ms) → map (visited_of (ms ++ zs)) vs ≡ map (visited_of ms) vs
seen_longer k [] ms zs h = refl
seen_longer k (v ∷ vs) ms zs h = λ i.
    (record { site = v.site; marks = part_longer ms zs v.begin (count_of v.site) (placed_end (v.begin + count_of v.site) vs (length ms) h.1) i })
    ∷ seen_longer (v.begin + count_of v.site) vs ms zs h.1 i

pub seen_away : (k : ℕ) (vs : List Visit) (ms : List ℕ) (n j m : ℕ) → ArePlaced k vs n → j < k → map (visited_of (set ms j m)) vs ≡ map (visited_of ms) vs
seen_away k [] ms n j m h l = refl
seen_away k (v ∷ vs) ms n j m h l = λ i.
    (record { site = v.site; marks = part_away ms v.begin (count_of v.site) j m (inl (omega (arith, l, h.0))) i })
    ∷ seen_away (v.begin + count_of v.site) vs ms n j m h.1 (omega (arith, l, h.0)) i

pub seen_set : (k : ℕ) (vs : List Visit) (ms : List ℕ) (n i : ℕ) (v : Visit) → ArePlaced k vs n → slice_get vs i ≡ Some v → (p m : ℕ) → p < count_of v.site
    → map (visited_of (set ms (v.begin + p) m)) vs ≡ set (map (visited_of ms) vs) i (record { site = v.site; marks = set (take (count_of v.site) (drop v.begin ms)) p m })
seen_set k [] ms n i v h e p m l = cc
seen_set k (w ∷ vs) ms n zero v h e p m l =
    subst (λ (x : Visit). p < count_of x.site → map (visited_of (set ms (x.begin + p) m)) (w ∷ vs) ≡ (record { site = x.site; marks = set (take (count_of x.site) (drop x.begin ms)) p m }) ∷ map (visited_of ms) vs) (one_of e)
    (λ l i. (record { site = w.site; marks = part_set ms w.begin (count_of w.site) p m l i })
    ∷ seen_away (w.begin + count_of w.site) vs ms n (w.begin + p) m h.1 (omega (arith, l)) i) l
  where
    one_of : {x y : Visit} → Some x ≡ Some y → x ≡ y
    one_of e = cc
seen_set k (w ∷ vs) ms n (suc i) v h e p m l =
    let low = (placed_at (w.begin + count_of w.site) vs n i v h.1 e).0 in
    λ j. (record { site = w.site; marks = part_away ms w.begin (count_of w.site) (v.begin + p) m (inr (omega (arith, low))) j })
    ∷ seen_set (w.begin + count_of w.site) vs ms n i v h.1 e p m l j

-- ---- one site more

-- the places of marks that were not put, and their ports
places_unfound : (spots : List Spot) → map place_of (unfound_in spots) ≡ replicate (length spots) 0
places_unfound [] = refl
places_unfound (s ∷ spots) = ap (λ l. 0 ∷ l) (places_unfound spots)

ports_unfound : (spots : List Spot) → map port_of (unfound_in spots) ≡ ports_in spots
ports_unfound [] = refl
ports_unfound (s ∷ spots) = ap (λ l. s.port ∷ l) (ports_unfound spots)

pub one_more : (vs : List Visit) (ms : List Mark) (v : Visit) → AreKept vs ms → v.begin ≡ length ms
    → IsOneMore (map (visited_of (map place_of ms)) vs) (map (visited_of (map place_of (ms ++ unfound_in (star_of v.site).spots))) (vs ++ v ∷ [])) v.site
one_more vs ms v kept begin =
    let c : ℕ = count_of v.site in
    let zs : List ℕ = replicate c 0 in
    let old : List ℕ = map place_of ms in
    let new : List ℕ = map place_of (ms ++ unfound_in (star_of v.site).spots) in
    let is : new ≡ old ++ zs = map-append place_of ms (unfound_in (star_of v.site).spots) ∙ ap (λ l. old ++ l) (places_unfound (star_of v.site).spots) in
    let placed : ArePlaced 0 vs (length old) = subst (ArePlaced 0 vs) (sym (length-map ms place_of)) kept.placed in
    let last : Visited = visited_of new v in
    let marks : last.marks ≡ zs =
    ap (λ l. take c (drop v.begin l)) is ∙ ap (λ b. take c (drop b (old ++ zs))) (begin ∙ sym (length-map ms place_of)) ∙ ap (take c) (drop-append_seam old zs) ∙ take_all c zs (omega (arith, length-replicate {A = ℕ} c 0)) in
    record {
      last = last;
      is = map-append (visited_of new) vs (v ∷ []) ∙ ap (λ l. l ++ last ∷ []) (ap (λ l. map (visited_of l) vs) is ∙ seen_longer 0 vs old zs placed);
      site = refl;
      unmarked = record { count = ap length marks ∙ length-replicate {A = ℕ} c 0; none = subst (All (λ m. m ≡ 0)) (sym marks) (All-replicate (λ m. m ≡ 0) c 0 refl) };
    }

-- the marks of the sites before keep their ports
ports_longer : (k : ℕ) (vs : List Visit) (qs more : List Port) → ArePlaced k vs (length qs) → All (HasPorts qs) vs → All (HasPorts (qs ++ more)) vs
ports_longer k [] qs more placed has = All-nil (HasPorts (qs ++ more))
ports_longer k (v ∷ vs) qs more placed has =
    let first = All-head (HasPorts qs) v vs has in
    All-cons (HasPorts (qs ++ more)) v vs
    (record { end = first.end; ports = part_longer qs more v.begin (count_of v.site) (placed_end (v.begin + count_of v.site) vs (length qs) placed.1) ∙ first.ports })
    (ports_longer (v.begin + count_of v.site) vs qs more placed.1 (All-tail (HasPorts qs) v vs has))

pub kept_longer : (vs : List Visit) (ms more : List Mark) → AreKept vs ms → AreKept vs (ms ++ more)
kept_longer vs ms more kept = record {
  placed = placed_longer 0 vs (length ms) (length (ms ++ more)) kept.placed (omega (arith, length-append ms more));
  ports = subst (λ qs. All (HasPorts qs) vs) (sym (map-append port_of ms more))
      (ports_longer 0 vs (map port_of ms) (map port_of more) (subst (ArePlaced 0 vs) (sym (length-map ms port_of)) kept.placed) kept.ports);
}

pub kept_more : (vs : List Visit) (ms : List Mark) (v : Visit) → AreKept vs ms → v.begin ≡ length ms → v.end ≡ length (ms ++ unfound_in (star_of v.site).spots)
    → AreKept (vs ++ v ∷ []) (ms ++ unfound_in (star_of v.site).spots)
kept_more vs ms v kept begin end =
    let spots : List Spot = (star_of v.site).spots in
    let more : List Mark = unfound_in spots in
    let qs : List Port = map port_of ms in
    let long : length (ms ++ more) ≡ length ms + count_of v.site = length-append ms more ∙ ap (λ k. length ms + k) (length-map spots _) in
    let mine : take (count_of v.site) (drop v.begin (qs ++ ports_in spots)) ≡ ports_in spots =
    ap (λ b. take (count_of v.site) (drop b (qs ++ ports_in spots))) (begin ∙ sym (length-map ms port_of)) ∙ ap (take (count_of v.site)) (drop-append_seam qs (ports_in spots))
    ∙ take_all (count_of v.site) (ports_in spots) (omega (arith, length-map spots (λ (s : Spot). s.port))) in
    let all : map port_of (ms ++ more) ≡ qs ++ ports_in spots = map-append port_of ms more ∙ ap (λ l. qs ++ l) (ports_unfound spots) in
    record {
      placed = placed_more 0 vs (length ms) (length (ms ++ more)) v kept.placed begin (omega (arith, long));
      ports = All-append (HasPorts (map port_of (ms ++ more))) vs (v ∷ []) (kept_longer vs ms more kept).ports
          (All-cons (HasPorts (map port_of (ms ++ more))) v []
          (record { end = omega (arith, end, begin, long); ports = subst (λ l. take (count_of v.site) (drop v.begin l) ≡ ports_in spots) (sym all) mine })
          (All-nil (HasPorts (map port_of (ms ++ more)))));
    }

-- a mark of the same port in place of another
pub kept_set : (vs : List Visit) (ms : List Mark) (i : ℕ) (m d : Mark) → AreKept vs ms → port_of m ≡ port_of (get_or ms i d) → AreKept vs (set ms i m)
kept_set vs ms i m d kept same = record {
  placed = subst (ArePlaced 0 vs) (sym (length-set ms i m)) kept.placed;
  ports = subst (λ qs. All (HasPorts qs) vs) (sym (map-set_same port_of ms i m d same)) kept.ports;
}

-- as many sites are seen as there are
pub seen_within : (vs : List Visit) (ms : List ℕ) (seen : List Visited) (number : ℕ) → map (visited_of ms) vs ≡ seen → number < length seen → number < length vs
seen_within vs ms seen number is l = omega (arith, l, ap length is, length-map vs (visited_of ms))

-- the site that stands at a number
pub seen_at : (vs : List Visit) (ms : List ℕ) (number : ℕ) (v : Visit) → number < length vs → v ≡ get_or vs number v → slice_get (map (visited_of ms) vs) number ≡ Some (visited_of ms v)
seen_at vs ms number v l e =
    slice_get-map (visited_of ms) vs number ∙ ap (option_map (visited_of ms)) (slice_get-get_or vs number v l ∙ ap (λ (x : Visit). Some x) (sym e))

-- ---- the place of a port at the site with a number

position_mapped : {X Y : Type 0} (f : X → Y) (p : Y → Bool) (xs : List X) → position p (map f xs) ≡ position (λ x. p (f x)) xs
position_mapped f p xs = λ i. cond (nat_lt (position_map f p xs i) (length-map xs f i)) (Some (position_map f p xs i)) None

module _ (vs : List Visit) (ms : List Mark) (seen : List Visited) (number : ℕ) (v : Visit)
    (is : map (visited_of (map place_of ms)) vs ≡ seen) (kept : AreKept vs ms) (within : number < length vs) (here : v ≡ get_or vs number v) where
  stands_at : slice_get vs number ≡ Some v
  stands_at = slice_get-get_or vs number v within ∙ ap (λ (x : Visit). Some x) (sym here)

  has : HasPorts (map port_of ms) v
  has = subst (HasPorts (map port_of ms)) (sym here) (All-get_or (HasPorts (map port_of ms)) vs number v within kept.ports)

  -- its marks end within the list
  pub ends_within : (v.begin ≤ v.end) × (v.end ≤ length ms)
  ends_within = let room = (placed_at 0 vs (length ms) number v kept.placed stands_at).1 in (omega (arith, has.end), omega (arith, has.end, room))

  pub placed_there : (q : Port) (place : Option ℕ) → place ≡ position (λ m. same_port (port_of m) q) (take (v.end - v.begin) (drop v.begin ms)) → IsPlaceAt seen number q place
  placed_there q place e =
      let count : v.end - v.begin ≡ count_of v.site = omega (arith, has.end) in
      let ports : map port_of (take (v.end - v.begin) (drop v.begin ms)) ≡ ports_in (star_of v.site).spots =
      sym (take-map port_of (v.end - v.begin) (drop v.begin ms)) ∙ ap (take (v.end - v.begin)) (sym (drop-map port_of v.begin ms)) ∙ ap (λ c. take c (drop v.begin (map port_of ms))) count ∙ has.ports in (
        visited_of (map place_of ms) v,
        subst (λ (l : List Visited). slice_get l number ≡ Some (visited_of (map place_of ms) v)) is (seen_at vs (map place_of ms) number v within here),
        e ∙ sym (position_mapped port_of (λ (r : Port). same_port r q) (take (v.end - v.begin) (drop v.begin ms))) ∙ ap (position (λ (r : Port). same_port r q)) ports
            ∙ position_mapped (λ (s : Spot). s.port) (λ (r : Port). same_port r q) (star_of v.site).spots,
      )

-- ---- a mark at a place of the site with a number

module _ (vs : List Visit) (marks : List Mark) (seen : List Visited) (number place : ℕ) (v : Visit)
    (is : map (visited_of (map place_of marks)) vs ≡ seen) (kept : AreKept vs marks) (within : number < length vs) (here : v ≡ get_or vs number v) (inside : IsInside seen number place) where
  abbrev ms : List ℕ
  ms = map place_of marks

  abbrev count : ℕ
  count = count_of v.site

  placed : ArePlaced 0 vs (length ms)
  placed = subst (ArePlaced 0 vs) (sym (length-map marks place_of)) kept.placed

  stands : slice_get vs number ≡ Some v
  stands = slice_get-get_or vs number v within ∙ ap (λ (x : Visit). Some x) (sym here)

  at : slice_get seen number ≡ Some (visited_of ms v)
  at = subst (λ (l : List Visited). slice_get l number ≡ Some (visited_of ms v)) is (seen_at vs ms number v within here)

  room : v.begin + count ≤ length ms
  room = (placed_at 0 vs (length ms) number v placed stands).1

  whole : length (take count (drop v.begin ms)) ≡ count
  whole = length-take-le count (drop v.begin ms) (omega (arith, room, length-drop v.begin ms))

  low : place < count
  low =
      let same : inside.0 ≡ visited_of ms v = one_of (sym inside.1 ∙ at) in
      omega (arith, inside.2, ap (λ (x : Visited). length x.marks) same, whole)
    where
      one_of : {x y : Visited} → Some x ≡ Some y → x ≡ y
      one_of e = cc

  -- the mark stands within the list
  pub mark_within : v.begin + place < length marks
  mark_within = omega (arith, low, room, length-map marks place_of)

  read : (old : Mark) → old ≡ get_or marks (v.begin + place) old → get_or (take count (drop v.begin ms)) place 0 ≡ old.place
  read old e =
      get_or-take count (drop v.begin ms) place 0 low ∙ get_or-drop v.begin ms place 0
      ∙ get_or-map place_of marks (v.begin + place) old 0 mark_within ∙ ap place_of (sym e)

  pub put_new : (mark : ℕ) (old new : Mark) → old ≡ get_or marks (v.begin + place) old → old.place ≡ 0 → new.place ≡ mark
      → IsMarkedAt seen (map (visited_of (map place_of (set marks (v.begin + place) new))) vs) number place mark
  put_new mark old new e off puts = subst (λ l. IsMarkedAt seen (map (visited_of l) vs) number place mark)
      (sym (map-set place_of marks (v.begin + place) new ∙ ap (set ms (v.begin + place)) puts)) (record {
        before = visited_of ms v;
        after = record { site = v.site; marks = set (take count (drop v.begin ms)) place mark };
        at = at;
        is = seen_set 0 vs ms (length ms) number v placed stands place mark low ∙ ap (λ l. set l number (record { site = v.site; marks = set (take count (drop v.begin ms)) place mark })) is;
        site = refl;
        marks = refl;
        off = read old e ∙ off;
      })

  pub put_old : (old : Mark) → old ≡ get_or marks (v.begin + place) old → WasMarkedAt seen number place old.place
  put_old old e = (visited_of ms v, at, read old e)
