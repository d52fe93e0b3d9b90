-- Lists that grow by what one more point or element gives.
use Rattle.std.proofs.Common.{◌≡◌, ℕ, ◌+◌, ◌<◌, Bool, true, false, not, map, List, [], ◌∷◌, ◌++◌, filter, filter_map, flat_map, take, get_or, length, refl, sym, ap, ◌∙◌, append_assoc, Option, if◌then◌else◌}
use Rattle.std.specs.List.{cons_option}
use Rattle.std.proofs.lemmas.List.{take_more, append-nil}
use Rattle.std.proofs.lemmas.List.Elements.{filter-append, filter_map-append}
use Rattle.std.proofs.lemmas.Grind.{flat_map-append}
use Rattle.un_geom.specs.declared.point.Point.{Point}
use Rattle.un_defs.specs.declared.assoc.Controller.{Controller}
use Rattle.un_defs.specs.declared.star.Star.{Star}
use Rattle.un_defs.specs.Features.{Features}
use Rattle.un_defs.specs.Links.{node_at}
use Rattle.un_defs.specs.SameStar.{same_star}
use Rattle.un_subnet.specs.Changes.{Changed, is_changed, controllers_at, gathered_at, with_changed, with_point}

module _ (before after : Point → Star) where
  abbrev among : List Point → Changed
  among points = record { points = points; controllers = flat_map (controllers_at before after) points }

  -- a point that has changed goes to the end
  one_more : (ps : List Point) (p : Point) → with_changed (among ps) p (before p) (after p) ≡ among (ps ++ p ∷ [])
  one_more ps p = λ i. record {
    points = ps ++ p ∷ [];
    controllers = (ap (λ cs. flat_map (controllers_at before after) ps ++ cs) (sym (append-nil (controllers_at before after p)))
        ∙ sym (flat_map-append (controllers_at before after) ps (p ∷ []))) i;
  }

  with_next : (ps : List Point) (p : Point) → with_point (gathered_at before after ps) p (before p) (after p) ≡ gathered_at before after (ps ++ p ∷ [])
  with_next ps p =
      go (filter (is_changed before after) ps) (same_star (before p) (after p)) ∙ ap among (sym (filter-append (is_changed before after) ps (p ∷ [])))
    where
      go : (kept : List Point) (b : Bool)
          → (if b then among kept else with_changed (among kept) p (before p) (after p)) ≡ among (kept ++ (if not b then p ∷ [] else []))
      go kept true = ap among (sym (append-nil kept))
      go kept false = one_more kept p

  -- the changes at the points up to the next one
  pub point_more : (points : List Point) (i : ℕ) (d : Point) → i < length points
      → with_point (gathered_at before after (take i points)) (get_or points i d) (before (get_or points i d)) (after (get_or points i d)) ≡ gathered_at before after (take (i + 1) points)
  point_more points i d l = with_next (take i points) (get_or points i d) ∙ ap (gathered_at before after) (sym (take_more points i d l))

-- what the elements up to the next one give, after what was there
pub one_gathered : {A B : Type 0} (f : A → Option B) (xs : List A) (i : ℕ) (x : A) (found old : List B) (o : Option B) → i < length xs
    → found ≡ old ++ filter_map f (take i xs) → f (get_or xs i x) ≡ o → found ++ cons_option o [] ≡ old ++ filter_map f (take (i + 1) xs)
one_gathered f xs i x found old o l is has =
    let here : cons_option (f (get_or xs i x)) [] ≡ cons_option o [] = ap (λ o. cons_option o []) has in
    let more : filter_map f (take (i + 1) xs) ≡ filter_map f (take i xs) ++ cons_option o [] =
    ap (filter_map f) (take_more xs i x l) ∙ filter_map-append f (take i xs) (get_or xs i x ∷ []) ∙ ap (λ l. filter_map f (take i xs) ++ l) here in
    ap (λ l. l ++ cons_option o []) is ∙ append_assoc old (filter_map f (take i xs)) (cons_option o []) ∙ ap (λ l. old ++ l) (sym more)

-- the nodes of the controllers' ports
pub nodes_by_port : (F : Features) (cs : List Controller) → filter_map (node_at F) (map (λ c. c.port) cs) ≡ filter_map (λ c. node_at F c.port) cs
nodes_by_port F [] = refl
nodes_by_port F (c ∷ cs) = ap (cons_option (node_at F c.port)) (nodes_by_port F cs)
