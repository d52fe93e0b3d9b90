-- The orders that code compares by are those of the definitions.
use Rattle.std.proofs.Common.{◌≡◌, Ordering, Less, Equal, Greater, nat_cmp, List, [], ◌∷◌, map, refl, ap, ◌∙◌, rules}
use Rattle.std.specs.Ordering.{ordering_then, match_ordering}
use Rattle.std.specs.BTreeSet.{insert_key}
use Rattle.un_defs.specs.declared.star.TopoError.{TopoError}
use Rattle.un_defs.specs.declared.star.ErrorKind.{ErrorKind}
use Rattle.un_defs.specs.declared.star.ErrorKind.TheVariants.{Stacked, MissingJunction, NoRule, BadTerminal, MidspanTerminal, AssociationRule}
use Rattle.un_defs.specs.declared.link.Tie.{Tie}
use Rattle.un_defs.specs.contracts.star.TopoErrorOrd.TheImpl as error_order
use Rattle.un_defs.specs.contracts.star.ErrorKindOrd.TheImpl as kind_order
use Rattle.un_star.specs.contracts.order.ByNameOrd.TheImpl as name_order
use Rattle.un_defs.specs.contracts.link.LinkNameOrd.TheImpl as link_order
use Rattle.un_defs.specs.Orders.{rising, tie_cmp, error_cmp, error_rank}
use Rattle.un_star.specs.Named.{named}

pub rising-alike : {A : Type 0} (f g : A → A → Ordering) → ((x y : A) → f x y ≡ g x y) → (xs : List A) → rising f xs ≡ rising g xs
rising-alike f g same xs = ap (λ cmp. rising cmp xs) (λ i x y. same x y i)

-- sorting by what a map gives
module _ {A B : Type 0} (f : A → B) (on_a : A → A → Ordering) (on_b : B → B → Ordering) (same : (x y : A) → on_b (f x) (f y) ≡ on_a x y) where
  map-insert_key : (ys : List A) (k : A) → insert_key on_b (map f ys) (f k) ≡ map f (insert_key on_a ys k)
  map-insert_key [] k = refl
  map-insert_key (y ∷ ys) k =
      (λ i. match_ordering (same k y i) (f k ∷ f y ∷ map f ys) (f y ∷ map f ys) (f y ∷ map-insert_key ys k i))
      ∙ by_order (on_a k y)
    where
      by_order : (o : Ordering) → match_ordering o (f k ∷ f y ∷ map f ys) (f y ∷ map f ys) (f y ∷ map f (insert_key on_a ys k)) ≡ map f (match_ordering o (k ∷ y ∷ ys) (y ∷ ys) (y ∷ insert_key on_a ys k))
      by_order Less = refl
      by_order Equal = refl
      by_order Greater = refl

  pub rising-map : (xs : List A) → rising on_b (map f xs) ≡ map f (rising on_a xs)
  rising-map [] = refl
  rising-map (x ∷ xs) = ap (λ l. insert_key on_b l (f x)) (rising-map xs) ∙ map-insert_key (rising on_a xs) x

-- ---- errors

kinds_alike : (k l : ErrorKind) → kind_order.ghosts.cmp k l ≡ nat_cmp (error_rank k) (error_rank l)
kinds_alike Stacked Stacked = refl
kinds_alike Stacked MissingJunction = refl
kinds_alike Stacked NoRule = refl
kinds_alike Stacked BadTerminal = refl
kinds_alike Stacked MidspanTerminal = refl
kinds_alike Stacked AssociationRule = refl
kinds_alike MissingJunction Stacked = refl
kinds_alike MissingJunction MissingJunction = refl
kinds_alike MissingJunction NoRule = refl
kinds_alike MissingJunction BadTerminal = refl
kinds_alike MissingJunction MidspanTerminal = refl
kinds_alike MissingJunction AssociationRule = refl
kinds_alike NoRule Stacked = refl
kinds_alike NoRule MissingJunction = refl
kinds_alike NoRule NoRule = refl
kinds_alike NoRule BadTerminal = refl
kinds_alike NoRule MidspanTerminal = refl
kinds_alike NoRule AssociationRule = refl
kinds_alike BadTerminal Stacked = refl
kinds_alike BadTerminal MissingJunction = refl
kinds_alike BadTerminal NoRule = refl
kinds_alike BadTerminal BadTerminal = refl
kinds_alike BadTerminal MidspanTerminal = refl
kinds_alike BadTerminal AssociationRule = refl
kinds_alike MidspanTerminal Stacked = refl
kinds_alike MidspanTerminal MissingJunction = refl
kinds_alike MidspanTerminal NoRule = refl
kinds_alike MidspanTerminal BadTerminal = refl
kinds_alike MidspanTerminal MidspanTerminal = refl
kinds_alike MidspanTerminal AssociationRule = refl
kinds_alike AssociationRule Stacked = refl
kinds_alike AssociationRule MissingJunction = refl
kinds_alike AssociationRule NoRule = refl
kinds_alike AssociationRule BadTerminal = refl
kinds_alike AssociationRule MidspanTerminal = refl
kinds_alike AssociationRule AssociationRule = refl

at_end : (k : Ordering) → k ≡ ordering_then k Equal
at_end Less = refl
at_end Equal = refl
at_end Greater = refl

pub errors_alike : (e f : TopoError) → error_order.ghosts.cmp e f ≡ error_cmp e f
errors_alike e f = λ i. ordering_then (kinds_alike e.kind f.kind i) (ordering_then (nat_cmp e.feature f.feature) (ordering_then (nat_cmp e.number f.number) (at_end (nat_cmp e.assoc f.assoc) i)))

-- ---- links by name

pub ties_alike : (s t : Tie) → name_order.ghosts.cmp (named s) (named t) ≡ tie_cmp s t
ties_alike s t = search rules

pub names_alike : (s t : Tie) → link_order.ghosts.cmp s.name t.name ≡ tie_cmp s t
names_alike s t = search rules

pub rising_by_name : (ts : List Tie) → map (λ b. b.tie) (rising name_order.ghosts.cmp (map named ts)) ≡ rising tie_cmp ts
rising_by_name ts = ap (map (λ b. b.tie)) (rising-map named tie_cmp name_order.ghosts.cmp ties_alike ts) ∙ back (rising tie_cmp ts)
  where
    back : (ts : List Tie) → map (λ b. b.tie) (map named ts) ≡ ts
    back [] = refl
    back (t ∷ ts) = ap (λ l. t ∷ l) (back ts)
