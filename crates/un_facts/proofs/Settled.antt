-- The notes and moments of rows change nothing of what holds of features.
use Rattle.std.proofs.Common.{◌≡◌, ℕ, ◌<◌, ◌==◌, true, false, List, [], ◌∷◌, ◌++◌, map, filter, flat_map, Option, Some, None, IsSomeAnd, IsSome, IsTrue, refl, sym, ap, ◌∙◌, subst, if◌then◌else◌}
use Rattle.std.specs.List.{list_any}
use Rattle.std.specs.Option.{option_map}
use Rattle.std.proofs.lemmas.List.Elements.{All-map, All-weaker}
use Rattle.un_geom.specs.declared.point.Point.{Point}
use Rattle.un_schema.specs.Catalog.{Catalog}
use Rattle.un_defs.specs.declared.port.Port.{Port}
use Rattle.un_defs.specs.declared.row.Row.{Row}
use Rattle.un_defs.specs.declared.assoc.Assoc.{Assoc}
use Rattle.un_defs.specs.Features.{Features, row, is_joint}
use Rattle.un_defs.specs.Change.{Next}
use Rattle.un_defs.specs.Star.{star}
use Rattle.un_defs.specs.Orders.{rising, port_cmp}
use Rattle.un_defs.specs.Ports.{nodes_of}
use Rattle.un_defs.specs.Sound.{IsSound, FitsKind, HasEnds, IsLive, IsLiveJoint}
use Rattle.un_defs.specs.Laws.{AreNew}
use Rattle.un_defs.proofs.ListLemmas.{find-map, find-agree, map-map}
use Rattle.un_defs.proofs.Plain.{plain}
use Rattle.un_defs.proofs.Near.{stands}
use Rattle.un_defs.proofs.Touch.{same}
use Rattle.un_defs.proofs.RowEdits.{LooksAlike, same_by_alike}
use Rattle.un_defs.proofs.RowStars.{mapped_ids, star_by_rows}
use Rattle.un_store.specs.Edits.{at_moment, settled}
use Rattle.un_grid.specs.Grids.{IsGridOf, standing}
use Rattle.un_facts.specs.Known.{Known, settled_at}
use Rattle.un_facts.specs.Attributes.{HasAttributes, HaveAttributes}
use Rattle.un_facts.specs.Standing.{IsKnown}

-- a row without its note and moment fits a kind as the row does
bare_fits : (S : Catalog) (r : Row) → FitsKind S r → FitsKind S (plain r)
bare_fits S r h = record { class = h.class; terminals = h.terminals; terminal = h.terminal; path = h.path; enough = h.enough; few = h.few }

noted_fits : (S : Catalog) (r : Row) → FitsKind S (plain r) → FitsKind S r
noted_fits S r h = record { class = h.class; terminals = h.terminals; terminal = h.terminal; path = h.path; enough = h.enough; few = h.few }

-- what is found is as it was
through : (P : Row → Type 0) (h : Row → Row) → ((r : Row) → P r → P (h r)) → (o : Option Row) → IsSomeAnd o P → IsSomeAnd (option_map h o) P
through P h keeps None is = is
through P h keeps (Some r) is = keeps r is

some_through : (h : Row → Row) (o : Option Row) → IsSome o → IsSome (option_map h o)
some_through h None is = is
some_through h (Some r) is = refl

-- ---- rows of which no more than the notes and moments change

module _ (S : Catalog) (F : Features) (h : Row → Row) (plainly : (r : Row) → plain (h r) ≡ plain r) where
  abbrev others : Features
  others = record F { rows = map h F.rows }

  alike : (r : Row) → LooksAlike r (h r)
  alike r = record {
    id = sym (ap (λ r. r.id) (plainly r));
    kind = sym (ap (λ r. r.kind) (plainly r));
    class = sym (ap (λ r. r.class) (plainly r));
    terminals = sym (ap (λ r. r.terminals) (plainly r));
    shape = sym (ap (λ r. r.shape) (plainly r));
  }

  row_of : (e : ℕ) → row others e ≡ option_map h (row F e)
  row_of e = find-map h (λ r. r.id == e) F.rows ∙ ap (option_map h) (find-agree _ _ F.rows (λ r _. ap (λ n. n == e) (sym (alike r).id)))

  pub plainly_star : IsSound S F → (p : Point) → star S F p ≡ star S others p
  plainly_star sound p = star_by_rows S F (map h F.rows) p sound.rows
      (mapped_ids F h (λ r. sym (alike r).id) sound.rows)
      (ap (filter (stands p)) (sym (map-map h plain F.rows ∙ (λ i. map (λ r. plainly r i) F.rows))))
      (λ a _. same (same_by_alike F (map h F.rows) p a h alike row_of))

  live : (e : ℕ) → IsLive F e → IsLive others e
  live e is = subst IsSome (sym (row_of e)) (some_through h (row F e) is)

  joint : (e : ℕ) → IsLiveJoint F e → IsLiveJoint others e
  joint e is = subst (λ o. IsSomeAnd o (λ r. IsTrue (is_joint r.class))) (sym (row_of e))
      (through (λ r. IsTrue (is_joint r.class)) h (λ r j. subst (λ c. IsTrue (is_joint c)) (alike r).class j) (row F e) is)

  ends : (a : Assoc) → HasEnds F a → HasEnds others a
  ends a is = record {
    from = live a.from.feature is.from;
    to = live a.to.feature is.to;
    apart = is.apart;
    joints = λ c. (joint a.from.feature (is.joints c).0, joint a.to.feature (is.joints c).1);
  }

  pub plainly_sound : IsSound S F → IsSound S others
  plainly_sound sound = record {
    rows = mapped_ids F h (λ r. sym (alike r).id) sound.rows;
    associations = sound.associations;
    controllers = sound.controllers;
    kinds = All-map (FitsKind S) h F.rows (All-weaker (FitsKind S) (λ r. FitsKind S (h r))
        (λ r fits. noted_fits S (h r) (subst (FitsKind S) (sym (plainly r)) (bare_fits S r fits))) F.rows sound.kinds);
    ends = All-weaker (HasEnds F) (HasEnds others) ends F.associations sound.ends;
    controlled = All-weaker (λ c. IsLiveJoint F c.port.feature) (λ c. IsLiveJoint others c.port.feature) (λ c is. joint c.port.feature is) F.controllers sound.controlled;
  }

  pub plainly_new : (next : Next) → AreNew next F → AreNew next others
  plainly_new next new = record {
    feature = All-map (λ r. r.id < next.feature) h F.rows
        (All-weaker (λ r. r.id < next.feature) (λ r. (h r).id < next.feature) (λ r l. subst (λ n. n < next.feature) (alike r).id l) F.rows new.feature);
    association = new.association;
  }

-- ---- moments

abbrev settle : ℕ → List ℕ → Row → Row
settle moment ids r = if list_any (λ id. id == r.id) ids then at_moment moment r else r

settle_plainly : (moment : ℕ) (ids : List ℕ) (r : Row) → plain (settle moment ids r) ≡ plain r
settle_plainly moment ids r = elim (list_any (λ id. id == r.id) ids) as (λ b. plain (if b then at_moment moment r else r) ≡ plain r) [ true ↦ refl | false ↦ refl ]

-- the features once the rows with these ids have the moment
abbrev later : ℕ → List ℕ → Features → Features
later moment ids F = record F { rows = settled ids moment F.rows }

-- whichever rows have another moment, the features stay sound, and each star stays as it is
pub settled_sound : (S : Catalog) (F : Features) (moment : ℕ) (ids : List ℕ) → IsSound S F → IsSound S (later moment ids F)
settled_sound S F moment ids = plainly_sound S F (settle moment ids) (settle_plainly moment ids)

pub settled_star : (S : Catalog) (F : Features) (moment : ℕ) (ids : List ℕ) → IsSound S F → (p : Point) → star S F p ≡ star S (later moment ids F) p
settled_star S F moment ids = plainly_star S F (settle moment ids) (settle_plainly moment ids)

pub settled_new : (S : Catalog) (F : Features) (moment : ℕ) (ids : List ℕ) (next : Next) → AreNew next F → AreNew next (later moment ids F)
settled_new S F moment ids = plainly_new S F (settle moment ids) (settle_plainly moment ids)

-- the ports stand where they stood
settled_nodes : (moment : ℕ) (ids : List ℕ) (rows : List Row) → flat_map nodes_of rows ≡ flat_map nodes_of (settled ids moment rows)
settled_nodes moment ids [] = refl
settled_nodes moment ids (r ∷ rows) = λ i. one i ++ settled_nodes moment ids rows i
  where
    one : nodes_of r ≡ nodes_of (settle moment ids r)
    one = elim (list_any (λ id. id == r.id) ids) as (λ b. nodes_of r ≡ nodes_of (if b then at_moment moment r else r)) [ true ↦ refl | false ↦ refl ]

pub settled_grid : (grid : List (Point × List Port)) (F : Features) (moment : ℕ) (ids : List ℕ) → IsGridOf grid F → IsGridOf grid (later moment ids F)
settled_grid grid F moment ids is p = is p ∙ ap (λ nodes. rising port_cmp (standing nodes p)) (settled_nodes moment ids F.rows)

-- each attribute has its name
pub settled_has : (S : Catalog) (rows : List Row) (moment : ℕ) (ids : List ℕ) → HaveAttributes S rows → HaveAttributes S (settled ids moment rows)
settled_has S rows moment ids have = All-map (λ r. HasAttributes S r.attrs) (settle moment ids) rows
    (All-weaker (λ r. HasAttributes S r.attrs) (λ r. HasAttributes S (settle moment ids r).attrs) one rows have)
  where
    one : (r : Row) → HasAttributes S r.attrs → HasAttributes S (settle moment ids r).attrs
    one r has = elim (list_any (λ id. id == r.id) ids) as (λ b. HasAttributes S (if b then at_moment moment r else r).attrs) [ true ↦ has | false ↦ has ]

pub settled_known : (K : Known) (ids : List ℕ) (moment : ℕ) → IsKnown K → IsKnown (settled_at K ids moment)
settled_known K ids moment is = record {
  sound = settled_sound K.setup.schema K.features moment ids is.sound;
  attributes = settled_has K.setup.schema K.features.rows moment ids is.attributes;
}
