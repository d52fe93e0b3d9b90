-- Rows in range stay so under an edit for which no refusal is due.
use Rattle.std.proofs.Common.{◌≡◌, ℕ, ◌==◌, ℤ, Bool, true, false, not, List, [], map, All, Option, Some, None, if◌then◌else◌}
use Rattle.std.specs.Prelude.{option_and_then}
use Rattle.std.specs.Option.{option_map_or}
use Rattle.std.proofs.lemmas.List.Elements.{All-map, All-weaker, All-push, All-filter}
use Rattle.un_geom.specs.Places.{point_of, IsPlace}
use Rattle.un_schema.specs.declared.kind.Kind.{Kind}
use Rattle.un_schema.specs.Catalog.{kind_at, kind_named, place_of}
use Rattle.un_schema.specs.Sound.{IsCatalog}
use Rattle.un_defs.specs.declared.row.Flow.{Flow}
use Rattle.un_defs.specs.declared.row.Row.{Row}
use Rattle.un_defs.specs.declared.edit.Edit.{Edit}
use Rattle.un_defs.specs.declared.edit.Edit.TheVariants as edit
use Rattle.un_defs.specs.declared.refusal.Refusal.TheVariants as refusal
use Rattle.un_defs.specs.Refusing.{refused_if}
use Rattle.un_defs.specs.Features.{Features}
use Rattle.un_defs.specs.Change.{Setting, Next, changed, numbered, change_row, add_row, new_row, moved, of_kind, on_path}
use Rattle.un_defs.proofs.Locality.{by_option}
use Rattle.un_store.specs.Keyed.{row_with}
use Rattle.un_store.specs.Refusals.{refusal_of, no_kind, of_kind as kind_refusal, not_plain, bad_shape, bad_attribute, no_row, of_row}
use Rattle.un_store.proofs.Fitting.{none_refused}
use Rattle.un_feed_json.specs.Sound.{IsId}
use Rattle.un_feed_laws.specs.Ranges.{IsRowInRange}
use Rattle.un_feed_laws.proofs.Given.{points_in_range, attrs_named, attrs_in_range, terminals_in_range}

module _ (T : Setting) (catalog : IsCatalog T.catalog) (next : Next) (F : Features) (rows : All (IsRowInRange T.catalog) F.rows) where
  abbrev InRange : Row → Type 0
  InRange = IsRowInRange T.catalog

  abbrev HasRows : Features → Type 0
  HasRows G = All InRange G.rows

  either : (b : Bool) (change : Row → Row) (r : Row) → InRange r → InRange (change r) → InRange (if b then change r else r)
  either true change r old new = new
  either false change r old new = old

  -- a change of the row with an id
  row_changed : (id : ℕ) (change : Row → Row) → ((r : Row) → InRange r → InRange (change r)) → HasRows (change_row F id change)
  row_changed id change keeps =
      All-map InRange (λ r. if r.id == id then change r else r) F.rows
      (All-weaker InRange (λ r. InRange (if r.id == id then change r else r)) (λ r is. either (r.id == id) change r is (keeps r is)) F.rows rows)

  -- a row with other points, attributes or terminals
  with_points : (points : List (List ℤ)) → All IsPlace (map point_of points) → (r : Row) → InRange r → InRange (moved next points r)
  with_points points placed r is = record { id = is.id; terminals = is.terminals; attrs = is.attrs; named = is.named; placed = placed }

  with_attrs : (attrs : List (List ℕ × ℤ)) → bad_attribute T.catalog attrs ≡ None → (r : Row) → InRange r
      → InRange (record r { attrs = numbered T.catalog attrs; moment = next.moment })
  with_attrs attrs none r is = record {
    id = is.id;
    terminals = is.terminals;
    attrs = attrs_in_range T.catalog catalog attrs none;
    named = attrs_named T.catalog attrs;
    placed = is.placed;
  }

  with_kind : (k : ℕ) (r : Row) → InRange r → InRange (of_kind T.catalog next k r)
  with_kind k r is = record { id = is.id; terminals = terminals_in_range T.catalog catalog k; attrs = is.attrs; named = is.named; placed = is.placed }

  -- ---- inserts

  module _ (id : IsId next.feature) (points : List (List ℤ)) (attrs : List (List ℕ × ℤ)) (flow : Flow) (ends note : List ℕ)
      (good : bad_attribute T.catalog attrs ≡ None) where
    abbrev make : ℕ → Kind → Features
    make k kind = add_row F (new_row T.catalog next k kind points attrs flow ends note)

    made_of : (k : ℕ) (o : Option Kind) → option_and_then (λ kind. bad_shape kind.class points) o ≡ None → HasRows (option_map_or (make k) o F)
    made_of k None none = rows
    made_of k (Some kind) none = All-push InRange F.rows (new_row T.catalog next k kind points attrs flow ends note) rows (record {
      id = id;
      terminals = terminals_in_range T.catalog catalog k;
      attrs = attrs_in_range T.catalog catalog attrs good;
      named = attrs_named T.catalog attrs;
      placed = points_in_range kind.class points none;
    })

    inserted : (o : Option ℕ) → option_and_then (λ k. option_and_then (λ kind. bad_shape kind.class points) (kind_at T.catalog k)) o ≡ None
        → HasRows (option_map_or (λ k. option_map_or (make k) (kind_at T.catalog k) F) o F)
    inserted None none = rows
    inserted (Some k) none = made_of k (kind_at T.catalog k) none

  insert_in_range : (kind : List ℕ) (points : List (List ℤ)) (attrs : List (List ℕ × ℤ)) (flow : Flow) (ends note : List ℕ) → IsId next.feature
      → refusal_of T.catalog F.rows (edit.Insert kind points attrs flow ends note) ≡ None → HasRows (changed T next F (edit.Insert kind points attrs flow ends note))
  insert_in_range kind points attrs flow ends note id none =
      let behind_name = none_refused (no_kind T.catalog kind) _ none in
      let behind_plain = none_refused (kind_refusal T.catalog kind (λ k. not_plain k.class flow ends)) _ behind_name.1 in
      let shape = none_refused (kind_refusal T.catalog kind (λ k. bad_shape k.class points)) _ behind_plain.1 in
      let attributes = none_refused (bad_attribute T.catalog attrs) _ shape.1 in
      inserted id points attrs flow ends note attributes.0 (kind_named T.catalog kind) shape.0

  -- ---- other edits of rows

  -- the row is there, and its new shape is good
  shape_of_row : (id base : ℕ) (points : List (List ℤ)) → no_row F.rows id base ≡ None → of_row F.rows id (λ r. bad_shape r.class points) ≡ None → All IsPlace (map point_of points)
  shape_of_row id base points = go (row_with F.rows id)
    where
      go : (o : Option Row) → option_map_or (λ r. refused_if (not (r.moment == base)) (refusal.Moved r.moment)) o (Some (refusal.NoSuchFeature id)) ≡ None
          → option_and_then (λ r. bad_shape r.class points) o ≡ None → All IsPlace (map point_of points)
      go None there good = let none : Some (refusal.NoSuchFeature id) ≡ None = there in cc
      go (Some r) there good = points_in_range r.class points good

  pub rows_kept : (e : Edit) → IsId next.feature → refusal_of T.catalog F.rows e ≡ None → HasRows (changed T next F e)
  rows_kept (edit.Insert kind points attrs flow ends note) id none = insert_in_range kind points attrs flow ends note id none
  rows_kept (edit.Reshape key base points) id none =
      let behind_row = none_refused (no_row F.rows key base) _ none in
      let shape = none_refused (of_row F.rows key (λ r. bad_shape r.class points)) [] behind_row.1 in
      row_changed key (moved next points) (with_points points (shape_of_row key base points behind_row.0 shape.0))
  rows_kept (edit.Attrs key base attrs) id none =
      let behind_row = none_refused (no_row F.rows key base) _ none in
      let attributes = none_refused (bad_attribute T.catalog attrs) [] behind_row.1 in
      row_changed key (λ r. record r { attrs = numbered T.catalog attrs; moment = next.moment }) (with_attrs attrs attributes.0)
  rows_kept (edit.Kind key base kind) id none =
      by_option HasRows _ F (kind_named T.catalog kind) rows (λ k _. row_changed key (of_kind T.catalog next k) (with_kind k))
  rows_kept (edit.Path key base path) id none = row_changed key (on_path T.catalog next path)
      (λ r is. record { id = is.id; terminals = is.terminals; attrs = is.attrs; named = is.named; placed = is.placed })
  rows_kept (edit.Flow key base flow) id none = row_changed key (λ r. record r { flow = flow; moment = next.moment })
      (λ r is. record { id = is.id; terminals = is.terminals; attrs = is.attrs; named = is.named; placed = is.placed })
  rows_kept (edit.Ends key base ends) id none = row_changed key (λ r. record r { ends = ends; moment = next.moment })
      (λ r is. record { id = is.id; terminals = is.terminals; attrs = is.attrs; named = is.named; placed = is.placed })
  rows_kept (edit.Note key base note) id none = row_changed key (λ r. record r { note = note; moment = next.moment })
      (λ r is. record { id = is.id; terminals = is.terminals; attrs = is.attrs; named = is.named; placed = is.placed })
  rows_kept (edit.Delete key base) id none = All-filter (λ r. not (r.id == key)) InRange F.rows rows
  rows_kept (edit.Controller key terminal tier subnet) id none = by_option HasRows _ F (place_of tier T.tiers) rows (λ t _. rows)
  rows_kept _ id none = rows
