-- The ids that come next are new after an edit too.
use Rattle.std.proofs.Common.{◌≡◌, ℕ, ◌+◌, ◌<◌, ◌==◌, not, List, [], ◌∷◌, ◌++◌, refl, sym, subst, All, arith}
use Rattle.std.proofs.lemmas.List.Elements.{All-filter, All-weaker, All-push, All-map}
use Rattle.un_schema.specs.Catalog.{kind_at, kind_named, place_of}
use Rattle.un_defs.specs.declared.row.Row.{Row}
use Rattle.un_defs.specs.declared.assoc.Assoc.{Assoc}
use Rattle.un_defs.specs.declared.edit.Edit.{Edit}
use Rattle.un_defs.specs.declared.edit.Edit.TheVariants as edit
use Rattle.un_defs.specs.Features.{Features}
use Rattle.un_defs.specs.Change.{Setting, Next, changed, after, change_row, new_row, moved, of_kind, on_path, numbered}
use Rattle.un_defs.specs.Laws.{AreNew}
use Rattle.un_defs.proofs.RowEdits.{touch, touch_keeps}
use Rattle.un_defs.proofs.Locality.{by_option}

abbrev AreRows : ℕ → List Row → Type 0
AreRows n = All (λ r. r.id < n)

abbrev AreAssociations : ℕ → List Assoc → Type 0
AreAssociations n = All (λ a. a.id < n)

more_rows : (n : ℕ) (rows : List Row) → AreRows n rows → AreRows (n + 1) rows
more_rows n = All-weaker (λ r. r.id < n) (λ r. r.id < n + 1) (λ r l. omega (arith, l))

more_associations : (n : ℕ) (list : List Assoc) → AreAssociations n list → AreAssociations (n + 1) list
more_associations n = All-weaker (λ a. a.id < n) (λ a. a.id < n + 1) (λ a l. omega (arith, l))

changed_rows : (n id : ℕ) (f : Row → Row) (F : Features) → ((r : Row) → (f r).id ≡ r.id) → AreRows n F.rows → AreRows n (change_row F id f).rows
changed_rows n id f F keeps new =
    All-map (λ r. r.id < n) (touch id f) F.rows
    (All-weaker (λ r. r.id < n) (λ r. (touch id f r).id < n) (λ r l. subst (λ k. k < n) (sym (touch_keeps (λ r. r.id) id f r (keeps r))) l) F.rows new)

change_new : (next : Next) (F : Features) (id : ℕ) (f : Row → Row) → ((r : Row) → (f r).id ≡ r.id) → AreNew next F → AreNew next (change_row F id f)
change_new next F id f keeps new = record { feature = changed_rows next.feature id f F keeps new.feature; association = new.association }

one_more : (next : Next) (F : Features) → AreNew next F → AreNew (record next { feature = next.feature + 1 }) F
one_more next F new = record { feature = more_rows next.feature F.rows new.feature; association = new.association }

associated_new : (next : Next) (F : Features) (a : Assoc) → a.id ≡ next.association → AreNew next F → AreNew (record next { association = next.association + 1 }) (record F { associations = F.associations ++ a ∷ [] })
associated_new next F a is new = record {
  feature = new.feature;
  association = All-push (λ a. a.id < next.association + 1) F.associations a (more_associations next.association F.associations new.association) (omega (arith, is));
}

-- the ids after an edit are over all that there are
pub new_after : (T : Setting) (next : Next) (F : Features) (e : Edit) → AreNew next F → AreNew (after next e) (changed T next F e)
new_after T next F (edit.Insert kind points attrs flow ends note) new =
    by_option (AreNew (record next { feature = next.feature + 1 })) _ F (kind_named T.catalog kind) (one_more next F new) (λ k named.
    by_option (AreNew (record next { feature = next.feature + 1 })) _ F (kind_at T.catalog k) (one_more next F new) (λ kd is. record {
      feature = All-push (λ r. r.id < next.feature + 1) F.rows (new_row T.catalog next k kd points attrs flow ends note) (more_rows next.feature F.rows new.feature) (omega arith);
      association = new.association;
    }))
new_after T next F (edit.Reshape id base points) new = change_new next F id (moved next points) (λ r. refl) new
new_after T next F (edit.Attrs id base attrs) new = change_new next F id (λ r. record r { attrs = numbered T.catalog attrs; moment = next.moment }) (λ r. refl) new
new_after T next F (edit.Kind id base kind) new =
    by_option (AreNew next) _ F (kind_named T.catalog kind) new (λ k named. change_new next F id (of_kind T.catalog next k) (λ r. refl) new)
new_after T next F (edit.Path id base path) new = change_new next F id (on_path T.catalog next path) (λ r. refl) new
new_after T next F (edit.Flow id base flow) new = change_new next F id (λ r. record r { flow = flow; moment = next.moment }) (λ r. refl) new
new_after T next F (edit.Ends id base ends) new = change_new next F id (λ r. record r { ends = ends; moment = next.moment }) (λ r. refl) new
new_after T next F (edit.Note id base note) new = change_new next F id (λ r. record r { note = note; moment = next.moment }) (λ r. refl) new
new_after T next F (edit.Delete id base) new = record { feature = All-filter (λ r. not (r.id == id)) (λ r. r.id < next.feature) F.rows new.feature; association = new.association }
new_after T next F (edit.Connect from to) new = associated_new next F _ refl new
new_after T next F (edit.Contain container content) new = associated_new next F _ refl new
new_after T next F (edit.Attach structure content) new = associated_new next F _ refl new
new_after T next F (edit.Detach assoc) new = record { feature = new.feature; association = All-filter (λ a. not (a.id == assoc)) (λ a. a.id < next.association) F.associations new.association }
new_after T next F (edit.Controller id terminal tier subnet) new =
    by_option (AreNew next) _ F (place_of tier T.tiers) new (λ t _. record { feature = new.feature; association = new.association })
new_after T next F (edit.Uncontroller id terminal) new = record { feature = new.feature; association = new.association }
new_after T next F (edit.Rule rule) new = record { feature = new.feature; association = new.association }
