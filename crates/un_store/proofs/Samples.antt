-- A small schema on which the refusals and the edits compute, and what they must give.
use Rattle.std.specs.Prelude.{◌≡◌, ℕ, ℤ, pos, false, List, [], ◌∷◌, Some, None, refl, codes}
use Rattle.un_schema.specs.Catalog.{Catalog}
use Rattle.un_schema.specs.declared.kind.Class.TheVariants.{Device, Junction, Line}
use Rattle.un_schema.specs.declared.kind.Policy.TheVariants.{EndVertex, NoLine}
use Rattle.un_defs.specs.declared.row.Row.{Row}
use Rattle.un_defs.specs.declared.row.Flow.{Flow}
use Rattle.un_defs.specs.declared.row.Flow.TheVariants.{With, Both}
use Rattle.un_defs.specs.declared.edit.Edit.{Edit}
use Rattle.un_defs.specs.declared.edit.Edit.TheVariants as edit
use Rattle.un_defs.specs.declared.refusal.Refusal.TheVariants as refusal
use Rattle.un_defs.proofs.Checks.Networks.{origin, kind}
use Rattle.un_store.specs.Refusals.{refusal_of}
use Rattle.un_store.specs.Edits.{rows_after, settled}

-- joints, pipes and valves with two paths
abbrev water : Catalog
water = record {
  attributes = codes "a" ∷ codes "b" ∷ codes "c" ∷ codes "d" ∷ codes "e" ∷ codes "f" ∷ codes "g" ∷ codes "h" ∷ codes "i" ∷ [];
  categories = [];
  configs = record {
    config = record { directional = false; terminals = 2; paths = ((1, 2) ∷ []) ∷ [] ∷ [] };
    paths = codes "open" ∷ codes "closed" ∷ [];
  } ∷ [];
  kinds = kind (codes "joint") Junction 1 1 NoLine None 0 false ∷ kind (codes "pipe") Line 1 1 EndVertex None 0 false
      ∷ kind (codes "valve") Device 1 1 NoLine (Some 0) 0 false ∷ [];
  rules = [];
}

abbrev triple : ℤ → List ℤ
triple x = x ∷ pos 0 ∷ pos 0 ∷ []

-- an insert without a note
abbrev insert : List ℕ → List (List ℤ) → List (List ℕ × ℤ) → Flow → ℕ → Edit
insert name points attrs flow end = edit.Insert name points attrs flow (end ∷ 0 ∷ []) []

abbrev one : List ℕ × ℤ → List (List ℕ × ℤ)
one pair = pair ∷ []

-- ---- refusals of an insert, in their order

no_such_kind : refusal_of water [] (insert (codes "main") [] [] With 1) ≡ Some (refusal.NoSuchKind (codes "main"))
no_such_kind = refl

flow_of_a_joint : refusal_of water [] (insert (codes "joint") [] [] With 0) ≡ Some refusal.WrongKind
flow_of_a_joint = refl

end_of_a_valve : refusal_of water [] (insert (codes "valve") [] [] Both 1) ≡ Some refusal.WrongKind
end_of_a_valve = refl

short_pipe : refusal_of water [] (insert (codes "pipe") (triple (pos 0) ∷ []) (one (codes "x", pos 0)) With 1) ≡ Some (refusal.BadShape 1)
short_pipe = refl

unknown_attribute : refusal_of water [] (insert (codes "joint") (triple (pos 0) ∷ []) ((codes "a", pos 0) ∷ (codes "x", pos 0) ∷ []) Both 0)
    ≡ Some (refusal.BadAttribute (codes "x"))
unknown_attribute = refl

value_out_of_range : refusal_of water [] (insert (codes "joint") (triple (pos 0) ∷ []) (one (codes "b", pos 1000000000001)) Both 0) ≡ Some (refusal.BadAttribute (codes "b"))
value_out_of_range = refl

nine : List (List ℕ × ℤ) → List (List ℕ × ℤ)
nine more = (codes "a", pos 0) ∷ (codes "b", pos 0) ∷ (codes "c", pos 0) ∷ (codes "d", pos 0) ∷ (codes "e", pos 0) ∷ (codes "f", pos 0) ∷ (codes "g", pos 0) ∷ (codes "h", pos 0) ∷ more

ninth_attribute : refusal_of water [] (insert (codes "joint") (triple (pos 0) ∷ []) (nine (one (codes "i", pos 0))) Both 0) ≡ Some (refusal.BadAttribute (codes "i"))
unfolding nine
ninth_attribute = refl

good_insert : refusal_of water [] (insert (codes "pipe") (triple (pos 0) ∷ triple (pos 5) ∷ []) (nine []) With 1) ≡ None
unfolding nine
good_insert = refl

-- ---- the rows

valve : ℕ → ℕ → Row
valve path moment = record {
  id = 7;
  kind = 2;
  class = Device;
  terminals = 2;
  shape = origin ∷ [];
  attrs = (0, pos 3) ∷ (1, pos 4) ∷ [];
  path = Some path;
  flow = Both;
  ends = 0 ∷ 0 ∷ [];
  note = [];
  moment = moment;
}

inserted : rows_after water 7 3 [] (insert (codes "valve") (triple (pos 0) ∷ []) ((codes "a", pos 3) ∷ (codes "b", pos 4) ∷ []) Both 0) ≡ valve 0 3 ∷ []
unfolding valve
inserted = refl

on_another_path : rows_after water 8 5 (valve 0 3 ∷ []) (edit.Path 7 3 (codes "closed")) ≡ valve 1 5 ∷ []
unfolding valve
on_another_path = refl

deleted : rows_after water 8 5 (valve 0 3 ∷ []) (edit.Delete 7 3) ≡ []
unfolding valve
deleted = refl

settled_row : settled (6 ∷ 7 ∷ []) 9 (valve 0 0 ∷ []) ≡ valve 0 9 ∷ []
unfolding valve
settled_row = refl

-- ---- refusals of edits of a row

no_such_feature : refusal_of water (valve 0 3 ∷ []) (edit.Kind 6 3 (codes "main")) ≡ Some (refusal.NoSuchFeature 6)
unfolding valve
no_such_feature = refl

old_base : refusal_of water (valve 0 3 ∷ []) (edit.Kind 7 2 (codes "main")) ≡ Some (refusal.Moved 3)
unfolding valve
old_base = refl

unknown_kind : refusal_of water (valve 0 3 ∷ []) (edit.Kind 7 3 (codes "main")) ≡ Some (refusal.NoSuchKind (codes "main"))
unfolding valve
unknown_kind = refl

kind_of_another_class : refusal_of water (valve 0 3 ∷ []) (edit.Kind 7 3 (codes "joint")) ≡ Some refusal.WrongKind
unfolding valve
kind_of_another_class = refl

unknown_path : refusal_of water (valve 0 3 ∷ []) (edit.Path 7 3 (codes "ajar")) ≡ Some refusal.BadPath
unfolding valve
unknown_path = refl

flow_of_a_valve : refusal_of water (valve 0 3 ∷ []) (edit.Flow 7 3 Both) ≡ Some refusal.WrongKind
unfolding valve
flow_of_a_valve = refl

good_note : refusal_of water (valve 0 3 ∷ []) (edit.Note 7 3 (codes "leaks")) ≡ None
unfolding valve
good_note = refl
