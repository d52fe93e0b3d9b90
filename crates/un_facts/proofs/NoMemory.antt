-- No refusal of an edit is one of want of memory: that is told apart from all causes.
use Rattle.std.proofs.Common.{◌≢◌, ℕ, ℤ, ◌==◌, ◌&&◌, ◌||◌, nat_lt, nat_le, not, length, position, is_some, is_none, List, [], ◌∷◌, Option, None, Some, option_map, option_and_then}
use Rattle.std.specs.List.{list_all, list_any}
use Rattle.std.specs.Option.{option_map_or}
use Rattle.un_schema.specs.declared.rule.Rule.{Rule}
use Rattle.un_schema.specs.declared.kind.Class.{Class}
use Rattle.un_schema.specs.declared.kind.Kind.{Kind}
use Rattle.un_schema.specs.Classes.{is_container as may_contain, is_structure}
use Rattle.un_schema.specs.Catalog.{Catalog, kind_at, kind_named, path_named, place_of}
use Rattle.un_defs.specs.declared.port.Port.{Port}
use Rattle.un_defs.specs.declared.row.Row.{Row}
use Rattle.un_defs.specs.declared.edit.Edit.{Edit}
use Rattle.un_defs.specs.declared.edit.Edit.TheVariants as edit
use Rattle.un_defs.specs.declared.refusal.Refusal.{Refusal}
use Rattle.un_defs.specs.declared.refusal.Refusal.TheVariants as refusal
use Rattle.un_defs.specs.declared.refusal.Limit.TheVariants as limit
use Rattle.un_defs.specs.Refusing.{refused_if}
use Rattle.un_defs.proofs.NoMemory.{IsOther, AreOther, first_other, other_where}
use Rattle.un_defs.specs.Features.{Features, association, is_joint, is_line, has_terminal, row}
use Rattle.un_defs.specs.Star.{controller_at}
use Rattle.un_defs.specs.Change.{Setting}
use Rattle.un_store.specs.Keyed.{row_with}
use Rattle.un_store.specs.Refusals.{refusal_of as row_refusal, no_kind, of_kind, no_row, of_row, no_line, no_path, no_room, not_plain, is_both, is_device, same_class, other_class, bad_shape, bad_attribute, most_rows}
use Rattle.un_assoc.specs.Containing.{container_of, contents_count, containers_above}
use Rattle.un_assoc.specs.Refusals.{refusal_of as link_refusal, no_feature, of_feature, of_both, not_joints, no_terminal, not_containing, not_attaching, not_controlling, may_control, in_itself, in_another, no_room as no_room_to_associate, no_room_in, most_associations, most_contents, most_controllers, no_tier, is_controlled, no_controller, no_room_to_control, port_at}
use Rattle.un_schema.specs.Fits.{bad_terminal}
use Rattle.un_schema.specs.RuleTests.{same_rule}
use Rattle.un_facts.specs.Known.{Known, setting}
use Rattle.un_facts.specs.Ruling.{rule_refusal}
use Rattle.un_facts.specs.Refusals.{has_associations, has_controllers, standing_refusal, refusal_of}

-- ---- edits

kind_other : (S : Catalog) (name : List ℕ) → IsOther (no_kind S name)
unfolding IsOther
kind_other S name = go (kind_named S name)
  where
    go : (o : Option ℕ) → IsOther (option_map_or (λ k. None) o (Some (refusal.NoSuchKind name)))
    go None = λ e. cc
    go (Some k) = tt

of_kind_other : (S : Catalog) (name : List ℕ) (cause : Kind → Option Refusal) → ((k : Kind) → IsOther (cause k)) → IsOther (of_kind S name cause)
unfolding IsOther
of_kind_other S name cause other = go (kind_named S name)
  where
    at : (o : Option Kind) → IsOther (option_and_then cause o)
    at None = tt
    at (Some k) = other k

    go : (o : Option ℕ) → IsOther (option_and_then (λ k. option_and_then cause (kind_at S k)) o)
    go None = tt
    go (Some k) = at (kind_at S k)

pub mapped_other : {A : Type 0} (f : A → Refusal) (o : Option A) → ((a : A) → f a ≢ refusal.Memory) → IsOther (option_map f o)
unfolding IsOther
mapped_other f None other = tt
mapped_other f (Some a) other = other a

row_other : (rows : List Row) (id base : ℕ) → IsOther (no_row rows id base)
unfolding IsOther
row_other rows id base = go (row_with rows id)
  where
    go : (o : Option Row) → IsOther (option_map_or (λ r. refused_if (not (r.moment == base)) (refusal.Moved r.moment)) o (Some (refusal.NoSuchFeature id)))
    go None = λ e. cc
    go (Some r) = other_where (not (r.moment == base)) (refusal.Moved r.moment) (λ e. cc)

of_row_other : (rows : List Row) (id : ℕ) (cause : Row → Option Refusal) → ((r : Row) → IsOther (cause r)) → IsOther (of_row rows id cause)
unfolding IsOther
of_row_other rows id cause other = go (row_with rows id)
  where
    go : (o : Option Row) → IsOther (option_and_then cause o)
    go None = tt
    go (Some r) = other r

shape_other : (class : Class) (points : List (List ℤ)) → IsOther (bad_shape class points)
shape_other class points = mapped_other _ _ (λ place e. cc)

attribute_other : (S : Catalog) (attrs : List (List ℕ × ℤ)) → IsOther (bad_attribute S attrs)
attribute_other S attrs = mapped_other _ _ (λ pair e. cc)

line_other : (r : Row) → IsOther (no_line r)
line_other r = other_where (not (is_line r.class)) refusal.WrongKind (λ e. cc)

pub none_other : IsOther None
unfolding IsOther
none_other = tt

row_edit_other : (S : Catalog) (rows : List Row) (e : Edit) → IsOther (row_refusal S rows e)
unfolding AreOther
row_edit_other S rows (edit.Insert kind points attrs flow ends note) = first_other
    (no_kind S kind ∷ of_kind S kind (λ k. not_plain k.class flow ends) ∷ of_kind S kind (λ k. bad_shape k.class points) ∷ bad_attribute S attrs ∷ no_room rows ∷ []) (
      kind_other S kind,
      (
        of_kind_other S kind (λ k. not_plain k.class flow ends)
            (λ k. other_where (not (is_line k.class) && not (is_both flow && list_all (λ terminal. terminal == 0) ends)) refusal.WrongKind (λ e. cc)),
        (
          of_kind_other S kind (λ k. bad_shape k.class points) (λ k. shape_other k.class points),
          (
            attribute_other S attrs,
            (other_where (not (nat_lt (length rows) most_rows)) (refusal.Full limit.Features) (λ e. cc), tt),
          ),
        ),
      ),
    )
row_edit_other S rows (edit.Reshape id base points) = first_other (no_row rows id base ∷ of_row rows id (λ r. bad_shape r.class points) ∷ [])
    (row_other rows id base, (of_row_other rows id (λ r. bad_shape r.class points) (λ r. shape_other r.class points), tt))
row_edit_other S rows (edit.Attrs id base attrs) = first_other (no_row rows id base ∷ bad_attribute S attrs ∷ [])
    (row_other rows id base, (attribute_other S attrs, tt))
row_edit_other S rows (edit.Kind id base kind) = first_other
    (no_row rows id base ∷ no_kind S kind ∷ of_kind S kind (λ k. of_row rows id (other_class k)) ∷ []) (
      row_other rows id base,
      (
        kind_other S kind,
        (
          of_kind_other S kind (λ k. of_row rows id (other_class k))
              (λ k. of_row_other rows id (other_class k) (λ r. other_where (not (same_class k.class r.class)) refusal.WrongKind (λ e. cc))),
          tt,
        ),
      ),
    )
row_edit_other S rows (edit.Path id base path) = first_other (no_row rows id base ∷ of_row rows id (no_path S path) ∷ []) (
  row_other rows id base,
  (of_row_other rows id (no_path S path) (λ r. other_where (not (is_device r.class && is_some (path_named S r.kind path))) refusal.BadPath (λ e. cc)), tt),
)
row_edit_other S rows (edit.Flow id base flow) = first_other (no_row rows id base ∷ of_row rows id no_line ∷ [])
    (row_other rows id base, (of_row_other rows id no_line line_other, tt))
row_edit_other S rows (edit.Ends id base ends) = first_other (no_row rows id base ∷ of_row rows id no_line ∷ [])
    (row_other rows id base, (of_row_other rows id no_line line_other, tt))
row_edit_other S rows (edit.Note id base note) = row_other rows id base
row_edit_other S rows (edit.Delete id base) = row_other rows id base
row_edit_other S rows (edit.Connect from to) = none_other
row_edit_other S rows (edit.Contain container content) = none_other
row_edit_other S rows (edit.Attach structure content) = none_other
row_edit_other S rows (edit.Detach assoc) = none_other
row_edit_other S rows (edit.Controller id terminal tier subnet) = none_other
row_edit_other S rows (edit.Uncontroller id terminal) = none_other
row_edit_other S rows (edit.Rule rule) = none_other

associations_other : (F : Features) (id : ℕ) → IsOther (has_associations F id)
associations_other F id = mapped_other _ _ (λ a e. cc)

controllers_other : (F : Features) (id : ℕ) → IsOther (has_controllers F id)
controllers_other F id = other_where (list_any (λ c. c.port.feature == id) F.controllers) refusal.HasControllers (λ e. cc)

standing_other : (F : Features) (e : Edit) → IsOther (standing_refusal F e)
unfolding AreOther
standing_other F (edit.Kind id base kind) = controllers_other F id
standing_other F (edit.Delete id base) = first_other (has_associations F id ∷ has_controllers F id ∷ [])
    (associations_other F id, (controllers_other F id, tt))
standing_other F _ = none_other

-- ---- associations and controllers

feature_other : (F : Features) (id : ℕ) → IsOther (no_feature F id)
unfolding IsOther
feature_other F id = go (row F id)
  where
    go : (o : Option Row) → IsOther (option_map_or (λ r. None) o (Some (refusal.NoSuchFeature id)))
    go None = λ e. cc
    go (Some r) = tt

of_feature_other : (F : Features) (id : ℕ) (cause : Row → Option Refusal) → ((r : Row) → IsOther (cause r)) → IsOther (of_feature F id cause)
unfolding IsOther
of_feature_other F id cause other = go (row F id)
  where
    go : (o : Option Row) → IsOther (option_and_then cause o)
    go None = tt
    go (Some r) = other r

of_both_other : (F : Features) (first second : ℕ) (cause : Row → Row → Option Refusal) → ((r s : Row) → IsOther (cause r s)) → IsOther (of_both F first second cause)
of_both_other F first second cause other = of_feature_other F first (λ r. of_feature F second (cause r)) (λ r. of_feature_other F second (cause r) (other r))

terminal_other : (q : Port) (r : Row) → IsOther (no_terminal q r)
terminal_other q r = other_where (not (has_terminal r q.number)) (refusal.BadTerminal q.feature) (λ e. cc)

link_other : (T : Setting) (F : Features) (e : Edit) → IsOther (link_refusal T F e)
unfolding AreOther
link_other T F (edit.Connect from to) = first_other
    (no_feature F from.feature ∷ no_feature F to.feature ∷ of_both F from.feature to.feature (not_joints from to)
    ∷ of_feature F from.feature (no_terminal from) ∷ of_feature F to.feature (no_terminal to) ∷ no_room_to_associate F.associations ∷ []) (
      feature_other F from.feature,
      (
        feature_other F to.feature,
        (
          of_both_other F from.feature to.feature (not_joints from to)
              (λ r s. other_where (not (is_joint r.class && is_joint s.class) || (from.feature == to.feature)) refusal.WrongKind (λ e. cc)),
          (
            of_feature_other F from.feature (no_terminal from) (terminal_other from),
            (
              of_feature_other F to.feature (no_terminal to) (terminal_other to),
              (other_where (not (nat_lt (length F.associations) most_associations)) (refusal.Full limit.Associations) (λ e. cc), tt),
            ),
          ),
        ),
      ),
    )
link_other T F (edit.Contain container content) = first_other
    (no_feature F container ∷ no_feature F content ∷ of_feature F container not_containing ∷ in_itself F.associations container content
    ∷ in_another F.associations content ∷ no_room_to_associate F.associations ∷ no_room_in F.associations container ∷ []) (
      feature_other F container,
      (
        feature_other F content,
        (
          of_feature_other F container not_containing (λ r. other_where (not (may_contain r.class)) refusal.WrongKind (λ e. cc)),
          (
            other_where ((container == content) || list_any (λ c. c == content) (containers_above F.associations container)) refusal.ContainsItself (λ e. cc),
            (
              mapped_other (λ c. refusal.AlreadyContained c) (container_of F.associations content) (λ c e. cc),
              (
                other_where (not (nat_lt (length F.associations) most_associations)) (refusal.Full limit.Associations) (λ e. cc),
                (other_where (not (nat_lt (contents_count F.associations container) most_contents)) (refusal.Full limit.Contents) (λ e. cc), tt),
              ),
            ),
          ),
        ),
      ),
    )
link_other T F (edit.Attach structure content) = first_other
    (no_feature F structure ∷ no_feature F content ∷ of_both F structure content not_attaching ∷ no_room_to_associate F.associations ∷ []) (
      feature_other F structure,
      (
        feature_other F content,
        (
          of_both_other F structure content not_attaching (λ r s. other_where (not (is_structure r.class) || is_structure s.class) refusal.WrongKind (λ e. cc)),
          (other_where (not (nat_lt (length F.associations) most_associations)) (refusal.Full limit.Associations) (λ e. cc), tt),
        ),
      ),
    )
link_other T F (edit.Detach assoc) = other_where (is_none (association F assoc)) refusal.NoSuchAssociation (λ e. cc)
link_other T F (edit.Controller id terminal tier subnet) = first_other
    (no_feature F id ∷ of_feature F id (not_controlling T.catalog) ∷ of_feature F id (no_terminal (port_at id terminal)) ∷ no_tier T.tiers tier
    ∷ is_controlled F (port_at id terminal) ∷ no_room_to_control F.controllers ∷ []) (
      feature_other F id,
      (
        of_feature_other F id (not_controlling T.catalog) (λ r. other_where (not (may_control T.catalog r)) refusal.NotController (λ e. cc)),
        (
          of_feature_other F id (no_terminal (port_at id terminal)) (terminal_other (port_at id terminal)),
          (
            other_where (is_none (place_of tier T.tiers)) refusal.NoSuchTier (λ e. cc),
            (
              other_where (is_some (controller_at F (port_at id terminal))) refusal.ControllerExists (λ e. cc),
              (other_where (not (nat_lt (length F.controllers) most_controllers)) (refusal.Full limit.Controllers) (λ e. cc), tt),
            ),
          ),
        ),
      ),
    )
link_other T F (edit.Uncontroller id terminal) = first_other (no_feature F id ∷ no_controller F (port_at id terminal) ∷ [])
    (feature_other F id, (other_where (is_none (controller_at F (port_at id terminal))) refusal.NoSuchController (λ e. cc), tt))
link_other T F (edit.Insert kind points attrs flow ends note) = none_other
link_other T F (edit.Reshape id base points) = none_other
link_other T F (edit.Attrs id base attrs) = none_other
link_other T F (edit.Kind id base kind) = none_other
link_other T F (edit.Path id base path) = none_other
link_other T F (edit.Flow id base flow) = none_other
link_other T F (edit.Ends id base ends) = none_other
link_other T F (edit.Note id base note) = none_other
link_other T F (edit.Delete id base) = none_other
link_other T F (edit.Rule rule) = none_other

-- ---- all edits

pub edit_other : (K : Known) (e : Edit) → IsOther (refusal_of K e)
unfolding AreOther
edit_other K e = first_other
    (row_refusal K.setup.schema K.features.rows e ∷ standing_refusal K.features e ∷ link_refusal (setting K.setup) K.features e ∷ [])
    (row_edit_other K.setup.schema K.features.rows e, (standing_other K.features e, (link_other (setting K.setup) K.features e, tt)))

-- ---- rules

pub adding_other : (C : Catalog) (rule : Rule) → IsOther (rule_refusal C rule)
unfolding AreOther
adding_other C rule = first_other
    (option_map refusal.BadRuleTerminal (bad_terminal C rule) ∷ option_map refusal.RuleExists (position (same_rule rule) C.rules)
    ∷ refused_if (nat_le 4096 (length C.rules)) (refusal.Full limit.Rules) ∷ []) (
      mapped_other refusal.BadRuleTerminal (bad_terminal C rule) (λ n e. cc),
      (
        mapped_other refusal.RuleExists (position (same_rule rule) C.rules) (λ n e. cc),
        (other_where (nat_le 4096 (length C.rules)) (refusal.Full limit.Rules) (λ e. cc), tt),
      ),
    )
