-- After an edit that got the next id, all ids are below the one after it.
use Rattle.std.proofs.Common.{◌≡◌, ℕ, ◌+◌, ◌<◌, not, ◌==◌, List, [], ◌∷◌, ◌++◌, All, Option, Some, None, refl, sym, ap, subst, arith}
use Rattle.std.proofs.lemmas.List.Elements.{All-push, All-weaker, All-filter}
use Rattle.un_schema.specs.Catalog.{place_of}
use Rattle.un_defs.specs.declared.assoc.Assoc.{Assoc}
use Rattle.std.specs.Option.{option_map_or}
use Rattle.un_defs.specs.declared.assoc.Controller.{Controller}
use Rattle.un_defs.specs.declared.edit.Edit.{Edit}
use Rattle.un_defs.specs.declared.edit.Edit.TheVariants as edit
use Rattle.un_defs.specs.Features.{Features}
use Rattle.un_defs.specs.Change.{Setting, changed}
use Rattle.un_assoc.specs.Links.{Links, with_links}
use Rattle.un_assoc.specs.Words.{IsLinkEdit}
use Rattle.un_assoc.specs.Edits.{next_of, IsMade}

module _ (T : Setting) (next : ℕ) (F : Features) where
  -- all ids are below the number
  abbrev AreBelow : ℕ → List Assoc → Type 0
  AreBelow n = All (λ a. a.id < n)

  more : (list : List Assoc) → AreBelow next list → AreBelow (next + 1) list
  more list h = All-weaker (λ a. a.id < next) (λ a. a.id < next + 1) (λ a l. omega (arith, l)) list h

  added : (list : List Assoc) (a : Assoc) → a.id ≡ next → AreBelow next list → AreBelow (next + 1) (list ++ a ∷ [])
  added list a e h = All-push (λ a. a.id < next + 1) list a (more list h) (omega arith)

  same : (o : Option ℕ) (put : ℕ → List Controller) → (option_map_or (λ t. record F { controllers = put t }) o F).associations ≡ F.associations
  same None put = refl
  same (Some t) put = refl

  after_change : (e : Edit) → IsLinkEdit e → AreBelow next F.associations → AreBelow (next + 1) (changed T (next_of next) F e).associations
  after_change (edit.Connect from to) word h = added F.associations _ refl h
  after_change (edit.Contain container content) word h = added F.associations _ refl h
  after_change (edit.Attach structure content) word h = added F.associations _ refl h
  after_change (edit.Detach assoc) word h = more _ (All-filter (λ a. not (a.id == assoc)) (λ a. a.id < next) F.associations h)
  after_change (edit.Controller id terminal tier subnet) word h = subst (AreBelow (next + 1)) (sym (same (place_of tier T.tiers) _)) (more F.associations h)
  after_change (edit.Uncontroller id terminal) word h = more F.associations h
  after_change _ word h = absurd word

pub below_next : (T : Setting) (next : ℕ) (F : Features) (before after : Links) (e : Edit) → IsLinkEdit e → IsMade T next F before e after
    → All (λ a. a.id < next) before.associations → All (λ a. a.id < next + 1) after.associations
below_next T next F before after e word made h = subst (All (λ a. a.id < next + 1)) (sym (ap (λ G. G.associations) made)) (after_change T next (with_links F before) e word h)
