-- A rule that fits leaves a schema what it was.
use Rattle.std.proofs.Common.{◌≡◌, ◌<◌, ◌≤◌, List, ◌∷◌, ◌++◌, [], length, get_or, None, All, IsTrue, arith, length-append, refl}
use Rattle.std.proofs.lemmas.List.Elements.{All-append, All-cons}
use Rattle.un_schema.specs.declared.rule.Rule.{Rule}
use Rattle.un_schema.specs.declared.rule.Rule.TheVariants.{JunctionEdge, JunctionJunction, Containment, Attachment, EdgeJunctionEdge}
use Rattle.un_schema.specs.Catalog.{Catalog}
use Rattle.un_schema.specs.Fits.{fits, has_classes, bad_terminal}
use Rattle.un_schema.specs.Sound.{IsCatalog}

-- whether a rule fits is a matter of kinds alone
pub fits_same : (catalog : Catalog) (others : List Rule) (rule : Rule) → fits (record catalog { rules = others }) rule ≡ fits catalog rule
fits_same catalog others (JunctionEdge junction terminal edge) = refl
fits_same catalog others (JunctionJunction first first_terminal second second_terminal) = refl
fits_same catalog others (Containment container content) = refl
fits_same catalog others (Attachment structure content) = refl
fits_same catalog others (EdgeJunctionEdge edge terminal junction other other_terminal) = refl

fits_from : (catalog : Catalog) (rule : Rule) → IsTrue (has_classes catalog rule) → bad_terminal catalog rule ≡ None → IsTrue (fits catalog rule)
fits_from catalog rule classes terminals = grind (arith, classes, terminals)

-- a schema has other rules that fit
pub sound_with_rules : (catalog : Catalog) (others : List Rule) → IsCatalog catalog → length others ≤ 4096 → All (λ r. IsTrue (fits catalog r)) others
    → IsCatalog (record catalog { rules = others })
sound_with_rules catalog others sound few each =
    record {
      attributes = sound.attributes;
      categories = sound.categories;
      few_configs = sound.few_configs;
      configs = sound.configs;
      some_kinds = sound.some_kinds;
      few_kinds = sound.few_kinds;
      kinds = sound.kinds;
      kind_names = sound.kind_names;
      few_rules = few;
      rules = λ k d within. rw (fits_same catalog others (get_or others k d)) (each k d within);
    }

pub sound_with_rule : (catalog : Catalog) (rule : Rule) → IsCatalog catalog → IsTrue (has_classes catalog rule) → bad_terminal catalog rule ≡ None
    → length catalog.rules < 4096 → IsCatalog (record catalog { rules = catalog.rules ++ rule ∷ [] })
sound_with_rule catalog rule sound classes terminals room =
    let fit = λ (r : Rule). IsTrue (fits catalog r) in
    let last : fit rule = fits_from catalog rule classes terminals in
    sound_with_rules catalog (catalog.rules ++ rule ∷ []) sound (omega (arith, length-append catalog.rules (rule ∷ [])))
    (All-append fit catalog.rules (rule ∷ []) sound.rules (All-cons fit rule [] last (λ k d within. absurd (omega arith))))
