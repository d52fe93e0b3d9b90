-- Edits of associations and controllers, over a network of which only the rows are looked up.
use Rattle.std.proofs.Common.{◌≡◌, ℕ, refl, sym, ap, ◌∙◌, List}
use Rattle.un_defs.specs.declared.edit.Edit.{Edit}
use Rattle.un_defs.specs.declared.edit.Edit.TheVariants as edit
use Rattle.un_defs.specs.declared.row.Row.{Row}
use Rattle.un_schema.specs.declared.rule.Rule.{Rule}
use Rattle.un_defs.specs.Features.{Features}
use Rattle.un_defs.specs.Change.{Setting, changed}
use Rattle.un_store.specs.Edits.{only_rows}
use Rattle.un_assoc.specs.Links.{Links, links_of, with_links}
use Rattle.un_assoc.specs.Words.{IsLinkEdit}
use Rattle.un_assoc.specs.Edits.{next_of, IsMade}
use Rattle.un_assoc.specs.Lawful.{LinksAloneLaw, links_after}
use Rattle.un_tiers.specs.declared.setup.Setup.{Setup}
use Rattle.un_facts.specs.declared.ids.NextIds.{NextIds}
use Rattle.un_facts.specs.Known.{features_of, setting, next_at}
use Rattle.un_assoc.specs.Refusals.{refusal_of}

-- the features with rules of their own
abbrev pub under : List Row → Links → List Rule → Features
under rows links rules = record { rows = rows; associations = links.associations; controllers = links.controllers; rules = rules }

-- whatever the rules are, such an edit is refused for the same cause
pub rules_aside : (T : Setting) (rows : List Row) (links : Links) (first second : List Rule) (e : Edit)
    → refusal_of T (under rows links first) e ≡ refusal_of T (under rows links second) e
rules_aside T rows links first second (edit.Connect from to) = refl
rules_aside T rows links first second (edit.Contain container content) = refl
rules_aside T rows links first second (edit.Attach structure content) = refl
rules_aside T rows links first second (edit.Detach assoc) = refl
rules_aside T rows links first second (edit.Controller id terminal tier subnet) = refl
rules_aside T rows links first second (edit.Uncontroller id terminal) = refl
rules_aside T rows links first second _ = refl

-- what such an edit leaves beside rows that stay is what it leaves of the whole network
pub link_left : LinksAloneLaw → (S : Setup) (rules : List Rule) (rows : List Row) (before after : Links) (ids : NextIds) (moment : ℕ) (e : Edit) → IsLinkEdit e
    → IsMade (setting S) ids.association (only_rows rows) before e after
    → features_of rules rows after ≡ changed (setting S) (next_at ids moment) (features_of rules rows before) e
link_left alone S rules rows before after ids moment e word made =
    let F = features_of rules rows before in
    let links : after ≡ links_after (setting S) ids.association before e =
    ap links_of made ∙ ap links_of (alone (setting S) (next_of ids.association) (with_links (only_rows rows) before) e word) in
    ap (with_links F) links ∙ sym (alone (setting S) (next_at ids moment) F e word)
