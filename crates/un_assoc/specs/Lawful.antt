-- What holds of edits of associations and controllers, as statements.
use Rattle.std.specs.Prelude.{◌≡◌, ℕ, ◌==◌, List, None, IsTrue}
use Rattle.std.specs.List.{list_any}
use Rattle.un_defs.specs.declared.assoc.Assoc.{Assoc}
use Rattle.un_defs.specs.declared.edit.Edit.{Edit}
use Rattle.un_defs.specs.Features.{Features}
use Rattle.un_defs.specs.Change.{Setting, Next, changed}
use Rattle.un_defs.specs.Laws.{MayBeMade}
use Rattle.un_assoc.specs.Containing.{container_of, chain_of, containers_above}
use Rattle.un_assoc.specs.Links.{Links, links_of, only_links, with_links}
use Rattle.un_assoc.specs.Words.{IsLinkEdit}
use Rattle.un_assoc.specs.Refusals.{refusal_of}
use Rattle.un_assoc.specs.Edits.{next_of}

-- the associations and controllers after an edit, told by the names of the tiers, the next id and what there was of both
abbrev pub links_after : Setting → ℕ → Links → Edit → Links
links_after T next before e = links_of (changed T (next_of next) (only_links before) e)

-- such an edit keeps the rows and the rules, and what it leaves of associations and controllers is told by these alone
abbrev pub LinksAloneLaw : Type 0
LinksAloneLaw = (T : Setting) (next : Next) (F : Features) (e : Edit) → IsLinkEdit e →
    changed T next F e ≡ with_links F (links_after T next.association (links_of F) e)

-- and of the setting only the names of the tiers count
abbrev pub TiersAloneLaw : Type 0
TiersAloneLaw = (T U : Setting) (next : ℕ) (before : Links) (e : Edit) → T.tiers ≡ U.tiers → IsLinkEdit e →
    links_after T next before e ≡ links_after U next before e

-- an edit for which no refusal is due may be made
abbrev pub MayBeMadeLaw : Type 0
MayBeMadeLaw = (T : Setting) (next : Next) (F : Features) (e : Edit) →
    IsLinkEdit e → refusal_of T F e ≡ None → MayBeMade T next F e

-- however long a chain of containers is followed, it comes to none but the containers above
abbrev pub ChainsEndLaw : Type 0
ChainsEndLaw = (associations : List Assoc) (id sought n : ℕ) →
    IsTrue (list_any (λ c. c == sought) (chain_of n (container_of associations) id)) →
    IsTrue (list_any (λ c. c == sought) (containers_above associations id))
