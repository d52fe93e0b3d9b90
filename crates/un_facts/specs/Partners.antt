-- Which associations make partners of their two rows.
use Rattle.std.specs.Prelude.{ℕ, Bool, ◌==◌, ◌&&◌, if◌then◌else◌, List, [], ◌∷◌, ◌++◌}
use Rattle.un_defs.specs.declared.assoc.Assoc.{Assoc}
use Rattle.un_defs.specs.declared.assoc.AssocKind.{AssocKind}
use Rattle.un_defs.specs.Links.{is_connectivity}
use Rattle.un_defs.specs.Dirtied.{any_sort}
use Rattle.un_facts.specs.declared.rectangles.Which.{Which}
use Rattle.un_facts.specs.declared.rectangles.Which.TheVariants.{Connectivity, All}

-- connectivity alone, or all sorts
abbrev pub takes : Which → AssocKind → Bool
takes Connectivity sort = is_connectivity sort
takes All sort = any_sort sort

-- the other end of an association that is taken, if the row is one of its ends
abbrev pub taken_end : Which → ℕ → Assoc → List ℕ
taken_end which id a =
    (if takes which a.sort && (a.from.feature == id) then a.to.feature ∷ [] else [])
    ++ (if takes which a.sort && (a.to.feature == id) then a.from.feature ∷ [] else [])
