use Rattle.std.proofs.Common.{◌≡◌, ◌∙◌, ap, refl, Option, Some, None}
use Rattle.std.specs.Option.{option_map, is_some}
use Rattle.un_subnet.specs.Outcome.{is_row_of, has_row}
use Rattle.un_subnet.proofs.Numbered.{found_any}
use Rattle.un_subnet.proofs.stored.StoredRows.has.Goals as goal

some_still : {A B : Type 0} (f : A → B) (o : Option A) → is_some o ≡ is_some (option_map f o)
some_still f None = refl
some_still f (Some a) = refl

pub returns : goal.returns
returns c =
    c.is_some.ensures ∙ some_still _ c.found_row.result ∙ found_any (is_row_of c.args.tier c.args.subnet.now) c.self.inside.rows _ c.found_row.ensures
    ∙ ap (λ rows. has_row rows c.args.tier c.args.subnet.now) c.self.view_is
