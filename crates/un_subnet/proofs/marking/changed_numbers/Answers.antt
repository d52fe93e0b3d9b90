use Rattle.std.proofs.Common.{Bor, ℕ, ◌≡◌, List, [], ◌∷◌, ◌++◌, ◌∙◌, map, flat_map, refl, ap}
use Rattle.std.specs.Map.Iter.{deref}
use Rattle.un_ask.specs.declared.stored.StoredSubnet.{StoredSubnet}
use Rattle.un_defs.specs.declared.assoc.Controller.{Controller}
use Rattle.un_subnet.specs.declared.row_index.Subject.TheVariants.{At}
use Rattle.un_subnet.specs.Outcome.{is_row_of}
use Rattle.un_subnet.specs.RowIndex.{numbers_at, numbers_with}
use Rattle.un_subnet.proofs.marking.changed_numbers.Goals as goal

-- those of what references lead to
all_deref : (rows : List (ℕ × StoredSubnet)) (controllers : List (Bor Controller))
    → flat_map (λ c. numbers_with (is_row_of c.now.tier c.now.subnet) rows) controllers ≡ flat_map (λ c. numbers_with (is_row_of c.tier c.subnet) rows) (map deref controllers)
all_deref rows [] = refl
all_deref rows (c ∷ controllers) = ap (λ l. numbers_with (is_row_of c.now.tier c.now.subnet) rows ++ l) (all_deref rows controllers)

pub returns : goal.returns
returns c =
    let rows = c.args.rows.now in
    let at_points : List ℕ = flat_map (λ p. numbers_at c.args.keys.now (At p)) c.args.changes.now.points in
    c.in_ok-push_of_controllers.ensures
    ∙ ap (λ (l : List ℕ). l ++ flat_map (λ c. numbers_with (is_row_of c.now.tier c.now.subnet) rows) c.controllers.result.now)
    (c.in_ok-push_at_points.ensures
    ∙ ap (λ (l : List ℕ). l ++ flat_map (λ p. numbers_at c.args.keys.now (At p)) c.points.result.now) c.new-numbers.ensures.items
    ∙ ap (flat_map (λ p. numbers_at c.args.keys.now (At p))) c.points.ensures)
    ∙ ap (λ (l : List ℕ). at_points ++ l) (all_deref rows c.controllers.result.now ∙ ap (flat_map (λ (c : Controller). numbers_with (is_row_of c.tier c.subnet) rows)) c.controllers.ensures)
