-- The rectangles of commands, one after another.
use Rattle.std.proofs.Common.{◌≡◌, ◌||◌, Bool, List, [], ◌∷◌, refl, ap, ◌∙◌}
use Rattle.std.specs.Prelude.{flat_map}
use Rattle.std.specs.List.{list_any}
use Rattle.std.proofs.lemmas.List.Folds.{list_any-append}
use Rattle.un_geom.specs.declared.point.Point.{Point}
use Rattle.un_geom.specs.Rectangle.{Rectangle}
use Rattle.un_geom.specs.Places.{covers}
use Rattle.un_core.specs.Logs.{LogEntry}
use Rattle.un_core.specs.Preparing.{is_touched}

module _ (p : Point) where
  abbrev any : List Rectangle → Bool
  any rects = list_any (λ r. covers r p) rects

  pub any_flat : (since : List LogEntry) → any (flat_map (λ e. e.mark) since) ≡ is_touched since p
  any_flat [] = refl
  any_flat (e ∷ since) = list_any-append (λ r. covers r p) e.mark (flat_map (λ e. e.mark) since)
      ∙ ap (λ b. any e.mark || b) (any_flat since)
