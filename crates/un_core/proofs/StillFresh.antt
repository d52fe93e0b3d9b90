-- A star that was built in advance is still that of the features where no command since has made its point dirty.
use Rattle.std.proofs.Common.{◌≡◌, Bool, true, false, cond, List, [], ◌∷◌, Option, None, Some, refl, sym, ap, subst, ◌∙◌}
use Rattle.std.proofs.Common.{Global}
use Rattle.std.specs.declared.sync.Arc.{Arc}
use Rattle.std.specs.List.{list_any}
use Rattle.std.specs.Option.{IfSome}
use Rattle.std.specs.declared.collections.BTreeMap.{BTreeMap}
use Rattle.std.specs.BTreeMap.{get, is_at}
use Rattle.un_points.proofs.Lookups.{tie_same, same_is}
use Rattle.std.specs.Arc.{arc_value}
use Rattle.un_defs.specs.declared.star.Star.{Star}
use Rattle.un_core.specs.declared.prepared.Prepared.{Prepared}
use Rattle.un_geom.specs.declared.point.Point.{Point}
use Rattle.un_geom.specs.Places.{covers, point_cmp}
use Rattle.un_schema.specs.Sound.{IsCatalog}
use Rattle.un_tiers.specs.declared.setup.Setup.{Setup}
use Rattle.un_defs.proofs.Locality.{or_both}
use Rattle.un_machine.specs.Logs.{Leads, Since}
use Rattle.un_core.specs.State.{State, fresh_star, known}
use Rattle.un_core.specs.Cover.{IsState}
use Rattle.un_core.specs.Commands.{step}
use Rattle.un_core.specs.Logs.{LogEntry}
use Rattle.un_rebuild.specs.Preparing.{AreFresh}
use Rattle.un_core.specs.Preparing.{IsPreparedAt, is_touched}
use Rattle.un_core.proofs.Accepted.{may_happen, same_setup}
use Rattle.un_core.proofs.CoverKept.{cover_is_kept}
use Rattle.un_core.proofs.StepLocality.{steps_are_local}
use Rattle.un_core.proofs.Logs.{done}

module _ (p : Point) where
  abbrev touches : LogEntry → Bool
  touches e = list_any (λ r. covers r p) e.mark

  pub still_fresh : (s : State) (since : List LogEntry) (t : State) → IsState s → IsCatalog s.setup.schema → Leads step s since t
      → is_touched since p ≡ false → fresh_star s p ≡ fresh_star t p
  still_fresh s [] t is schema leads clean = ap (λ (u : State). fresh_star u p) leads
  still_fresh s (e ∷ since) t is schema leads clean =
      let one = done s e.cmd leads.0 (e.reply, e.mark) leads.1 in
      let both = or_both (touches e) (is_touched since p) clean in
      let may = may_happen s e.cmd is schema one.0 in
      let next = subst IsState one.1.0 (cover_is_kept s e.cmd is may) in
      let catalog = subst (λ (S : Setup). IsCatalog S.schema) (sym (same_setup s e.cmd) ∙ ap (λ (u : State). u.setup) one.1.0) schema in
      let here = steps_are_local s e.cmd is may p (ap (list_any (λ r. covers r p)) one.1.1 ∙ both.0) in
      sym here ∙ ap (λ (u : State). fresh_star u p) one.1.0 ∙ still_fresh leads.0 since t next catalog leads.2 both.1

-- a prepared star that is found at such a point
pub found_fresh : (h : Prepared) (since : List LogEntry) (t : State) (p : Point) → Since step IsPreparedAt h since t → is_touched since p ≡ false
    → IfSome (get point_cmp h.stars p) (λ star. arc_value star ≡ fresh_star t p)
found_fresh h since t p given clean = go (get point_cmp h.stars p) (given.1.stars p)
  where
    go : (o : Option (Arc Star Global)) → IfSome o (λ star. arc_value star ≡ fresh_star given.0 p) → IfSome o (λ star. arc_value star ≡ fresh_star t p)
    go None is = tt
    go (Some star) is = is ∙ still_fresh p given.0 since t given.1.state given.1.schema given.2 clean

-- ---- stars by their points

module _ (s : State) (p : Point) (a : Arc Star Global) (m n : BTreeMap Point (Arc Star Global) Global) where
  pub put_fresh : arc_value a ≡ fresh_star s p → ((q : Point) → get point_cmp n q ≡ cond (is_at (point_cmp p) q) (Some a) (get point_cmp m q))
      → AreFresh (known s) m → AreFresh (known s) n
  put_fresh is updates fresh q = subst (λ o. IfSome o (λ star. arc_value star ≡ fresh_star s q)) (sym (updates q)) (go (is_at (point_cmp p) q) refl)
    where
      go : (b : Bool) → is_at (point_cmp p) q ≡ b → IfSome (cond b (Some a) (get point_cmp m q)) (λ star. arc_value star ≡ fresh_star s q)
      go true e = is ∙ ap (fresh_star s) (same_is p q (sym (tie_same p q) ∙ e))
      go false e = fresh q

pub none_fresh : (s : State) (m : BTreeMap Point (Arc Star Global) Global) → ((q : Point) → get point_cmp m q ≡ None) → AreFresh (known s) m
none_fresh s m none q = subst (λ o. IfSome o (λ star. arc_value star ≡ fresh_star s q)) (sym (none q)) tt
