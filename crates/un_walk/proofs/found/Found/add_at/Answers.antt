use Rattle.std.proofs.Common.{◌≡◌, ℕ, slice_get, Result, Ok, Err, OnOk, inl, inr, sym, ap, subst, ◌∙◌, arith}
use Rattle.un_defs.specs.declared.port.Node.{Node}
use Rattle.un_defs.specs.declared.star.Star.{Star}
use Rattle.un_defs.specs.Ground.{Ground}
use Rattle.un_walk.specs.declared.site.Site.{Site}
use Rattle.un_walk.specs.Visits.{IsSiteAt, IsPlaceAt}
use Rattle.un_walk.specs.declared.found.Found.{Found}
use Rattle.un_walk.specs.Site.{star_of}
use Rattle.un_walk.specs.Found.{IsNumberOf, IsFoundOver}
use Rattle.un_walk.proofs.FoundOver.{star_here, visited_within, entry_at, placed_in, not_placed, count_nodes}
use Rattle.un_walk.proofs.found.Found.add_at.Goals as goal

on_ok : {T E : Type 0} (r : Result T E) (P Q : Type 0) → (P → Q) → OnOk r P → OnOk r Q
on_ok (Ok x) P Q f h = f h
on_ok (Err e) P Q f h = h

-- the star that is read is the one at the node's point
star_is : (G : Ground) (f : Found) (is : IsFoundOver G f) (n : Node) (number : ℕ) (s : Site) → IsNumberOf f.points n.at number → IsSiteAt f.visited number s → star_of s ≡ G.stars n.at
star_is G f is n number s h there = ap star_of (sym there.2) ∙ star_here G f is n number there.0 h there.1

pub place-requires : goal.place-requires
place-requires g c =
    visited_within (g.G.Ground.stars_and_areas c.args.over.now) c.args.self.now c.requires.over c.args.node.at c.args.number c.requires.number

pub site-requires : goal.site-requires
site-requires g c =
    visited_within (g.G.Ground.stars_and_areas c.args.over.now) c.args.self.now c.requires.over c.args.node.at c.args.number c.requires.number

pub add_marked-requires-clause-item : goal.add_marked-requires-clause-item
add_marked-requires-clause-item g c =
    let G : Ground = g.G.Ground.stars_and_areas c.args.over.now in
    let f : Found = c.args.self.now in
    let n : Node = c.args.node in
    let star : star_of c.site.result ≡ G.stars n.at = star_is G f c.requires.over n c.args.number c.site.result c.requires.number c.site.ensures in
    let place = placed_in G f c.requires.over n c.args.number c.in-Some.place c.requires.number (subst (IsPlaceAt f.visited c.args.number n.port) c.in-Some.is c.place.ensures) in
    record {
      number = c.requires.number;
      entry = c.spot_at-spot.ensures ∙ ap (λ (s : Star). slice_get s.spots c.in-Some.place) star ∙ sym (entry_at G n c.in-Some.place place);
      from = omega (arith, c.requires.from, count_nodes c.args.self.now);
    }

pub add_marked-requires-clause-place : goal.add_marked-requires-clause-place
add_marked-requires-clause-place g c =
    placed_in (g.G.Ground.stars_and_areas c.args.over.now) c.args.self.now c.requires.over c.args.node c.args.number c.in-Some.place c.requires.number
    (subst (IsPlaceAt c.args.self.now.visited c.args.number c.args.node.port) c.in-Some.is c.place.ensures)

pub add_stray-requires-clause-none : goal.add_stray-requires-clause-none
add_stray-requires-clause-none g c =
    not_placed (g.G.Ground.stars_and_areas c.args.over.now) c.args.self.now c.requires.over c.args.node c.args.number c.requires.number
    (subst (IsPlaceAt c.args.self.now.visited c.args.number c.args.node.port) c.in-None.is c.place.ensures)

pub add_stray-requires-clause-item : goal.add_stray-requires-clause-item
add_stray-requires-clause-item g c =
    let none = not_placed (g.G.Ground.stars_and_areas c.args.over.now) c.args.self.now c.requires.over c.args.node c.args.number c.requires.number
    (subst (IsPlaceAt c.args.self.now.visited c.args.number c.args.node.port) c.in-None.is c.place.ensures) in
    record {
      number = c.requires.number;
      entry = sym none;
      from = omega (arith, c.requires.from, count_nodes c.args.self.now);
    }

pub returns-in-Some-clause-adds : goal.returns-in-Some-clause-adds
returns-in-Some-clause-adds g c = on_ok c.add_marked.result _ _ (λ adds. elim adds [ inl a ↦ inl a | inr a ↦ inr (inl a) ]) c.add_marked.ensures.adds

pub returns-in-None-clause-adds : goal.returns-in-None-clause-adds
returns-in-None-clause-adds g c = on_ok c.add_stray.result _ _ (λ adds. elim adds [ inl a ↦ inl a | inr a ↦ inr (inr a) ]) c.add_stray.ensures.adds
