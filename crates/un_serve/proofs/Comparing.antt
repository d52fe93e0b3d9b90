-- Two states differ at no other points than those that are looked at.
use Rattle.std.proofs.Common.{◌≡◌, ℕ, List, Option, ap}
use Rattle.un_geom.specs.declared.point.Point.{Point}
use Rattle.un_geom.specs.Rectangle.{Rectangle}
use Rattle.un_feed.specs.Differences.{HasDifferences, Paging, ChangesShown}
use Rattle.un_core.specs.State.{State}
use Rattle.un_core.specs.Commands.{step}
use Rattle.un_core.specs.Changes.{HasChanged}
use Rattle.un_turns.specs.Spans.{HasEntries}
use Rattle.un_serve.specs.declared.touched.Touched.{Touched}
use Rattle.un_serve.specs.Touching.{AreMarks, IsTouched}

pub touched_by : (old new : State) (t : Touched) → HasEntries step (λ (t : Touched) es. AreMarks t.rects.items es) old new t → IsTouched old new t.rects.items
touched_by old new t has = record { entries = has.entries; leads = has.leads; stands = has.stands }

pub has_differences : (old new : State) (rects : List Rectangle) (among : List Point) (after : Option Point) → IsTouched old new rects
    → HasChanged old rects new among → HasDifferences old.kept new.kept after among
has_differences old new rects among after touched changed = λ p past differs. changed touched.entries touched.stands touched.leads p differs

-- a page of differences with what it was asked for
abbrev pub asked_for : Paging → Option Point → ℕ → ℕ → ℕ → ChangesShown
asked_for paging after since upto version = record { page = paging; after = after; since = since; upto = upto; version = version }

pub page_made : (one other : Paging) (after : Option Point) (since upto version : ℕ) → one ≡ other → asked_for one after since upto version ≡ asked_for other after since upto version
page_made one other after since upto version is = ap (λ paging. asked_for paging after since upto version) is
