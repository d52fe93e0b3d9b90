-- The laws that each page of differences between two states of one log is sound, and is read back.
use Rattle.std.proofs.Common.{◌≤◌, List, ◌++◌, inl, inr, arith}
use Rattle.std.proofs.lemmas.List.{length-append}
use Rattle.un_geom.specs.declared.point.Point.{Point}
use Rattle.un_geom.specs.Places.{point_cmp}
use Rattle.un_pages.specs.Pairs.{past}
use Rattle.un_defs.specs.declared.star.Star.{Star}
use Rattle.un_defs.proofs.Rising.{Among}
use Rattle.un_defs.proofs.Members.{contains_from_among}
use Rattle.un_tiers.specs.declared.setup.Setup.{Setup}
use Rattle.un_core.specs.State.{State}
use Rattle.un_core.specs.Logs.{LogEntry}
use Rattle.un_core.proofs.Logs.{logs_are_histories}
use Rattle.un_feed.specs.Differences.{Difference, differences}
use Rattle.un_feed_json.specs.ReadBack.{PagesReadBackLaw}
use Rattle.un_feed_json.specs.Sound.{IsStar, IsChange}
use Rattle.un_feed_laws.specs.States.{IsSoundPair}
use Rattle.un_feed_laws.specs.Pages.{AreOfOneLog, page_between, PagesAreSoundLaw, ChangesReadBackLaw}
use Rattle.un_feed_laws.proofs.Nodes.{if_some}
use Rattle.un_feed_laws.proofs.Paging.{page_rises, page_some, on_page, IsOfKept}
use Rattle.un_feed_laws.proofs.LogsKept.{typed_front, kept_pairs, version_in_range}

module _ (S : Setup) (older later : List LogEntry) (s t : State) (states : AreOfOneLog S older later s t) where
  old_pair : (pair : Point × Star) → Among s.kept pair → IsSoundPair S pair
  old_pair pair h = kept_pairs S older s states.setup.catalog (typed_front older later states.typed) states.first pair (contains_from_among s.kept pair h)

  new_pair : (pair : Point × Star) → Among t.kept pair → IsSoundPair S pair
  new_pair pair h = kept_pairs S (older ++ later) t states.setup.catalog states.typed states.second pair (contains_from_among t.kept pair h)

  change : (d : Difference) → IsOfKept s.kept t.kept d → IsChange S.schema S.tiers d
  change d is = record {
    at = elim (is.kept).1 [ inl h ↦ (old_pair (d.0, (is.kept).0) h).at | inr h ↦ (new_pair (d.0, (is.kept).0) h).at ];
    star = if_some (IsStar S.schema S.tiers) d.1 (λ star e. (new_pair (d.0, star) (is.now star e)).star);
  }

  forward : s.version ≤ t.version
  forward =
      let first = (logs_are_histories S older s states.setup.catalog states.first).1 in
      let second = (logs_are_histories S (older ++ later) t states.setup.catalog states.second).1 in
      let all = length-append older later in
      omega (arith, first, second, all)

pub pages_sound : PagesAreSoundLaw
pages_sound S older later s t after most version states asked = record {
  changes = on_page (IsChange S.schema S.tiers) s.kept t.kept after most (change S older later s t states);
  after = asked.place;
  rising = page_rises s.kept t.kept after most;
  some = page_some (past point_cmp after (differences s.kept t.kept)) most asked.some;
  forward = forward S older later s t states;
  upto = version_in_range S (older ++ later) t states.setup.catalog states.typed states.second;
  version = asked.base;
}

-- so what holds of each sound page holds of it
pub changes_back : PagesReadBackLaw → ChangesReadBackLaw
changes_back back S older later s t after most version states asked =
    back S.schema S.tiers (page_between s t after most version) states.setup (pages_sound S older later s t after most version states asked)
