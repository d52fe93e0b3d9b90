use Rattle.std.proofs.Common.{◌≡◌, ◌∷◌, ◌++◌, [], ◌∙◌, ap, sym, map, length, pos, arith, filter_map}
use Rattle.std.specs.Option.{option_map}
use Rattle.std.proofs.lemmas.List.{length-append, length-map, map-append, take_all}
use Rattle.un_geom.specs.declared.point.Point.{Point}
use Rattle.un_feed.specs.Differences.{change_shown, difference_at, differences}
use Rattle.un_feed.proofs.Seeking.{found_all}
use Rattle.un_feed.proofs.Paging.{full_page, last_page, found_no_more, found_one_more}
use Rattle.un_feed.proofs.differences.diff.Goals as goal
use Rattle.un_feed.proofs.differences.diff.Goals.{in-Some+else-len-most+in_ok-push, in_default}

abbrev none : Point
none = record { x = pos 0; y = pos 0; z = pos 0 }

pub returns-then-len-most : goal.returns-then-len-most
returns-then-len-most c =
    let f = difference_at c.args.old.now c.args.new.now c.args.after in
    let got = map change_shown c.loop-point.pairs.items in
    let count : length got ≡ c.args.most = omega (arith, length-map c.loop-point.pairs.items change_shown, c.len.ensures, c.if-len-most.true) in
    (λ i. record { pairs = map change_shown (c.page.ensures.pairs i); more = c.page.ensures.more i })
    ∙ full_page (differences c.args.old.now c.args.new.now) c.args.after c.args.most f c.args.among.now c.loop-point.point-index none (change_shown c.in-Some.change) got
    (found_all c.args.old.now c.args.new.now c.args.after c.args.among.now c.requires.sorted c.requires.whole) c.loop-point.invariant.pairs c.loop-point-test.true
    (ap (option_map change_shown) (sym c.in-Some.is) ∙ c.in_ok-change.ensures) count

pub loop-point-preserved : goal.loop-point-preserved
loop-point-preserved c =
    let f = difference_at c.args.old.now c.args.new.now c.args.after in
    let got = map change_shown c.loop-point.pairs.items in
    elim c.match-branch-2.branch [
      | in-Some+else-len-most+in_ok-push w ↦
          let y = change_shown w.in-Some.change in
          let items : c.match-branch-2.pairs.items ≡ c.loop-point.pairs.items ++ w.in-Some.change ∷ [] = ap (λ v. v.items) w.pairs-is ∙ w.in_ok-push.ensures.items in
          let fuller = ap (map change_shown) items ∙ map-append change_shown c.loop-point.pairs.items (w.in-Some.change ∷ []) in
          record {
            pairs = fuller ∙ found_one_more f c.args.among.now c.loop-point.point-index none got c.loop-point.invariant.pairs c.loop-point-test.true y
                (ap (option_map change_shown) (sym w.in-Some.is) ∙ c.in_ok-change.ensures);
            few = omega (arith, ap length items, length-append c.loop-point.pairs.items (w.in-Some.change ∷ []), w.len.ensures, w.if-len-most.false, c.loop-point.invariant.few);
          }
      | in_default w ↦ record {
        pairs = ap (λ v. map change_shown v.items) w.pairs-is
            ∙ found_no_more f c.args.among.now c.loop-point.point-index none got c.loop-point.invariant.pairs c.loop-point-test.true
            (ap (option_map change_shown) (sym w.in_default.is) ∙ c.in_ok-change.ensures);
        few = omega (arith, ap (λ v. length v.items) w.pairs-is, c.loop-point.invariant.few);
      }
    ]

pub returns : goal.returns
returns c =
    let f = difference_at c.args.old.now c.args.new.now c.args.after in
    let got = map change_shown c.loop-point.pairs.items in
    let whole = take_all c.loop-point.point-index c.args.among.now c.loop-point-test.false in
    (λ i. record { pairs = map change_shown (c.page-2.ensures.pairs i); more = c.page-2.ensures.more i })
    ∙ last_page (differences c.args.old.now c.args.new.now) c.args.after c.args.most got
    (c.loop-point.invariant.pairs ∙ ap (filter_map f) whole ∙ found_all c.args.old.now c.args.new.now c.args.after c.args.among.now c.requires.sorted c.requires.whole)
    (omega (arith, length-map c.loop-point.pairs.items change_shown, c.loop-point.invariant.few))
