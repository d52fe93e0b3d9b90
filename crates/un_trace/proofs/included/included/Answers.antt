use Rattle.std.proofs.Common.{◌≡◌, List, [], flat_map, take, take_all, sym, ap, ◌∙◌, rules}
use Rattle.std.specs.Ordering.{nat_cmp}
use Rattle.std.specs.BTreeSet.{insert_key}
use Rattle.std.specs.Option.{option_map_or}
use Rattle.std.proofs.lemmas.List.Sums.{fold-append}
use Rattle.un_walk.specs.declared.seen.Seen.{Seen}
use Rattle.un_trace.specs.Seen.{spot_of, spots_of}
use Rattle.un_trace.specs.Included.{ids_of}
use Rattle.un_trace.proofs.Gathered.{put_all, put_rising, gathered_more}
use Rattle.un_trace.proofs.included.included.Goals as goal

pub loop-one-preserved : goal.loop-one-preserved
loop-one-preserved c =
    let seen : List Seen = c.args.seen.now in
    let k = c.loop-one.one-index in
    let s : Seen = c.one-item.result in
    let f = ids_of c.args.inclusion in
    c.in_ok-add_all.ensures
    ∙ (λ i. put_all (c.loop-one.invariant i) (c.ids_seen.ensures i))
    ∙ sym (fold-append (insert_key nat_cmp) [] (flat_map f (spots_of (take k seen))) (option_map_or f (spot_of s) []))
    ∙ ap (put_all []) (sym (gathered_more f seen k s c.loop-one-test.true c.one-item.is))

pub returns : goal.returns
returns c =
    let seen : List Seen = c.args.seen.now in
    let f = ids_of c.args.inclusion in
    let all : c.in_ok-ids.ids.items ≡ c.loop-one.set.keys = search rules in
    c.new.ensures ∙ all ∙ c.loop-one.invariant
    ∙ ap (λ ss. put_all [] (flat_map f (spots_of ss))) (take_all c.loop-one.one-index seen c.loop-one-test.false)
    ∙ put_rising (flat_map f (spots_of seen))
