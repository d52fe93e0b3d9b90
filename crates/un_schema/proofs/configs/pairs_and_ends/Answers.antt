use Rattle.std.proofs.Common.{◌≡◌, ◌+◌, ◌<◌, [], ◌∷◌, ◌++◌, length, length-append, arith}
use Rattle.un_schema.proofs.PathParts.{paths_more, ends_snoc}
use Rattle.un_schema.proofs.configs.pairs_and_ends.Goals as goal

pub loop-path-preserved : goal.loop-path-preserved
loop-path-preserved c =
    let pairs = c.loop-path.pairs.items in
    let ends = c.loop-path.ends.items in
    let item = c.path-item.result in
    let i = c.loop-path.path-index in
    let paths = c.args.paths.now in
    let end = c.in_ok-end.end in
    let few : i < length paths = omega arith in
    let appended : c.add_path.new.pairs.items ≡ pairs ++ item.pairs = rw c.as_slice.ensures at c.in_ok-end.ensures.items in
    let is_end : end ≡ length pairs + length item.pairs = rw c.as_slice.ensures at c.in_ok-end.ensures.end in
    rw (appended, c.in_ok-push.ensures.items)
    (record {
      paths = paths_more paths i item pairs ends end few c.path-item.is c.loop-path.invariant.ends is_end c.loop-path.invariant.paths;
      ends = ends_snoc pairs item.pairs ends end c.loop-path.invariant.ends is_end;
      len = omega (arith, length-append ends (end ∷ []), c.loop-path.invariant.len);
    })
