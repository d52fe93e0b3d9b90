use Rattle.std.proofs.Common.{◌≡◌, ◌+◌, ◌++◌, ◌≤◌, length, take, drop, sym, ◌∙◌, ap, subst, arith}
use Rattle.std.proofs.lemmas.List.{length-take-le}
use Rattle.std.proofs.lemmas.Grind.{common_steps}
use Rattle.std.specs.Io.KnownBytes.{Consumes}
use Rattle.un_lines.specs.Cut.{most_bytes}
use Rattle.un_lines.specs.Passing.{IsPassing}
use Rattle.un_lines.proofs.Closing.{prefix_of}
use Rattle.un_lines.proofs.Kept.{at_end, failed, reached, piece_passed, piece_found}
use Rattle.un_lines.proofs.first.read_to_first.Goals as goal

pub returns-in-Failed-clause-source_fault : goal.returns-in-Failed-clause-source_fault
returns-in-Failed-clause-source_fault g c is =
    failed _ (g.S.Source.left c.pieces.source) _ c.pieces.buffer.bytes.items c.pieces.buffer.over c.pieces.count c.pieces.invariant.passing c.in-Failed.ensures.bytes (omega (arith, c.pieces-test.true))

pub returns-in-End-clause-kept : goal.returns-in-End-clause-kept
returns-in-End-clause-kept g c =
    let ended = c.in-End.ensures.bytes in
    at_end _ (g.S.Source.left c.pieces.source) _ c.pieces.buffer.bytes.items c.pieces.buffer.over c.pieces.count c.held_kind.result c.pieces.invariant.passing ended.0 ended.1 (omega (arith, c.pieces-test.true)) c.held_kind.ensures

pub returns-clause-limit : goal.returns-clause-limit
returns-clause-limit g c is =
    reached _ _ c.pieces.buffer.bytes.items c.pieces.buffer.over c.pieces.count c.pieces.invariant.passing (omega (arith, c.pieces-test.false, c.pieces.invariant.limit))

pub returns-in_default-clause-kept : goal.returns-in_default-clause-kept
returns-in_default-clause-kept g c =
    let got = c.in-Bytes.ensures.bytes in
    let consumed = subst (λ piece. Consumes (g.S.Source.left c.pieces.source) (g.S.Source.left c.read.new.self) piece) (sym (prefix_of c.in-Bytes.size c.read.new.buf (drop c.min-room.result c.pieces.piece) got.1)) got.2 in
    let size : length (take c.in-Bytes.size (c.read.new.buf ++ drop c.min-room.result c.pieces.piece)) ≡ c.in-Bytes.size = ap length (prefix_of c.in-Bytes.size c.read.new.buf (drop c.min-room.result c.pieces.piece) got.1) ∙ length-take-le c.in-Bytes.size c.read.new.buf got.1 in
    let limit : c.pieces.count + c.in-Bytes.size ≤ most_bytes = grind (arith, common_steps, got.1, c.min-room.ensures, c.read.auto.buf) in
    let fits = subst (λ n. c.pieces.count + n ≤ most_bytes) (sym size) limit in
    piece_found _ (g.S.Source.left c.pieces.source) _ c.pieces.buffer.bytes.items c.pass_blank.new.buffer.bytes.items c.pieces.buffer.over c.pass_blank.new.buffer.over c.pieces.count _ c.pass_blank.result c.pieces.invariant.passing consumed fits c.in_default.not-Blank (c.pass_blank.ensures c.pieces.invariant.passing.0 c.pieces.invariant.passing.1.1.1)

pub pieces-preserved : goal.pieces-preserved
pieces-preserved g c =
    let got = c.in-Bytes.ensures.bytes in
    let consumed = subst (λ piece. Consumes (g.S.Source.left c.pieces.source) (g.S.Source.left c.read.new.self) piece) (sym (prefix_of c.in-Bytes.size c.read.new.buf (drop c.min-room.result c.pieces.piece) got.1)) got.2 in
    let size : length (take c.in-Bytes.size (c.read.new.buf ++ drop c.min-room.result c.pieces.piece)) ≡ c.in-Bytes.size = ap length (prefix_of c.in-Bytes.size c.read.new.buf (drop c.min-room.result c.pieces.piece) got.1) ∙ length-take-le c.in-Bytes.size c.read.new.buf got.1 in
    let passing = piece_passed _ (g.S.Source.left c.pieces.source) _ c.pieces.buffer.bytes.items c.pass_blank.new.buffer.bytes.items c.pieces.buffer.over c.pass_blank.new.buffer.over c.pieces.count _ c.pieces.invariant.passing consumed (c.in-Blank.ensures c.pieces.invariant.passing.0 c.pieces.invariant.passing.1.1.1) in
    record {
      limit = grind (arith, common_steps, got.1, c.min-room.ensures, c.read.auto.buf);
      faults = c.in-Bytes.ensures.cause ∙ c.pieces.invariant.faults;
      passing = subst (λ n. IsPassing (g.S.Source.left c.args.source.now) (g.S.Source.left c.read.new.self) c.pass_blank.new.buffer.bytes.items c.pass_blank.new.buffer.over (c.pieces.count + n)) size passing;
    }
