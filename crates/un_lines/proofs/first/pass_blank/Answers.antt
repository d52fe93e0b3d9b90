use Rattle.std.proofs.Common.{◌+◌, ◌++◌, take, drop}
use Rattle.std.proofs.lemmas.List.{take_rest}
use Rattle.un_lines.proofs.Passes.{within_blank, within_kept, within_rest}
use Rattle.un_lines.proofs.first.pass_blank.Goals as goal

pub returns-in_default-held_kind : goal.returns-in_default-held_kind
returns-in_default-held_kind c read passed =
    let within = c.lines.invariant read passed in
    let found = c.in-Some.ensures.place in
    let holds = c.add.ensures within.come.rest within.come.holds in
    within_kept read c.args.piece.now c.lines.rest.now (take c.in-Some.at c.lines.rest.now) (drop (c.in-Some.at + 1) c.lines.rest.now) c.lines.buffer.bytes.items c.lines.buffer.over c.add.new.self.bytes.items c.add.new.self.over c.held_kind.result within found.before found.split holds (c.held_kind.ensures _ holds) c.in_default-held_kind.not-Blank

pub lines-preserved : goal.lines-preserved
lines-preserved c read passed =
    let within = c.lines.invariant read passed in
    let found = c.in-Some.ensures.place in
    let holds = c.add.ensures within.come.rest within.come.holds in
    rw take_rest (within_blank read c.args.piece.now c.lines.rest.now (take c.in-Some.at c.lines.rest.now) (drop (c.in-Some.at + 1) c.lines.rest.now) c.lines.buffer.bytes.items c.lines.buffer.over c.clear.new.self.bytes.items c.clear.new.self.over within found.before found.split (c.in-Blank.ensures (within.come.rest ++ take c.in-Some.at c.lines.rest.now) holds) c.clear.ensures)

pub returns : goal.returns
returns c read passed =
    let within = c.lines.invariant read passed in
    within_rest read c.args.piece.now c.lines.rest.now c.lines.buffer.bytes.items c.lines.buffer.over c.add-2.new.self.bytes.items c.add-2.new.self.over within c.in_default.ensures.place (c.add-2.ensures within.come.rest within.come.holds)
