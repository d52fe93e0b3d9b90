use Rattle.std.proofs.Common.{inr, arith, take}
use Rattle.std.proofs.lemmas.Grind.{common_steps}
use Rattle.un_http.specs.Head.{Fails}
use Rattle.un_http.specs.Passed.{IsPassed}
use Rattle.un_http.proofs.Blocks.{more_begins, more_trans, too_long, refused, holds, in_body}
use Rattle.un_http.proofs.take.take_begun.Goals as goal

pub returns-in-TooLong-clause-takes : goal.returns-in-TooLong-clause-takes
returns-in-TooLong-clause-takes g c =
    let begins = more_begins _ _ _ _ c.in-TooLong.ensures.more c.requires.begins in
    let found = c.in-TooLong.ensures.found in
    too_long _ begins found.0 found.1

pub returns-in-Err-clause-takes : goal.returns-in-Err-clause-takes
returns-in-Err-clause-takes g c =
    let begins = more_begins _ _ _ _ c.in-Block.ensures.more c.requires.begins in
    let found = c.in-Block.ensures.found in
    let fails : Fails (take c.in-Block.size c.find_block.new.bytes.items) c.in-Err.check = rw c.deref.ensures.value at c.in-Err.ensures.err in
    refused _ _ _ begins found.0 found.1 fails

pub returns-in-Ready-clause-more : goal.returns-in-Ready-clause-more
returns-in-Ready-clause-more g c = more_trans _ _ _ _ _ _ c.in-Block.ensures.more c.in-Ready.ensures.more

pub returns-in-Ready-clause-takes : goal.returns-in-Ready-clause-takes
returns-in-Ready-clause-takes g c =
    let begins = more_begins _ _ _ _ c.in-Block.ensures.more c.requires.begins in
    let found = c.in-Block.ensures.found in
    let passed : IsPassed (take c.in-Block.size c.find_block.new.bytes.items) c.in-Ok.passed = rw c.deref.ensures.value at c.in-Ok.ensures.ok in
    holds _ _ _ _ _ _ begins found.0 found.1 passed c.in-Ready.ensures.more c.in-Ready.ensures.filled

pub returns-in-End-fill-clause-more : goal.returns-in-End-fill-clause-more
returns-in-End-fill-clause-more g c = more_trans _ _ _ _ _ _ c.in-Block.ensures.more c.in-End-fill.ensures.more

pub returns-in-End-fill-clause-takes : goal.returns-in-End-fill-clause-takes
returns-in-End-fill-clause-takes g c =
    let begins = more_begins _ _ _ _ c.in-Block.ensures.more c.requires.begins in
    let found = c.in-Block.ensures.found in
    let passed : IsPassed (take c.in-Block.size c.find_block.new.bytes.items) c.in-Ok.passed = rw c.deref.ensures.value at c.in-Ok.ensures.ok in
    let filled = c.in-End-fill.ensures.filled in (
      grind (arith, common_steps, c.len-in-End-fill.ensures),
      more_begins _ _ _ _ c.in-End-fill.ensures.more begins,
      inr (in_body _ _ _ _ _ _ begins found.0 found.1 passed c.in-End-fill.ensures.more filled.0),
      filled.1,
    )

pub returns-in-Failed-fill-clause-more : goal.returns-in-Failed-fill-clause-more
returns-in-Failed-fill-clause-more g c = more_trans _ _ _ _ _ _ c.in-Block.ensures.more c.in-Failed-fill.ensures.more
