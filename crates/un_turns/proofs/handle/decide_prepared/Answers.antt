use Rattle.std.proofs.Common.{refl}
use Rattle.un_publish.specs.declared.session.SessionFault.TheVariants.{Memory}
use Rattle.un_turns.specs.Turns.{Decided, Undecided, Unprepared, IsRead}
use Rattle.un_turns.proofs.Prefixes.{prefix_trans}
use Rattle.un_turns.proofs.Prepared.{read_first, read_first_fault}
use Rattle.un_turns.proofs.handle.decide_prepared.Goals as goal

pub returns-in-Err : goal.returns-in-Err
returns-in-Err g c = record { turn = Unprepared c.args.cmd c.in-Err.fault; is = (c.in-Err.ensures.fault, c.in-Err.ensures.seen); responds = (refl, c.fault_response.ensures) }

pub returns-in_default : goal.returns-in_default
returns-in_default g c = record { turn = Unprepared c.args.cmd Memory; is = (c.in-Ok.ensures.kept, c.in-Ok.ensures.seen); responds = (refl, refl) }

pub returns-in-Ok-submit_after : goal.returns-in-Ok-submit_after
returns-in-Ok-submit_after g c =
    let step = g.M.Machine.step in
    let opening = g.J.BoardName.opening in
    let read : IsRead step opening c.args.session.now c.read.new.self c.in-Ok.view =
    record { seen = c.in-Ok.ensures.seen; version = c.in-Ok.ensures.version; reaches = c.in-Ok.ensures.state; kept = c.in-Ok.ensures.kept } in
    let receipt = c.in-Ok-submit_after.receipt in
    record {
      turn = Decided c.args.cmd receipt;
      is = read_first step opening c.args.session.now c.read.new.self c.submit_after.new.session c.in-Ok.view c.args.cmd receipt read c.in-Ok-submit_after.ensures.receipt;
      responds = (refl, c.receipt_response.ensures);
    }

pub returns : goal.returns
returns g c =
    let step = g.M.Machine.step in
    let opening = g.J.BoardName.opening in
    let s = c.args.session.now in
    let m = c.read.new.self in
    let t = c.submit_after.new.session in
    let read : IsRead step opening s m c.in-Ok.view =
    record { seen = c.in-Ok.ensures.seen; version = c.in-Ok.ensures.version; reaches = c.in-Ok.ensures.state; kept = c.in-Ok.ensures.kept } in
    let fault = c.in-Err-submit_after.fault in
    record {
      turn = Undecided c.args.cmd fault;
      is = (
        read_first_fault step opening s m t c.in-Ok.view fault read c.in-Err-submit_after.ensures.fault,
        prefix_trans s.seen m.seen t.seen c.in-Ok.ensures.seen c.submit_after.ensures.seen,
      );
      responds = (refl, c.fault_response-in-Err-submit_after.ensures);
    }
