-- `trip_call::back::same_shares`: the reader's lists are as long as the writer's. Assumes nothing.
use Rattle.rate.specs.Question.{lists, no_entries}
use Rattle.trip_call.proofs.Backing.{shares-done, shares_no}
use Rattle.trip_call.proofs.back.same_shares.Goals as goal

pub returns-in-Ok : goal.returns-in-Ok
unfolding no_entries
returns-in-Ok c =
    let a = c.args in
    let k = c.clt_compute_allocation_read-answer in
    shares-done a.asked.q a.asked.offsets.now a.asked.caps.now a.y.now.figures (lists a.y.now.pulses a.y.now.fine a.y.now.priorities) a.s.now a.e
    (lists k.new.pulses k.new.fine k.new.priorities) k.ensures c.in-Ok.figures
    c.in-Ok.is c.same_answers.ensures

pub returns-in-Err : goal.returns-in-Err
unfolding no_entries
returns-in-Err c =
    let a = c.args in
    let k = c.clt_compute_allocation_read-answer in
    shares_no a.asked.q a.asked.offsets.now a.asked.caps.now a.y.now.figures (lists a.y.now.pulses a.y.now.fine a.y.now.priorities) a.s.now a.e
    (lists k.new.pulses k.new.fine k.new.priorities) k.ensures c.in-Err.is
