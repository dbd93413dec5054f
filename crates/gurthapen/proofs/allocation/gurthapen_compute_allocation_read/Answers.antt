-- `gurthapen_compute_allocation_read`: the lengths, the call, and what is left of it. Assumes nothing.
use mathlib.Core.Path.{◌≡◌}
use mathlib.Core.Bool.{true, ◌&&◌}
use lib.ListN.{length}
use Rattle.gurthapen_state.specs.State.{is_stored, is_long}
use Rattle.rate.specs.Question.{lists}
use Rattle.gurthapen_answer.proofs.Exports.{Both, stored-both, wrong_lengths, right_lengths}
use Rattle.gurthapen.proofs.Bands.{numbers_back, bands-read}
use Rattle.gurthapen.proofs.allocation.gurthapen_compute_allocation_read.Goals as goal
use Rattle.gurthapen.proofs.allocation.gurthapen_compute_allocation_read.Goals.{Then-is_stored-shown}

-- `gurthapen_compute_allocation_read`: the lengths, the call, and what is left of it. Assumes nothing.
-- the tests of the guard
tested : (c : Then-is_stored-shown) → let a = c.args in (is_stored a.state.now && is_long 4 a.shown.now) ≡ true
tested c = rw c.is_stored.ensures at c.if-is_stored-shown.true

lengths : (c : Then-is_stored-shown) → let a = c.args in Both (length a.state.now) 12 (length a.shown.now) 4
lengths c = let a = c.args in stored-both a.state.now a.shown.now 4 (tested c)

pub leave_allocation-requires : goal.leave_allocation-requires
leave_allocation-requires c =
    let l = lengths (goal.at.leave_allocation-requires c).Then-is_stored-shown in
    (l.one, l.two)

pub returns-then-is_stored-shown : goal.returns-then-is_stored-shown
returns-then-is_stored-shown c =
    let a = c.args in
    let f = c.ranges in
    let e = c.clt_compute_allocation_read-a.new in
    right_lengths _ _ (tested (goal.at.returns-then-is_stored-shown c).Then-is_stored-shown)
    (bands-read {p = lists e.pulses e.fine e.priorities}
    (a.state.now, a.shown.now) a.offsets.now a.caps.now a.s.now (lists a.pulses.now a.fine.now a.priorities.now)
    (numbers_back f.c f.lm f.start f.end f.trim f.total) c.load-d.ensures c.clt_compute_allocation_read-a.ensures
    c.leave_allocation.ensures)

pub returns : goal.returns
returns c = wrong_lengths _ _ (rw c.is_stored.ensures at c.if-is_stored-shown.false)
