-- `gurthapen_record_frame`: the lengths, the packet's last, then the call, and what is left of it. Assumes nothing.
use mathlib.Core.Path.{◌≡◌, sym, ◌∙◌}
use mathlib.Core.Bool.{true, ◌&&◌}
use lib.ListN.{length}
use Rattle.gurthapen_state.specs.Record.{is_record, record_in}
use Rattle.gurthapen_state.specs.State.{is_stored}
use Rattle.gurthapen.proofs.Framing.{Three, all_three, frame_of, frame_unsized}
use Rattle.gurthapen_answer.proofs.Exports.{wrong_lengths, right_lengths}
use Rattle.gurthapen.proofs.record.gurthapen_record_frame.Goals as goal
use Rattle.gurthapen.proofs.record.gurthapen_record_frame.Goals.{Then-energies-next}

-- `gurthapen_record_frame`: the lengths, the packet's last, then the call, and what is left of it. Assumes nothing.
-- the tests of the guard
tested : (c : Then-energies-next)
    → let a = c.args in (is_record a.energies.now a.next.now && is_stored a.state.now) ≡ true
tested c = rw c.is_stored.ensures at c.if-energies-next.true

lengths : (c : Then-energies-next)
    → let a = c.args in Three (length a.energies.now) 42 (length a.next.now) 1 (length a.state.now)
    12
lengths c = let a = c.args in all_three a.energies.now a.next.now a.state.now (tested c)

pub leave_frame-requires : goal.leave_frame-requires
leave_frame-requires c =
    let l = lengths (goal.at.leave_frame-requires c).Then-energies-next in
    (l.one, l.two, l.three)

pub returns-then-sized : goal.returns-then-sized
returns-then-sized c =
    let t = (goal.at.returns-then-sized c).Then-energies-next in
    let a = c.args in
    let f = c.ranges in
    let e = c.leave_frame.new in
    right_lengths _ _ (tested t)
    (frame_of {x' = ((e.energies, e.next), e.state)} ((a.energies.now, a.next.now), a.state.now) a.s.now a.number f.c f.lm f.start
    f.end f.intra c.load_record-rec.ensures c.load-d.ensures c.frame-y.ensures c.leave_frame.ensures)

pub returns-then-energies-next : goal.returns-then-energies-next
returns-then-energies-next c =
    let a = c.args in
    right_lengths _ _ (tested (goal.at.returns-then-energies-next c).Then-energies-next)
    (frame_unsized (record_in a.energies.now a.next.now) ((a.energies.now, a.next.now), a.state.now) a.s.now a.number a.c a.lm
    a.start a.end a.intra c.load-d.ensures (sym c.sized.ensures ∙ c.if-sized.false))

pub returns : goal.returns
returns c = wrong_lengths _ _ (rw c.is_stored.ensures at c.if-energies-next.false)
