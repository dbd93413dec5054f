-- `entdec::Reader::update`: the value shown lies in the part that is taken, so that nothing falls below 0. Assumes nothing.
use native.Mathlib.Omega.{arith}
use Rattle.entdec.proofs.Places.{Held, held_by_lem}
use Rattle.entdec.proofs.Forms.{width-more, take-first, take_more}
use Rattle.entdec.proofs.Reader.update.Goals as goal
use Rattle.entdec.proofs.Reader.update.Goals.{Start}

-- `entdec::Reader::update`: the value shown lies in the part that is taken, so that nothing falls below 0. Assumes nothing.
-- the part that is taken holds the value
facts : (c : Start) → let a = c.args in Held a.self.val a.self.rng a.fl a.fh a.ft
facts c =
    let a = c.args in
    let p = c.requires.fl_lt_fh in
    held_by_lem a.self a.fl a.fh a.ft (record { lt = p.0; le = p.1; ft-le = p.2 }) c.requires.ready.range_gt c.requires.ready.val-lt p.3 p.4

pub overflow_sub-self-then-fl-eq0 : goal.overflow_sub-self-then-fl-eq0
overflow_sub-self-then-fl-eq0 c = (facts (goal.at.overflow_sub-self-then-fl-eq0 c).Start).start-le

pub overflow_sub-self-else-fl-eq0 : goal.overflow_sub-self-else-fl-eq0
overflow_sub-self-else-fl-eq0 c = (facts (goal.at.overflow_sub-self-else-fl-eq0 c).Start).start-le

pub narrow-requires-else-fl-eq0 : goal.narrow-requires-else-fl-eq0
narrow-requires-else-fl-eq0 c =
    let a = c.args in
    let f = facts (goal.at.narrow-requires-else-fl-eq0 c).Start in
    let p = c.requires.ready in
    let e = width-more a.self.rng a.fl a.fh a.ft c.if-fl-eq0.false in
    record { range_pos = omega arith; range_le = omega arith; val-lt = omega arith; total-le = omega arith; offs-le = omega arith }

pub returns-then-fl-eq0 : goal.returns-then-fl-eq0
returns-then-fl-eq0 c =
    let a = c.args in
    rw c.narrow.ensures (take-first a.s.now a.self a.fl a.fh a.ft a.ext c.if-fl-eq0.true)

pub returns-else-fl-eq0 : goal.returns-else-fl-eq0
returns-else-fl-eq0 c =
    let a = c.args in
    rw c.narrow-else-fl-eq0.ensures (take_more a.s.now a.self a.fl a.fh a.ft a.ext c.if-fl-eq0.false)
