-- `stream::Record::frame`: the gate's number decides, and number 0 says all that the worker asks. Assumes nothing.
use mathlib.Core.Path.{◌≡◌, sym, ap, ◌∙◌}
use mathlib.Core.Bool.{true}
use lib.Dec.{lit≤}
use lib.Ieee.Scale.{finite}
use lib.ListN.{length}
use mir.Facts.{to_z-of_z}
use Rattle.laws.specs.Lists.{every}
use Rattle.entcode.specs.Said.{verdict}
use Rattle.entcode.proofs.Said.{stopped-some}
use Rattle.entdec.proofs.Accepted.{Open, opened}
use Rattle.entdec.proofs.Chain.{sound_ready}
use Rattle.stream.specs.Frame.{Call, call, numbers_ok, order_of, refusal_frame}
use Rattle.stream.proofs.Accepts.{Known, known, answer-applied, answer-refused}
use Rattle.stream.proofs.Record.frame.Goals as goal
use Rattle.stream.proofs.Record.frame.Goals.{After-refusal, Start, In-Ok}

-- `stream::Record::frame`: the gate's number decides, and number 0 says all that the worker asks. Assumes nothing.
-- what the call is handed
abbrev called : Start → Call
called p = let a = p.args in call a.d a.s.now a.number a.c a.lm a.start a.end a.intra

-- the gate's number, in the contract's terms
gated : (c : After-refusal) → verdict c.refusal.result ≡ refusal_frame c.args.self (called (goal.at.After-refusal c).Start)
unfolding refusal_frame
gated c =
    let f = c.ranges in
    rw (to_z-of_z f.c, to_z-of_z f.lm, to_z-of_z f.start, to_z-of_z f.end, to_z-of_z f.intra) at c.refusal.ensures

-- number 0
passed : (c : In-Ok) → let a = c.args in
    Open (length a.s.now) a.d true (numbers_ok a.self.next a.number a.c a.lm a.start a.end a.intra)
    (every finite a.self.energies) (order_of a.self.next a.number)
unfolding refusal_frame
passed c = opened _ _ _ _ _ _ (sym (gated (goal.at.In-Ok c).After-refusal) ∙ ap verdict c.in-Ok.is)

-- the tests of the numbers, each by itself
tested : (c : In-Ok) → let a = c.args in Known a.self.next a.number a.c a.lm a.start a.end a.intra
tested c = let a = c.args in known a.self.next a.number a.c a.lm a.start a.end a.intra (passed c).known

pub of-requires : goal.of-requires
of-requires c =
    let f = c.ranges in
    rw (to_z-of_z f.c, to_z-of_z f.lm, to_z-of_z f.start, to_z-of_z f.end, to_z-of_z f.intra) (tested (goal.at.of-requires c).In-Ok).coarse

pub apply-requires : goal.apply-requires
apply-requires c =
    let k = (goal.at.apply-requires c).In-Ok in
    ((tested k).most, sound_ready 42 c.args.d (passed k).state (lit≤ tt))

pub returns-in-Ok : goal.returns-in-Ok
returns-in-Ok c =
    let f = c.ranges in
    let b = rw (to_z-of_z f.c, to_z-of_z f.lm, to_z-of_z f.start, to_z-of_z f.end, to_z-of_z f.intra) at c.of.ensures in
    answer-applied _ c.args.self (called (goal.at.returns-in-Ok c).Start)
    (sym (gated (goal.at.returns-in-Ok c).After-refusal) ∙ ap verdict c.in-Ok.is)
    (rw (b.0, b.1, b.2, b.3, b.4) at c.apply.ensures)

pub returns-in-Err : goal.returns-in-Err
returns-in-Err c =
    let g = gated (goal.at.returns-in-Err c).After-refusal in
    let h = sym (ap verdict c.in-Err.is) ∙ g in
    rw h (answer-refused _ c.args.self (called (goal.at.returns-in-Err c).Start) (rw g at (stopped-some _ _ c.in-Err.is)))
