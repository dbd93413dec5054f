-- `entdec::Reader::tell_frac`: the rule of the state gives what the worker asks. Assumes nothing.
use native.Mathlib.Omega.{arith}
use Rattle.entdec.proofs.Accepted.{sound}
use Rattle.entcode.specs.Said.{answer}
use Rattle.entdec.proofs.Reader.tell_frac.Goals as goal

pub tell_frac_of-requires : goal.tell_frac_of-requires
tell_frac_of-requires c = let f = sound _ (rw c.sound.ensures at c.if-sound.true) in let k = f.counts in (omega arith, omega arith, omega arith)

pub returns-then-sound : goal.returns-then-sound
unfolding answer
returns-then-sound c = simp (rw c.sound.ensures at c.if-sound.true, c.tell_frac_of.ensures)

pub returns-else-sound : goal.returns-else-sound
unfolding answer
returns-else-sound c = simp (rw c.sound.ensures at c.if-sound.false)
