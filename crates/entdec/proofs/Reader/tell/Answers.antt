-- `entdec::Reader::tell`: by the rule of the state. Assumes nothing.
use Rattle.entcode.specs.Said.{answer}
use Rattle.entdec.proofs.Reader.tell.Goals as goal

pub returns-then-sound : goal.returns-then-sound
unfolding answer
returns-then-sound c = simp (rw c.sound.ensures at c.if-sound.true, c.tell_of.ensures.0)

pub returns-else-sound : goal.returns-else-sound
unfolding answer
returns-else-sound c = simp (rw c.sound.ensures at c.if-sound.false)
