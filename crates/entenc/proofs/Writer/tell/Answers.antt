-- `entenc::Writer::tell`: by the rule of the state. Assumes nothing.
use mathlib.Core.Path.{sym, ◌∙◌}
use Rattle.entcode.specs.Said.{answer}
use Rattle.entenc.proofs.Writer.tell.Goals as goal

pub returns-then-sound : goal.returns-then-sound
unfolding answer
returns-then-sound c = simp (sym c.sound.ensures ∙ c.if-sound.true, c.tell_of.ensures.0)

pub returns-else-sound : goal.returns-else-sound
unfolding answer
returns-else-sound c = simp (sym c.sound.ensures ∙ c.if-sound.false)
