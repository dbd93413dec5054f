-- `text::write::spell`: the invariant: the digits that remain, written in front of those that stand there, give what all digits give. Assumes nothing.
use mathlib.Core.Path.{◌≡◌}
use lib.ListN.{length}
use lib.Seq.{sets}
use Rattle.text.specs.Digits.{last_digits}
use Rattle.text.proofs.write.spell.Given as goal

abbrev pub invariant-loop-i : goal.invariant-loop-i
invariant-loop-i l = (length l.buf ≡ length l.initial.buf)
    × (sets l.buf l.at (last_digits l.base l.i l.rest) ≡ sets l.initial.buf l.at (last_digits l.base l.k l.n))
