-- `lister_answer::lines::end`: what is written so far. Assumes nothing.
use Prim.Native.Nat.{◌*◌}
use mathlib.Core.Path.{◌≡◌}
use lib.IntN.{pos}
use lib.ListN.{length, take}
use Rattle.text.specs.Written.{signed_of, PlacedText}
use Rattle.text.proofs.Tabbed.{texts}
use Rattle.lister_answer.proofs.lines.end.Given as goal

abbrev pub invariant-loop-z : goal.invariant-loop-z
invariant-loop-z l =
    (length l.buf ≡ length l.initial.buf)
    × PlacedText (12 * l.z-index) l.initial.buf l.at (texts signed_of (pos 0) 12 (take l.z-index l.fields)) l.to l.buf
