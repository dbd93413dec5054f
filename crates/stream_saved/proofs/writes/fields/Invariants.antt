-- `stream_saved::writes::fields`: what is written so far. Assumes nothing.
use Prim.Native.Nat.{◌*◌}
use mathlib.Core.Path.{◌≡◌}
use lib.Ieee.{nan}
use lib.ListN.{length, take}
use Rattle.text.specs.Written.{PlacedText}
use Rattle.text.proofs.Tabbed.{texts}
use Rattle.stream_saved.specs.Fields.{energy_text}
use Rattle.stream_saved.proofs.writes.fields.Given as goal

abbrev pub invariant-loop-x : goal.invariant-loop-x
invariant-loop-x l =
    (length l.buf ≡ length l.initial.buf)
    × PlacedText (9 * l.x-index) l.initial.buf l.at (texts energy_text nan 9 (take l.x-index l.e)) l.to l.buf
