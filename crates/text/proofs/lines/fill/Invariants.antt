-- `text::lines::fill`: the invariant: what is kept and what remains of the block give the lines that the whole block gives. Assumes nothing.
use Prim.Native.Nat.{◌≤◌}
use mathlib.Core.Path.{◌≡◌}
use lib.ListN.{length, take, drop}
use Rattle.text.proofs.Blocks.{SameLines}
use Rattle.text.proofs.lines.fill.Given as goal

abbrev pub invariant-loop-i : goal.invariant-loop-i
invariant-loop-i l = (length l.buf ≡ length l.initial.buf) × (l.k ≤ length l.initial.buf)
    × SameLines (length l.initial.buf) (take l.k l.buf)
    (drop l.i l.block) (take l.n l.initial.buf) (drop l.at l.block)
