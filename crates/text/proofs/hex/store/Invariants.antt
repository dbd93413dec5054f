-- `text::hex::store`: the invariant: the bytes of what remains, stored from place i on, give what all bytes give stored from 0 on. Assumes nothing.
use Prim.Native.Nat.{◌*◌}
use mathlib.Core.Path.{◌≡◌}
use lib.ListN.{length, drop}
use lib.Seq.{sets}
use Rattle.text.specs.Numbers.{bytes_of}
use Rattle.text.proofs.hex.store.Given as goal

abbrev pub invariant-loop-i : goal.invariant-loop-i
invariant-loop-i l = (length l.out ≡ length l.initial.out) × (sets l.out l.i (bytes_of (drop (2 * l.i) l.s)) ≡ sets l.initial.out 0 (bytes_of l.s))
