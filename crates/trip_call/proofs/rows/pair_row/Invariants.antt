-- `trip_call::rows::pair_row`: what is left of the row gives what all of it gives. Assumes nothing.
use Prim.Native.Nat.{◌-◌}
use mathlib.Core.Path.{◌≡◌}
use lib.ListN.{length}
use Rattle.entenc.specs.Write.{wr}
use Rattle.trip_call.specs.Runs.{pair_from}
use Rattle.trip_call.proofs.rows.pair_row.Given as goal

abbrev pub invariant-loop-i : goal.invariant-loop-i
invariant-loop-i l =
    (length l.buf ≡ length l.initial.buf) ×
    (pair_from l.symbols l.tables l.s (l.i-end - l.i) l.i (wr l.both.writer l.buf) l.both.reader
    ≡ pair_from l.symbols l.tables l.s l.i-end 0 (wr l.initial.both.writer l.initial.buf) l.initial.both.reader)
