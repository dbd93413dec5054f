-- `trip_call::rows::write_row`: what is left of the row gives what all of it gives. Assumes nothing.
use Prim.Native.Nat.{◌-◌}
use mathlib.Core.Path.{◌≡◌}
use lib.ListN.{length}
use Rattle.entenc.specs.Write.{wr}
use Rattle.trip_call.specs.Runs.{row_from}
use Rattle.trip_call.proofs.rows.write_row.Given as goal

abbrev pub invariant-loop-i : goal.invariant-loop-i
invariant-loop-i l =
    (length l.buf ≡ length l.initial.buf) ×
    (row_from l.symbols l.tables (l.i-end - l.i) l.i (wr l.v l.buf) ≡ row_from l.symbols l.tables l.i-end 0 (wr l.initial.v l.initial.buf))
