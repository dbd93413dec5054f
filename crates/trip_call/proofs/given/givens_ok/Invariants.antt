-- `trip_call::given::givens_ok`: what is left of the test from the i-th symbol on is the whole test. Assumes nothing.
use Prim.Native.Nat.{◌-◌}
use mathlib.Core.Path.{◌≡◌}
use Rattle.trip_call.specs.Given.{givens_ok}
use Rattle.trip_call.proofs.given.givens_ok.Given as goal

abbrev pub invariant-loop-i : goal.invariant-loop-i
invariant-loop-i l = givens_ok l.symbols l.room (l.i-end - l.i) l.i ≡ givens_ok l.symbols l.room l.i-end 0
