-- `text::read::digits`: the invariant: the value so far and the digits that remain give what all digits give, and it is at most the bound, so that 64
-- bits hold it with a digit more. Assumes nothing.
use Prim.Native.Nat.{◌≤◌}
use mathlib.Core.Path.{◌≡◌}
use lib.ListN.{drop}
use Rattle.text.proofs.Values.{digits_after}
use Rattle.text.proofs.read.digits.Given as goal

abbrev pub invariant-loop-b : goal.invariant-loop-b
invariant-loop-b l = (l.v ≤ l.most) × (digits_after l.base l.most l.v (drop l.b-index l.s) ≡ digits_after l.base l.most 0 l.s)
