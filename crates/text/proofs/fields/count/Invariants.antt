-- `text::fields::count`: the tabs so far, and one. Assumes nothing.
use Prim.Native.Nat.{◌+◌}
use mathlib.Core.Path.{◌≡◌}
use lib.Dec.{eqb}
use lib.ListN.{take}
use Rattle.std.specs.List.{count_by}
use Rattle.text.proofs.fields.count.Given as goal

abbrev pub invariant-loop-b : goal.invariant-loop-b
invariant-loop-b l = l.n ≡ count_by (λ c. eqb c 9) (take l.b-index l.s) + 1
