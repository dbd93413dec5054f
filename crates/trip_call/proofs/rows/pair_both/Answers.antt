-- `trip_call::rows::pair_both`: by the comparison. The check finds this alone, but the edit larger_value_is_the_same would then fall only by a limit of the
-- search. Assumes nothing.
use native.Mathlib.Omega.{arith}
use mathlib.Core.Bool.{true, ◌&&◌}
use mathlib.Core.Path.{◌≡◌, refl}
use lib.Dec.{eqb}
use Rattle.std.proofs.lemmas.Bool.Decides.{nat_tests}
use Rattle.trip_call.proofs.rows.pair_both.Goals as goal

pub returns-then-x-y : goal.returns-then-x-y
returns-then-x-y c =
    let e : eqb c.args.x.value c.args.y.value && c.same_tells-tells.result ≡ true = grind (arith, nat_tests, c.if-x-y.true) in
    rw (← c.same_tells-tells.ensures, e) refl
