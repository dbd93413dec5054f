-- `trip_call::rows::same_tells`: both comparisons. The check finds this alone, but the edit eighths_are_not_compared would then fall only by a limit of the
-- search. Assumes nothing.
use native.Mathlib.Omega.{arith}
use mathlib.Core.Path.{◌≡◌}
use Rattle.trip_theorem.specs.Calls.{tells_r, tells_w}
use Rattle.trip_call.specs.Same.{same_tell}
use Rattle.trip_call.proofs.rows.same_tells.Goals as goal

pub returns : goal.returns
returns c =
    let a = c.args in
    let b : c.same_tell-bits.result ≡ same_tell (tells_w a.w).bits (tells_r a.d).bits = rw (← c.tell.ensures, ← c.tell-2.ensures) c.same_tell-bits.ensures in
    let e : c.same_tell-eighths.result ≡ same_tell (tells_w a.w).eighths (tells_r a.d).eighths =
    rw (← c.tell_frac.ensures, ← c.tell_frac-2.ensures) c.same_tell-eighths.ensures in
    grind (arith, b, e)
