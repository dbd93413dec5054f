-- `laplace::chain::walk`: what is left of the walk from the step on gives the whole walk, whatever is said of `more`. Assumes nothing.
use Rattle.std.proofs.Common.{◌≡◌, Bool, ◌+◌, ◌*◌, ◌≤◌, ◌-◌}
use Rattle.laplace.specs.declared.chain.Step.{Step}
use Rattle.laplace.specs.Chain.{first_step}
use Rattle.laplace.proofs.Walks.{Along, Left}
use Rattle.laplace.proofs.chain.walk.Given as goal

abbrev pub invariant-loop-s : goal.invariant-loop-s
invariant-loop-s g l =
    Along l.decay l.s
    × ((said : Step → Bool) → ((s : Step) (r : Bool) → s.fl + 2 * s.f + 2 ≤ 32768 → goal.F-post g l.fn.more s r → r ≡ said s)
    → Left said l.decay (first_step l.fs l.decay) l.s)
    × (l.more ≡ l.fn.more)

abbrev pub decreases-loop-s : goal.decreases-loop-s
decreases-loop-s g l = 33 - l.s.i
