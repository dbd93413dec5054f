-- `rate_trial::search::halve`: the count of trials tells what is left of the search, whatever the trials are said to answer. Assumes nothing.
use Rattle.std.proofs.Common.{◌-◌, ◌≡◌, ℕ, Bool, ◌≤◌, ◌<◌, ◌^◌, ◌+◌}
use Rattle.rate_trial.specs.Calls.{Left}
use Rattle.rate_trial.proofs.Halving.{Search}
use Rattle.rate_trial.proofs.search.halve.Given as goal

abbrev pub invariant-loop-lo : goal.invariant-loop-lo
invariant-loop-lo g l =
    ((said : ℕ → Bool) (n : ℕ) → l.fn.top ≤ 2 ^ n
    → ((f h : _) (x : ℕ) (r : Bool) → Left (goal.F-step g) l.fn.top l.fn.over f → x < l.fn.top → goal.F-step g f x r h → r ≡ said x)
    → Search said n 0 l.fn.top l.lo l.hi l.trials)
    × Left (goal.F-step g) l.fn.top l.fn.over l.over × (l.lo < l.hi) × (l.hi ≤ l.fn.top) × (l.trials + (l.hi - l.lo) ≤ l.fn.top)

abbrev pub decreases-loop-lo : goal.decreases-loop-lo
decreases-loop-lo g l = l.hi - l.lo
