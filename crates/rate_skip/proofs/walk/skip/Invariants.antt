-- `rate_skip::walk::skip`: before each round, the rounds that are left give what all of them gave. Assumes nothing.
use mathlib.Core.List.{[]}
use Prim.Native.Nat.{suc, ◌+◌, ◌-◌, ◌≤◌}
use mathlib.Core.Path.{◌≡◌}
use lib.ListN.{length, get_or}
use Rattle.modes.specs.Edges.{edge}
use Rattle.rate_spec.specs.Skips.{skip}
use Rattle.rate_bands.specs.Inputs.{bare}
use Rattle.rate_skip.specs.Rounds.{skip_ending, kept_of, round_of}
use Rattle.rate_skip.proofs.Going.{Going}
use Rattle.rate_skip.proofs.walk.skip.Given as goal

abbrev pub invariant-loop-j : goal.invariant-loop-j
invariant-loop-j g l =
    let S = g.S.Side in
    (l.j ≤ l.f.end) × (l.hi ≡ edge l.j) × (length l.kept ≡ length l.initial.kept) × S.ready (l.j - suc l.low + 2) l.side
    × S.alike l.initial.side l.side
    × Going l.f l.bits (S.ask l.initial.side l.f) l.low
    (skip_ending (skip (bare l.f) (λ j. get_or l.bits j 0) (S.ask l.initial.side l.f) (l.f.end - suc l.low) (round_of l.f.end l.left l.reserve [])
    (S.state l.initial.side)))
    (round_of l.j l.rest l.held (kept_of l.f.end l.j l.kept)) (S.state l.side)
