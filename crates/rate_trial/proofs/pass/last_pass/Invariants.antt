-- `rate_trial::pass::last_pass`: the bands from j up were written. Assumes nothing.
use mathlib.Core.List.{[]}
use Prim.Native.Nat.{◌-◌}
use mathlib.Core.Path.{◌≡◌}
use Rattle.rate_bands.specs.Inputs.{alloc_in}
use Rattle.laws.specs.Lists.{fill}
use Rattle.rate_spec.specs.Trials.{kept_bits}
use Rattle.rate_trial.specs.Points.{point_bits}
use Rattle.rate_trial.proofs.LastPass.{Down}
use Rattle.rate_trial.proofs.pass.last_pass.Given as goal

abbrev pub invariant-loop-j : goal.invariant-loop-j
invariant-loop-j l =
    let x = point_bits l.p.lows.now l.p.gaps.now l.p.q in
    let kept = kept_bits (alloc_in l.p.f [] l.caps) x in
    Down l.p.f l.caps x kept l.j l.reached l.sum × (l.bits ≡ fill kept l.j (l.p.f.end - l.j) l.initial.bits)
