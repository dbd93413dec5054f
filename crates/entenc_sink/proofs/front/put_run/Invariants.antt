-- `entenc_sink::front::put_run`: the remaining bytes give from here what all gave at the start. Assumes nothing.
use Prim.Native.Nat.{◌-◌}
use mathlib.Core.Path.{◌≡◌}
use lib.ListN.{replicate}
use Rattle.entenc_sink.specs.Out.{out, emit}
use Rattle.entenc_sink.specs.Fit.{Fit}
use Rattle.entenc_sink.proofs.front.put_run.Given as goal

abbrev pub invariant-loop : goal.invariant-loop
invariant-loop l =
    Fit (out l.t l.buf) × (emit (replicate l.n l.b) (out l.initial.t l.initial.buf) ≡ emit (replicate (l.n - l.counter) l.b) (out l.t l.buf))
