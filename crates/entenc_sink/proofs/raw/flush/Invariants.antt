-- `entenc_sink::raw::flush`: the remaining bytes give from here what all gave at the start. Assumes nothing.
use Prim.Native.Nat.{◌-◌}
use mathlib.Core.Path.{◌≡◌}
use Rattle.entenc_sink.specs.Out.{out, flushed, left_of}
use Rattle.entenc_sink.specs.Fit.{Fit}
use Rattle.entenc_sink.proofs.raw.flush.Given as goal

abbrev pub invariant-loop : goal.invariant-loop
invariant-loop l =
    Fit (out l.t l.buf) × (flushed l.end l.initial.w (out l.initial.t l.initial.buf) ≡ flushed (l.end - l.counter) l.w (out l.t l.buf))
    × (left_of l.end l.initial.w ≡ left_of (l.end - l.counter) l.w)
