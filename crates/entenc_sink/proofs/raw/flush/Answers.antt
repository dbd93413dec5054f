-- `entenc_sink::raw::flush`: the remaining bytes give from here what all gave at the start. Assumes nothing.
use Prim.Native.Nat.{◌/◌}
use mathlib.Core.Path.{sym, ap, ◌∙◌}
use native.Mathlib.Omega.{arith}
use Rattle.entenc_sink.specs.Out.{flushed, out}
use Rattle.entenc_sink.proofs.Flushes.{flush-none, flush-step, left-none, left-step}
use Rattle.entenc_sink.proofs.Outs.{end-fit}
use Rattle.entenc_sink.proofs.raw.flush.Goals as goal

pub loop-preserved : goal.loop-preserved
loop-preserved c =
    let p = c.put_end-t in
    let l = c.loop in
    let v = l.invariant in (
      rw p.ensures (end-fit _ _ v.0),
      v.1 ∙ flush-step l.w l.counter (c.args.waiting / 8) (out l.t l.buf) (omega arith) ∙ ap (flushed _ _) (sym p.ensures),
      v.2 ∙ left-step l.w l.counter (c.args.waiting / 8) (omega arith),
    )

pub returns : goal.returns
returns c =
    let l = c.loop in
    let v = l.invariant in (
      sym (v.1 ∙ flush-none l.w l.counter (c.args.waiting / 8) (out l.t l.buf) (omega arith)),
      sym (v.2 ∙ left-none l.w l.counter (c.args.waiting / 8) (omega arith)),
      omega arith,
    )
