-- `entenc_sink::front::put_run`: the remaining bytes give from here what all gave at the start. Assumes nothing.
use mathlib.Core.Path.{sym, ◌∙◌, ap}
use native.Mathlib.Omega.{arith}
use Rattle.entenc_sink.specs.Out.{emit}
use Rattle.entenc_sink.proofs.Outs.{front_fit, run_step, run-done}
use Rattle.entenc_sink.proofs.front.put_run.Goals as goal

pub loop-preserved : goal.loop-preserved
loop-preserved c =
    let p = c.put_front-t in
    let i = c.loop.invariant in
    (rw p.ensures (front_fit _ _ i.0), i.1 ∙ run_step _ _ c.loop.counter c.args.n (omega arith) ∙ ap (emit _) (sym p.ensures))

pub returns : goal.returns
returns c = sym (c.loop.invariant.1 ∙ run-done _ _ c.loop.counter c.args.n (omega arith))
