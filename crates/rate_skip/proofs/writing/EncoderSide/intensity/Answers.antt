-- `rate_skip::writing::EncoderSide::intensity`: what is written is one of coded + 1 - start values. Assumes nothing.
use Prim.Native.Nat.{suc, ◌+◌, ◌-◌}
use mathlib.Core.Path.{◌≡◌}
use native.Mathlib.Omega.{arith}
use Rattle.entenc.specs.Write.{wr}
use Rattle.rate_spec.specs.Answers.{encoder_ask}
use Rattle.rate_skip.proofs.Following.{below-write}
use Rattle.rate_skip.proofs.writing.EncoderSide.intensity.Goals as goal

pub returns-clause-answered : goal.returns-clause-answered
unfolding encoder_ask
returns-clause-answered c =
    let a = c.args in
    let e : suc a.coded - a.f.start ≡ a.coded + 1 - a.f.start = omega arith in
    let g : a.coded + 1 - a.f.start - 1 ≡ a.coded - a.f.start = omega arith in
    rw (e, g, ← c.written-v.ensures.0, c.put_uint-self.ensures)

pub returns-clause-follows : goal.returns-clause-follows
returns-clause-follows c k r =
    let a = c.args in
    let e = a.self.now in
    rw c.put_uint-self.ensures (below-write k (a.coded + 1 - a.f.start) c.written-v.result (wr e.at e.bytes.now) (omega arith) (omega arith)
    (omega (arith, c.written-v.ensures.1)) r)
