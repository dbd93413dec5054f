-- `rate_skip::reading::DecoderSide::intensity`: what is read is one of coded + 1 - start values. Assumes nothing.
use Prim.Native.Nat.{suc, ◌+◌, ◌-◌}
use mathlib.Core.Path.{◌≡◌, ap}
use native.Mathlib.Omega.{arith}
use Rattle.entdec.specs.Coded.{ReadSymbol}
use Rattle.entdec.proofs.Values.{uint-value}
use Rattle.rate_spec.specs.Answers.{decoder_ask}
use Rattle.rate_skip.proofs.Following.{below-read}
use Rattle.rate_skip.proofs.reading.DecoderSide.intensity.Goals as goal

pub returns-clause-answered : goal.returns-clause-answered
unfolding decoder_ask
returns-clause-answered c =
    let a = c.args in
    let e : suc a.coded - a.f.start ≡ a.coded + 1 - a.f.start = omega arith in
    rw (e, c.uniform-y.ensures)

pub returns-clause-within : goal.returns-clause-within
returns-clause-within c =
    let a = c.args in
    let d = a.self.now in
    omega (arith, ap (λ (y : ReadSymbol). y.value) c.uniform-y.ensures, uint-value (a.coded + 1 - a.f.start) d.s.now d.at (omega arith))

pub returns-clause-follows : goal.returns-clause-follows
returns-clause-follows c k r =
    let a = c.args in
    let d = a.self.now in
    rw c.uniform-y.ensures (below-read k (a.coded + 1 - a.f.start) d.s.now d.at (omega arith) (omega arith) r)
