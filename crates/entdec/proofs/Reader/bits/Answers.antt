-- `entdec::Reader::bits`: number 0 of the gate gives the worker its needs; any other is the refusal. Assumes nothing.
use mathlib.Core.Path.{◌≡◌, sym, ap, ◌∙◌}
use lib.Dec.{lit≤}
use Rattle.laws.proofs.Tests.{between}
use Rattle.entcode.specs.Sym.{length_ok, shape_ok, list_ok}
use Rattle.entcode.specs.Said.{verdict}
use Rattle.entcode.proofs.Said.{answer-done, answer-refused, stopped-says, stopped-some}
use Rattle.entcode.specs.Sym.Shape.{raw}
use Rattle.entdec.specs.Rule.{refusal_r}
use Rattle.entdec.proofs.Accepted.{opened_for}
use Rattle.entdec.proofs.Chain.{sound_ready}
use native.Mathlib.Omega.{arith}
use Rattle.entdec.proofs.Reader.bits.Goals as goal
use Rattle.entdec.proofs.Reader.bits.Goals.{After-refusal}

-- the gate's number, in the contract's terms
gated : (c : After-refusal) → let a = c.args in verdict c.refusal.result ≡ refusal_r (raw a.n) a.s.now a.self
unfolding refusal_r length_ok shape_ok list_ok
gated c = c.refusal.ensures

pub raw-requires : goal.raw-requires
unfolding shape_ok
raw-requires c =
    let a = c.args in
    let o = opened_for (raw a.n) a.s.now a.self (sym (gated (goal.at.raw-requires c).After-refusal) ∙ ap verdict c.in_ok-refusal.was) in
    let r = sound_ready 0 a.self o.state (lit≤ tt) in
    ((between 1 a.n 25 o.known).1, omega arith, omega arith)

pub returns : goal.returns
returns c =
    let g = gated (goal.at.returns c).After-refusal in
    rw c.raw.ensures (sym (answer-done _ _ (sym g ∙ ap verdict c.in_ok-refusal.was)))

pub returns-in_err-refusal : goal.returns-in_err-refusal
returns-in_err-refusal c =
    let h = c.in_err-refusal in
    rw (stopped-says _ _ _ h.was c.from_residual.ensures.1) (let g = gated (goal.at.returns-in_err-refusal c).After-refusal in
    rw g (sym (answer-refused _ _ (rw g at (stopped-some _ _ h.was)))))
