-- `entdec::Reader::uint`: number 0 of the gate gives the worker its needs; any other is the refusal. Assumes nothing.
use mathlib.Core.Path.{◌≡◌, sym, ap, ◌∙◌}
use lib.Dec.{lit≤}
use Rattle.laws.proofs.Tests.{between}
use Rattle.entcode.specs.Sym.{length_ok, shape_ok, list_ok}
use Rattle.entcode.specs.Said.{verdict}
use Rattle.entcode.proofs.Said.{answer-done, answer-refused, stopped-says, stopped-some}
use Rattle.entcode.specs.Sym.Shape.{uint}
use Rattle.entdec.specs.Rule.{refusal_r}
use Rattle.entdec.proofs.Accepted.{opened_for}
use Rattle.entdec.proofs.Chain.{sound_ready}
use Rattle.entdec.proofs.Reader.uint.Goals as goal
use Rattle.entdec.proofs.Reader.uint.Goals.{After-refusal}

-- the gate's number, in the contract's terms
gated : (c : After-refusal) → let a = c.args in verdict c.refusal.result ≡ refusal_r (uint a.ft) a.s.now a.self
unfolding refusal_r length_ok shape_ok list_ok
gated c = c.refusal.ensures

pub uniform-requires : goal.uniform-requires
unfolding shape_ok
uniform-requires c =
    let a = c.args in
    let o = opened_for (uint a.ft) a.s.now a.self (sym (gated (goal.at.uniform-requires c).After-refusal) ∙ ap verdict c.in_ok-refusal.was) in
    record { ready = sound_ready 1 a.self o.state (lit≤ tt); le_ft = (between 2 a.ft 4294967295 o.known).0 }

pub returns : goal.returns
returns c =
    let g = gated (goal.at.returns c).After-refusal in
    rw c.uniform.ensures (sym (answer-done _ _ (sym g ∙ ap verdict c.in_ok-refusal.was)))

pub returns-in_err-refusal : goal.returns-in_err-refusal
returns-in_err-refusal c =
    let h = c.in_err-refusal in
    rw (stopped-says _ _ _ h.was c.from_residual.ensures.1) (let g = gated (goal.at.returns-in_err-refusal c).After-refusal in
    rw g (sym (answer-refused _ _ (rw g at (stopped-some _ _ h.was)))))
