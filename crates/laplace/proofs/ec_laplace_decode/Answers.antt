-- `laplace::ec_laplace_decode`: the gate's number is the contract's; behind 0 the worker's read is what is answered. Assumes nothing.
use Rattle.entcode.specs.Said.{verdict}
use Rattle.entcode.proofs.Said.{stopped-says, stopped-some}
use mathlib.Core.Path.{◌≡◌, ap}
use Rattle.entdec.specs.Rule.{refusal_r}
use Rattle.laplace.specs.Answer.{lap, read_lap}
use Rattle.laplace.proofs.Answers.{read_number, read_needs, said_got, said-refused}
use Rattle.laplace.proofs.ec_laplace_decode.Goals as goal
use Rattle.laplace.proofs.ec_laplace_decode.Goals.{After-refusal}

-- the gate's number, in the contract's terms
gated : (c : After-refusal) → let a = c.args in verdict c.refusal.result ≡ refusal_r (lap a.fs a.decay) a.s.now a.d
gated c =
    let a = c.args in
    read_number a.fs a.decay a.s.now a.d _ _ c.pair_known-known.ensures c.refusal.ensures

pub read-requires : goal.read-requires
read-requires c =
    let a = c.args in
    let n = read_needs a.fs a.decay a.s.now a.d _ (gated (goal.at.read-requires c).After-refusal) (ap verdict c.in_ok-refusal.was) in
    record { ready = n.0; decay_value = n.1 }

pub returns : goal.returns
returns c =
    let a = c.args in
    said_got _ _ c.read.result (read_lap a.fs a.decay a.s.now a.d) (gated (goal.at.returns c).After-refusal) (ap verdict c.in_ok-refusal.was) c.read.ensures

pub returns-in_err-refusal : goal.returns-in_err-refusal
returns-in_err-refusal c =
    let h = c.in_err-refusal in
    rw (stopped-says _ _ _ h.was c.from_residual.ensures.1) (let a = c.args in
    said-refused _ _ (read_lap a.fs a.decay a.s.now a.d) (gated (goal.at.returns-in_err-refusal c).After-refusal) (stopped-some _ _ h.was))
