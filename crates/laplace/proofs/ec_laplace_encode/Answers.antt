-- `laplace::ec_laplace_encode`: the gate's number is the contract's; behind 0 the worker's write is what is answered. Assumes nothing.
use Rattle.entcode.specs.Said.{verdict}
use Rattle.entcode.proofs.Said.{stopped-says, stopped-some}
use mathlib.Core.Path.{◌≡◌, ap}
use mir.Facts.{to_z-of_z}
use Rattle.entenc.specs.Rule.{refusal_w}
use Rattle.entenc.specs.Write.{wr}
use Rattle.laplace.specs.Model.{code_of}
use Rattle.laplace.specs.Answer.{lap, written_as, write_lap}
use Rattle.laplace.proofs.Answers.{write-number, write_needs, said-next, said_no}
use Rattle.laplace.proofs.ec_laplace_encode.Goals as goal
use Rattle.laplace.proofs.ec_laplace_encode.Goals.{After-refusal}

-- the gate's number, in the contract's terms
gated : (c : After-refusal)
    → let a = c.args in verdict c.refusal.result ≡ refusal_w (lap a.fs a.decay) (code_of a.value) (wr a.w a.buf.now)
gated c =
    let a = c.args in
    write-number a.fs a.decay a.value (wr a.w a.buf.now) _ _
    (simp (c.pair_known.ensures, c.in_range.ensures, to_z-of_z c.ranges.value))
    c.refusal.ensures

pub write-requires : goal.write-requires
write-requires c =
    let a = c.args in
    let n = write_needs a.fs a.decay a.value (wr a.w a.buf.now) _ (gated (goal.at.write-requires c).After-refusal) (ap verdict c.in_ok-refusal.was) in
    record { writable = n.0; decay_value = n.1 }

pub returns : goal.returns
returns c =
    let a = c.args in
    let k = c.write in
    said-next a.fs a.decay _ a.value (wr a.w a.buf.now) _ k.result k.new.buf (to_z-of_z c.ranges.value) (gated (goal.at.returns c).After-refusal)
    (ap verdict c.in_ok-refusal.was) k.ensures.0 k.ensures.1

pub returns-in_err-refusal : goal.returns-in_err-refusal
returns-in_err-refusal c =
    let h = c.in_err-refusal in
    rw (stopped-says _ _ _ h.was c.from_residual.ensures.1) (let a = c.args in
    let w = wr a.w a.buf.now in
    said_no _ _ (written_as a.fs a.decay a.value) w (write_lap a.fs a.decay a.value w) (gated (goal.at.returns-in_err-refusal c).After-refusal)
    (stopped-some _ _ h.was))
