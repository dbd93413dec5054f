-- `cwrs::decode_pulses`: the gate's number is the contract's; behind 0 the worker's vector stands in the places. Assumes nothing.
use Rattle.entcode.specs.Said.{verdict}
use Rattle.entcode.proofs.Said.{stopped-says, stopped-some}
use mathlib.Core.Path.{◌≡◌, sym, ◌∙◌, ap}
use mathlib.Core.Bool.{true}
use native.Mathlib.Omega.{arith}
use lib.Dec.{lit≤}
use lib.ListN.{length}
use borrow.Author.Tests.{eqb-true}
use Rattle.entdec.proofs.Accepted.{Open, opened}
use Rattle.entdec.proofs.Chain.{sound_ready}
use Rattle.cwrs.specs.Answer.{in_domain, places_sized, special_read, refusal_read}
use Rattle.cwrs.proofs.Refusing.{domain, read_fits}
use Rattle.cwrs.proofs.Answers.{answer_got, answer-refused}
use Rattle.cwrs.proofs.decode_pulses.Goals as goal
use Rattle.cwrs.proofs.decode_pulses.Goals.{After-refusal_read, In_ok-refusal_read}

-- the gate's number, in the contract's terms
gated : (c : After-refusal_read) → let a = c.args in
    verdict c.refusal_read.result ≡ refusal_read a.n a.k a.s.now a.d a.y.now
unfolding refusal_read
gated c = c.refusal_read.ensures

-- number 0
passed : (c : In_ok-refusal_read) → let a = c.args in
    Open (length a.s.now) a.d (places_sized a.y.now) (in_domain a.n a.k) true (special_read a.n a.k)
unfolding refusal_read
passed c = opened _ _ _ _ _ _ (sym (gated (goal.at.In_ok-refusal_read c).After-refusal_read) ∙ (ap verdict c.in_ok-refusal_read.was))

pub decode-requires : goal.decode-requires
decode-requires c =
    let a = c.args in
    let o = passed (goal.at.decode-requires c).In_ok-refusal_read in
    let d = domain a.n a.k o.known in
    let l = eqb-true
    (length a.y.now)
    176 o.sizes
    in record { ready = sound_ready 1 a.d o.state (lit≤ tt); le_n = (d.n_low, d.n_high, omega arith, d.k_low, d.k_high, read_fits a.n a.k o.none) }

pub returns : goal.returns
returns c =
    let g = gated (goal.at.returns c).After-refusal_read in
    let e = c.decode.ensures in
    rw (e.0, e.1) (answer_got _ _ _ _ (sym g ∙ (ap verdict c.in_ok-refusal_read.was)))

pub returns-in_err-refusal_read : goal.returns-in_err-refusal_read
returns-in_err-refusal_read c =
    let h = c.in_err-refusal_read in
    rw (stopped-says _ _ _ h.was c.from_residual.ensures.1) (let g = gated (goal.at.returns-in_err-refusal_read c).After-refusal_read in
    rw g (answer-refused _ _ _ _ (rw g at (stopped-some _ _ h.was))))
