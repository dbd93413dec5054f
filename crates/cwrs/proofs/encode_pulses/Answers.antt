-- `cwrs::encode_pulses`: the gate's number is the contract's; behind 0 the worker's write is what is answered. Assumes nothing.
use Rattle.entcode.specs.Said.{verdict}
use Rattle.entcode.proofs.Said.{stopped-says, stopped-some}
use mathlib.Core.Path.{◌≡◌, sym, ◌∙◌, ap}
use native.Mathlib.Omega.{arith}
use lib.Dec.{lit≤}
use lib.ListN.{length}
use borrow.Author.Tests.{eqb-true}
use Rattle.entenc.specs.Write.{wr}
use Rattle.entenc.proofs.Taken.{ready_of, say-next, say_no}
use Rattle.cwrs.specs.Answer.{in_domain, places_sized, special_write, refusal_write, write_word}
use Rattle.cwrs.proofs.Refusing.{Opened, opened, domain, write-fits}
use Rattle.cwrs.proofs.encode_pulses.Goals as goal
use Rattle.cwrs.proofs.encode_pulses.Goals.{After-refusal_write, In_ok-refusal_write}

-- the gate's number, in the contract's terms
gated : (c : After-refusal_write) → let a = c.args in
    verdict c.refusal_write.result ≡ refusal_write a.n a.k a.y.now (wr a.w a.buf.now)
unfolding refusal_write
gated c = c.refusal_write.ensures

-- number 0
passed : (c : In_ok-refusal_write) → let a = c.args in
    Opened (length a.buf.now) a.w (places_sized a.y.now) (in_domain a.n a.k) (special_write a.y.now a.n a.k)
unfolding refusal_write
passed c = opened _ _ _ _ _ (sym (gated (goal.at.In_ok-refusal_write c).After-refusal_write) ∙ (ap verdict c.in_ok-refusal_write.was))

pub encode-requires : goal.encode-requires
encode-requires c =
    let a = c.args in
    let o = passed (goal.at.encode-requires c).In_ok-refusal_write in
    let d = domain a.n a.k o.known in
    let l = eqb-true (length a.y.now) 176 o.sizes in
    let f = write-fits
    a.y.now a.n
    a.k o.none
    in record { ready = ready_of 1 (wr a.w a.buf.now) (lit≤ tt) o.state o.whole; le_n = (d.n_low, d.n_high, omega arith, d.k_low, d.k_high, f.0, f.1) }

pub returns : goal.returns
returns c =
    let a = c.args in
    let w = wr a.w a.buf.now in
    let y = a.y.now in
    let e = c.encode in
    say-next _ (refusal_write a.n a.k y w) w (write_word a.n a.k y w) (gated (goal.at.returns c).After-refusal_write)
    (wr e.result e.new.buf) (ap verdict c.in_ok-refusal_write.was) e.ensures

pub returns-in_err-refusal_write : goal.returns-in_err-refusal_write
returns-in_err-refusal_write c =
    let h = c.in_err-refusal_write in
    rw (stopped-says _ _ _ h.was c.from_residual.ensures.1) (let a = c.args in
    let w = wr a.w a.buf.now in
    let y = a.y.now in
    say_no _ (refusal_write a.n a.k y w) w (write_word a.n a.k y w) (gated (goal.at.returns-in_err-refusal_write c).After-refusal_write)
    (stopped-some _ _ h.was))
