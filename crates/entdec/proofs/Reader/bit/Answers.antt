-- `entdec::Reader::bit`: the value lies below the last of 2^logp parts, or not: the two cases of the model. Assumes nothing.
use Rattle.laws.proofs.Powers.{shr_some}
use mathlib.Core.Path.{sym}
use native.Mathlib.Omega.{arith}
use Rattle.entdec.proofs.Forms.{bit_one, bit-zero}
use Rattle.entdec.proofs.Reader.bit.Goals as goal

pub returns-then-self-q : goal.returns-then-self-q
returns-then-self-q c =
    let a = c.args in
    let p = c.requires in
    rw c.narrow.ensures (sym (bit_one a.s.now a.self a.logp p.le_logp.0 (shr_some a.self.rng a.logp 15 p.le_logp.1 (omega arith))
    (omega arith)))

pub returns-else-self-q : goal.returns-else-self-q
returns-else-self-q c =
    let a = c.args in
    let p = c.requires in
    rw c.narrow-else-self-q.ensures (sym (bit-zero a.s.now a.self a.logp p.le_logp.0 (shr_some a.self.rng a.logp 15 p.le_logp.1 (omega arith))
    (omega arith)))
