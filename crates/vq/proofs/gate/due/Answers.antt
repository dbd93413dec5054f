-- `vq::gate::due`: 7 by the count, then 9. Assumes nothing.
use native.Mathlib.Omega.{arith}
use Rattle.cwrs_counts.proofs.Recurrence.{count-zero, count-some}
use Rattle.vq.proofs.Refusing.{special_seven, special_nine, special_none}
use Rattle.vq.proofs.gate.due.Goals as goal

pub returns-then-pvq_v-eq0 : goal.returns-then-pvq_v-eq0
returns-then-pvq_v-eq0 c =
    let a = c.args in
    special_seven a.n a.k a.spread (count-zero a.n a.k c.pvq_v.ensures (omega arith) c.if-pvq_v-eq0.true)

pub returns-then-k-n : goal.returns-then-k-n
returns-then-k-n c =
    let a = c.args in
    special_nine a.n a.k a.spread (count-some a.n a.k c.pvq_v.ensures c.if-pvq_v-eq0.false) c.if-k-n.true

pub returns : goal.returns
returns c =
    let a = c.args in
    special_none a.n a.k a.spread (count-some a.n a.k c.pvq_v.ensures c.if-pvq_v-eq0.false) c.if-k-n.false
