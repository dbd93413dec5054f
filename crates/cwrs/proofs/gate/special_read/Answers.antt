-- `cwrs::gate::special_read`: 0 for the count says exactly that it does not fit in 32 bits. Assumes nothing.
use mathlib.Core.Path.{◌≡◌, sym, ◌∙◌}
use mathlib.Core.Bool.{true}
use native.Mathlib.Omega.{arith}
use Rattle.cwrs.specs.Answer.{in_domain}
use Rattle.cwrs_counts.proofs.Recurrence.{count-zero, count-some}
use Rattle.cwrs.proofs.Refusing.{domain, read_none, read_seven}
use Rattle.cwrs.proofs.gate.special_read.Goals as goal
use Rattle.cwrs.proofs.gate.special_read.Goals.{Else-not-in_domain}

inside : (c : Else-not-in_domain) → in_domain c.args.n c.args.k ≡ true
inside c = sym c.in_domain.ensures ∙ c.if-not-in_domain.false

pub returns-then-pvq_v-eq0 : goal.returns-then-pvq_v-eq0
returns-then-pvq_v-eq0 c =
    let a = c.args in
    let d = domain a.n a.k (inside (goal.at.returns-then-pvq_v-eq0 c).Else-not-in_domain) in
    rw (inside (goal.at.returns-then-pvq_v-eq0 c).Else-not-in_domain)
    (read_seven a.n a.k (count-zero a.n a.k c.pvq_v.ensures (omega arith) c.if-pvq_v-eq0.true))

pub returns-else-pvq_v-eq0 : goal.returns-else-pvq_v-eq0
returns-else-pvq_v-eq0 c =
    let a = c.args in
    rw (inside (goal.at.returns-else-pvq_v-eq0 c).Else-not-in_domain) (read_none a.n a.k (count-some a.n a.k c.pvq_v.ensures c.if-pvq_v-eq0.false))
