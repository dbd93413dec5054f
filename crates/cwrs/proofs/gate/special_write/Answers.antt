-- `cwrs::gate::special_write`: the count first, and then the pulses of the first n places. Assumes nothing.
use mathlib.Core.Path.{◌≡◌, sym, ◌∙◌}
use mathlib.Core.Bool.{true, ◌&&◌, and-eq-true_iff}
use native.Mathlib.Omega.{arith}
use Rattle.cwrs.specs.Answer.{in_domain, places_sized}
use Rattle.cwrs_counts.proofs.Recurrence.{count-zero, count-some}
use Rattle.cwrs.proofs.Refusing.{Domain, domain, write-none, write_seven, write_eight}
use Rattle.cwrs.proofs.gate.special_write.Goals as goal
use Rattle.cwrs.proofs.gate.special_write.Goals.{Else-not-asked}

-- lengths and numbers are right
inside : (c : Else-not-asked) → let a = c.args in (places_sized a.y.now && in_domain a.n a.k) ≡ true
inside c = rw c.in_domain.ensures at c.if-not-asked.false

known : (c : Else-not-asked) → let a = c.args in Domain a.n a.k
known c =
    let a = c.args in
    domain a.n a.k ((and-eq-true_iff (places_sized a.y.now) (in_domain a.n a.k)).0 (inside c)).1

pub returns-then-pvq_v-eq0 : goal.returns-then-pvq_v-eq0
returns-then-pvq_v-eq0 c =
    let a = c.args in
    let d = known (goal.at.returns-then-pvq_v-eq0 c).Else-not-asked in
    rw (inside (goal.at.returns-then-pvq_v-eq0 c).Else-not-asked)
    (write_seven a.y.now a.n a.k (count-zero a.n a.k c.pvq_v.ensures (omega arith) c.if-pvq_v-eq0.true))

pub returns-then-total-k : goal.returns-then-total-k
returns-then-total-k c =
    let a = c.args in
    rw (inside (goal.at.returns-then-total-k c).Else-not-asked)
    (write-none a.y.now a.n a.k
    (count-some a.n a.k c.pvq_v.ensures c.if-pvq_v-eq0.false)
    (sym c.total.ensures ∙ c.if-total-k.true))

pub returns-else-total-k : goal.returns-else-total-k
returns-else-total-k c =
    let a = c.args in
    rw (inside (goal.at.returns-else-total-k c).Else-not-asked)
    (write_eight a.y.now a.n a.k
    (count-some a.n a.k c.pvq_v.ensures c.if-pvq_v-eq0.false)
    (λ e. c.if-total-k.false (c.total.ensures ∙ e)))
