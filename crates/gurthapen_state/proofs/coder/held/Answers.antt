-- `gurthapen_state::coder::held`: by the test. Assumes nothing.
use borrow.Author.Tests.{eq-eqb, ne_eqb}
use Rattle.gurthapen_state.specs.State.{list_held}
use Rattle.gurthapen_state.proofs.Numbers.{as_number}
use Rattle.gurthapen_state.proofs.coder.held.Goals as goal

pub returns-then-rem-eq256 : goal.returns-then-rem-eq256
unfolding list_held
returns-then-rem-eq256 c = rw (eq-eqb _ _ c.if-rem-eq256.true)

pub returns-else-rem-eq256 : goal.returns-else-rem-eq256
unfolding list_held
returns-else-rem-eq256 c = rw (ne_eqb _ _ c.if-rem-eq256.false) (as_number c.ranges.rem)
