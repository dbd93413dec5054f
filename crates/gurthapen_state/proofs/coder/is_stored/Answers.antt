-- `gurthapen_state::coder::is_stored`: by the list's length. Assumes nothing.
use borrow.Author.Tests.{eq-eqb}
use Rattle.gurthapen_state.proofs.coder.is_stored.Goals as goal

pub returns-then-state-eq12 : goal.returns-then-state-eq12
returns-then-state-eq12 c = rw (eq-eqb _ _ c.if-state-eq12.true) c.fits_at.ensures
