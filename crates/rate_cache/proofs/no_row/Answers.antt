-- `rate_cache::no_row`: by the row's mark. Assumes nothing.
use borrow.Author.Tests.{eq-eqb, ne_eqb}
use Rattle.rate_cache.specs.Lookups.{no_row}
use Rattle.rate_cache.proofs.Packings.{none-mark, some-mark}
use Rattle.rate_cache.proofs.no_row.Goals as goal

pub returns-then-mark_of-eq0 : goal.returns-then-mark_of-eq0
unfolding no_row
returns-then-mark_of-eq0 c = let a = c.args in rw (eq-eqb _ _ (none-mark a.lm a.band c.mark_of.ensures.0 c.if-mark_of-eq0.true))

pub returns-else-mark_of-eq0 : goal.returns-else-mark_of-eq0
unfolding no_row
returns-else-mark_of-eq0 c = let a = c.args in rw (ne_eqb _ _ (some-mark a.lm a.band c.mark_of.ensures.0 c.if-mark_of-eq0.false))
