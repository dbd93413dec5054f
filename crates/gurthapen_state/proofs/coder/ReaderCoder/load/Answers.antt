-- `gurthapen_state::coder::ReaderCoder::load`: whether the first ten numbers fit. The check finds both alone, but the edit tenth_number_is_not_looked_at would
-- then fall only by a limit of the search. Assumes nothing.
use native.Mathlib.Omega.{arith}
use Rattle.gurthapen_state.proofs.coder.ReaderCoder.load.Goals as goal

pub reader_by-requires-clause-state_value : goal.reader_by-requires-clause-state_value
reader_by-requires-clause-state_value g = search arith

pub reader_by-requires-2-clause-state_value : goal.reader_by-requires-2-clause-state_value
reader_by-requires-2-clause-state_value g = search arith
