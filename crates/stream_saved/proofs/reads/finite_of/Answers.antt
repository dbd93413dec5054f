-- `stream_saved::reads::finite_of`: a NaN is seen by its bits, as `from_bits` asks, and an infinity by the library's test. Assumes nothing.
use borrow.Author.Rules.{rules}
use Rattle.laws.proofs.Floats.{bits-nan, bits_no_nan, finite-is}
use Rattle.stream_saved.proofs.reads.finite_of.Goals as goal

pub returns-then-b-gt2139095040 : goal.returns-then-b-gt2139095040
returns-then-b-gt2139095040 c = rw (bits-nan _ c.if-b-gt2139095040.true)

pub float_from_bits-x : goal.float_from_bits-x
float_from_bits-x c = bits_no_nan _ c.if-b-gt2139095040.false

pub returns-then-is_finite : goal.returns-then-is_finite
returns-then-is_finite c = search (rules, finite-is)

pub returns : goal.returns
returns c = search (rules, finite-is)
