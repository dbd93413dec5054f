-- `rate_skip::reading::Decoder::take`: the answer is whether the bit is a 1, and it leaves the reader ready for one symbol less. The check finds the first
-- alone, but the edit flag_is_read_upside_down would then fall only by a limit of the search. Assumes nothing.
use mathlib.Core.Path.{refl}
use Rattle.rate_skip.proofs.Following.{bit-read}
use Rattle.rate_skip.proofs.reading.Decoder.take.Goals as goal

pub returns-clause-follows : goal.returns-clause-follows
returns-clause-follows c k r = rw c.bit-y.ensures (bit-read k c.args.self.now.s.now c.args.self.now.at r)

pub returns-clause-taken : goal.returns-clause-taken
returns-clause-taken c = rw c.bit-y.ensures refl
