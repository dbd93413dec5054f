-- `rate_skip::writing::EncoderSide::dual`: the wish is what is written. Assumes nothing.
use Rattle.rate_spec.specs.Answers.{encoder_ask}
use Rattle.rate_skip.proofs.writing.EncoderSide.dual.Goals as goal

pub returns-clause-answered : goal.returns-clause-answered
unfolding encoder_ask
returns-clause-answered c f = rw c.put.ensures.written
