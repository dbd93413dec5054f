-- `rate_skip::writing::EncoderSide::stops`: the flag that is decided on is the one that is written. Assumes nothing.
use Rattle.rate_spec.specs.Answers.{encoder_ask}
use Rattle.rate_skip.proofs.writing.EncoderSide.stops.Goals as goal

pub returns-clause-answered : goal.returns-clause-answered
unfolding encoder_ask
returns-clause-answered c = rw (← c.stops-yes.ensures, c.put.ensures.written)
