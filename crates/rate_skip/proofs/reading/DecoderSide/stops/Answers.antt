-- `rate_skip::reading::DecoderSide::stops`: a bit is what a decoder answers. Assumes nothing.
use Rattle.rate_spec.specs.Answers.{decoder_ask}
use Rattle.rate_skip.proofs.reading.DecoderSide.stops.Goals as goal

pub returns-clause-answered : goal.returns-clause-answered
unfolding decoder_ask
returns-clause-answered c = c.take.ensures.taken
