-- `rate_skip::reading::DecoderSide::dual`: a bit is what a decoder answers. Assumes nothing.
use Rattle.rate_spec.specs.Answers.{decoder_ask}
use Rattle.rate_skip.proofs.reading.DecoderSide.dual.Goals as goal

pub returns-clause-answered : goal.returns-clause-answered
unfolding decoder_ask
returns-clause-answered c f = c.take.ensures.taken
