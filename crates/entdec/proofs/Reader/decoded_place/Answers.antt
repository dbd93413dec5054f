-- `entdec::Reader::decoded_place`: the quotient and 1, cut off at ft, is the minimum of the definition. Assumes nothing.
use Rattle.entdec.specs.Read.{decoded_place}
use borrow.Author.Rules.{rules}
use Rattle.entdec.proofs.Reader.decoded_place.Goals as goal

pub returns : goal.returns
unfolding decoded_place
returns c = search rules
