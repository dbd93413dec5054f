-- The promises of specs/Promises.antt. Assumes nothing.
use mathlib.Core.Path.{sym, ◌∙◌}
use Rattle.cwrs.specs.Promises.{VectorOfNumber, NumberOfVector, NumbersApart}
use Rattle.cwrs.proofs.Words.{index-lt}
use Rattle.cwrs.proofs.Inverse.{word_right, word-index}

-- place by place
pub vector_of-number : VectorOfNumber
vector_of-number = word_right

-- place by place
pub number_of-vector : NumberOfVector
number_of-vector v = (index-lt v, word-index v)

-- both are the vector of that number
pub numbers_apart : NumbersApart
numbers_apart v w l p i = sym (word-index v) ∙ cc (word-index w)
