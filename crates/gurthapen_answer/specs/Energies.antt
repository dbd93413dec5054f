-- What the answers of quant_bands say, in lists.
use Rattle.std.specs.Prelude.{List, ℤ, Float}
use Rattle.entcode.specs.Said.{Said}
use Rattle.quant_bands.specs.Answer.{After}
use Rattle.gurthapen_answer.specs.Result.{also}
use Rattle.gurthapen_answer.specs.Dec.{lists_reader}

-- of a decode: the next reader's list, and the energies beside it
abbrev pub lists_energies : After → Said (List ℤ × List Float)
lists_energies y = also (lists_reader y.said) y.energies
