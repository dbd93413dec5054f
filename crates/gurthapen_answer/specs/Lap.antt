-- What the answers of laplace say, in lists.
use Rattle.std.specs.Prelude.{ℕ, List, ℤ}
use Rattle.entcode.specs.Said.{Said}
use Rattle.laplace.specs.Answer.{After}
use Rattle.laplace.specs.Coded.{LapSym, LapDone}
use Rattle.gurthapen_answer.specs.Coder.{lists_coded}
use Rattle.gurthapen_answer.specs.Result.{also}
use Rattle.gurthapen_state.specs.State.{list_of_reader, list_of_writer}

-- of a read: the next reader's list, and the value
abbrev pub lists_value : Said LapSym → Said (List ℤ × List ℤ)
lists_value a = lists_coded list_of_reader a

-- of a write: the next writer's list, and the value that counts as written
abbrev pub lists_done : Said LapDone → Said (List ℤ × List ℤ)
lists_done a = lists_coded list_of_writer a

-- and the bytes beside them
abbrev pub lists_wrote : After → Said ((List ℤ × List ℤ) × List ℕ)
lists_wrote y = also (lists_done y.said) y.bytes
