-- What the answers of entenc say, in lists.
use Rattle.std.specs.Prelude.{ℕ, List, ℤ}
use Rattle.entcode.specs.Said.{Said}
use Rattle.entenc.specs.Answer.{After}
use Rattle.entenc.specs.declared.Writer.{Writer}
use Rattle.gurthapen_answer.specs.Coder.{lists_coder}
use Rattle.gurthapen_answer.specs.Result.{also}
use Rattle.gurthapen_state.specs.State.{list_of_writer}

-- of a writer's answer: the next writer's list
abbrev pub lists_writer : Said Writer → Said (List ℤ)
lists_writer a = lists_coder list_of_writer a

-- and the bytes beside it
abbrev pub lists_wrote : After → Said (List ℤ × List ℕ)
lists_wrote y = also (lists_writer y.said) y.bytes
