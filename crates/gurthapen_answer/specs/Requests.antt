-- What the answers of lister_answer say, in lists.
use Rattle.std.specs.Prelude.{ℕ, List}
use Rattle.entcode.specs.Said.{Said}
use Rattle.lister_answer.specs.Answer.{After}
use Rattle.gurthapen_answer.specs.Result.{also, lists_number}

-- how many bytes the answer has, and the bytes beside it
abbrev pub lists_listed : After → Said (List ℕ × List ℕ)
lists_listed y = also (lists_number y.said) y.lent
