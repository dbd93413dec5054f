-- What the answers of rate say, in lists.
use Rattle.std.specs.Prelude.{ℕ, List, [], ◌∷◌, ℤ}
use Rattle.entcode.specs.Said.{Said, map_said}
use Rattle.rate.specs.Answer.{AfterRead, AfterWrite}
use Rattle.rate.specs.Question.{Lists}
use Rattle.rate.specs.declared.Allocation.{Allocation}
use Rattle.rate.specs.Allocations.{ReadAllocation, WrittenAllocation}
use Rattle.gurthapen_answer.specs.Result.{also}
use Rattle.gurthapen_state.specs.State.{list_of_reader, list_of_writer}

-- coded bands, balance, intensity and dual stereo as a list
abbrev pub four : ℤ → ℤ → ℤ → ℤ → List ℤ
four coded balance intensity dual = coded ∷ balance ∷ intensity ∷ dual ∷ []

-- of an allocation: the next coder's list, and the four numbers
abbrev pub lists_allocation : {C : Type 0} → (C → List ℤ) → Said (Allocation C) → Said (List ℤ × List ℤ)
lists_allocation {C} list a = map_said (λ (y : Allocation C). (list y.next, four y.coded y.balance y.intensity y.dual)) a

-- of reading
abbrev pub lists_read : Said ReadAllocation → Said (List ℤ × List ℤ)
lists_read a = lists_allocation list_of_reader a

-- of writing
abbrev pub lists_wrote : Said WrittenAllocation → Said (List ℤ × List ℤ)
lists_wrote a = lists_allocation list_of_writer a

-- of reading, with the lists of the bands
abbrev pub lists_all_read : AfterRead → Said ((List ℤ × List ℤ) × Lists)
lists_all_read y = also (lists_read y.said) y.lent

-- of writing, with the lists of the bands and the bytes
abbrev pub lists_all_wrote : AfterWrite → Said ((List ℤ × List ℤ) × (Lists × List ℕ))
lists_all_wrote y = also (lists_wrote y.said) (y.lent, y.bytes)
