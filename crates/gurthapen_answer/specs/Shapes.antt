-- What the answers of vq say, in lists.
use Rattle.std.specs.Prelude.{ℕ, List, [], ◌∷◌, ℤ, Float}
use Rattle.entcode.specs.Said.{Said, map_said}
use Rattle.vq.specs.Answer.{After}
use Rattle.vq.specs.declared.ReadShape.{ReadShape}
use Rattle.gurthapen_answer.specs.Result.{also}
use Rattle.gurthapen_state.specs.State.{list_of_reader}

-- of a read: the next reader's list, and the collapse mask
abbrev pub lists_mask : Said ReadShape → Said (List ℤ × List ℕ)
lists_mask a = map_said (λ (y : ReadShape). (list_of_reader y.next, y.mask ∷ [])) a

-- and the shape beside them
abbrev pub lists_formed : After → Said ((List ℤ × List ℕ) × List Float)
lists_formed y = also (lists_mask y.said) y.shape
