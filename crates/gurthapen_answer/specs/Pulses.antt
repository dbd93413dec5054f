-- What the answers of cwrs say, in lists.
use Rattle.std.specs.Prelude.{ℕ, List, [], ◌∷◌, ℤ}
use Rattle.entcode.specs.Said.{Said, map_said}
use Rattle.cwrs.specs.Answer.{AfterRead}
use Rattle.cwrs.specs.declared.Found.{Found}
use Rattle.gurthapen_answer.specs.Result.{also}
use Rattle.gurthapen_state.specs.State.{list_of_reader}

-- of a read: the next reader's list, and the vector's energy
abbrev pub lists_found : Said Found → Said (List ℤ × List ℕ)
lists_found a = map_said (λ (f : Found). (list_of_reader f.next, f.energy ∷ [])) a

-- and the places of the vector beside them
abbrev pub lists_placed : AfterRead → Said ((List ℤ × List ℕ) × List ℤ)
lists_placed y = also (lists_found y.said) y.places
