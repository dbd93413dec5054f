-- What answers with a coder say, in lists, whatever the coder.
use Rattle.std.specs.Prelude.{List, [], ◌∷◌, ℤ}
use Rattle.entcode.specs.Said.{Said, map_said}
use Rattle.entcode.specs.declared.Coded.{Coded}

-- of a call that gives the coder after it and nothing else: that coder's list
abbrev pub lists_coder : {C : Type 0} → (C → List ℤ) → Said C → Said (List ℤ)
lists_coder list a = map_said list a

-- of a call that gives a value and the coder after it: that coder's list, and the value
abbrev pub lists_coded : {V C : Type 0} → (C → List ℤ) → Said (Coded V C) → Said (List ℤ × List V)
lists_coded {V} {C} list a = map_said (λ (y : Coded V C). (list y.next, y.value ∷ [])) a
