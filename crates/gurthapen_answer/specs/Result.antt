-- What an exported call leaves: one shape for every call. A is what it is lent for writing, all lists together.
use Rattle.std.specs.Prelude.{ℕ, Bool, cond, List, [], ◌∷◌}
use Rattle.entcode.specs.Said.{Said, map_said}

-- what a call says, with a list that it wrote itself beside the others
abbrev pub also : {A B : Type 0} → Said A → B → Said (A × B)
also (Said.done v) w = Said.done (v, w)
also (Said.refused n) w = Said.refused n

-- a call that gives one number: a list of it
abbrev pub lists_number : {A : Type 0} → Said A → Said (List A)
lists_number {A} a = map_said (λ (n : A). n ∷ []) a

-- what it leaves: its number, 0 where it is no refusal, and what the lists then hold
pub record Result (A : Type 0) : Type 0 where
  pub number : ℕ
  pub lent : A

-- from its parts
abbrev pub result : {A : Type 0} → ℕ → A → Result A
result n v = record { number = n; lent = v }

-- a refusal leaves every list as it was before
unfoldable pub result_of : {A : Type 0} → Said A → A → Result A
result_of (Said.done v) before = result 0 v
result_of (Said.refused n) before = result n before

-- a state or a result list of another length is 2, before everything else; so is a storage that no lent length can equal, where bytes are lent
unfoldable pub exported : {A : Type 0} → Bool → Said A → A → Result A
exported lengths said before = cond lengths (result_of said before) (result 2 before)
