-- What a public call says: document 01's number and values, whatever the call. The promises are stated by it.
use Rattle.std.specs.Prelude.{ℕ, zero, suc, Result, Ok, Err}
use Rattle.entcode.specs.declared.reasons.Refusal.{Refusal}
use Rattle.entcode.specs.Refusal.{number_of}

-- the values of a call that is done, whose number is 0; or the number of the refusal and nothing else
pub data Said (A : Type 0) : Type 0 where
  done : A → Said A
  refused : ℕ → Said A

-- document 01's number, 0 where it is no refusal
abbrev pub number : {A : Type 0} → Said A → ℕ
number (Said.done v) = 0
number (Said.refused n) = n

-- number 0: the values; any other: that refusal
unfoldable pub answer : {A : Type 0} → ℕ → A → Said A
answer zero v = Said.done v
answer (suc n) v = Said.refused (suc n)

-- what a thing that was lent for writing holds afterwards. number 0: what was written; any other: what it held before
unfoldable pub lent_after : {A : Type 0} → ℕ → A → A → A
lent_after zero written before = written
lent_after (suc n) written before = before

-- what is said, with a function of its values
abbrev pub map_said : {A B : Type 0} → (A → B) → Said A → Said B
map_said f (Said.done v) = Said.done (f v)
map_said f (Said.refused n) = Said.refused n

-- what a call's Result says: its values, or the number of the refusal
abbrev pub said : {A : Type 0} → Result A Refusal → Said A
said (Ok v) = Said.done v
said (Err why) = Said.refused (number_of why)

-- the number of what a call or a gate answers, 0 where it is no refusal
abbrev pub verdict : {A : Type 0} → Result A Refusal → ℕ
verdict r = number (said r)
