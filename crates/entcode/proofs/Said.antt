-- What is said, by its number; and that an enum that can be recovered from what it says is given by it. Assumes nothing.
use Rattle.std.specs.Prelude.{Result, Ok, Err, IsErrAnd}
use Rattle.std.proofs.lemmas.Result.{err_from_is_err_and}
use Prim.Native.Nat.{ℕ, zero, suc}
use mathlib.Core.Path.{◌≡◌, refl, sym, ap, ◌∙◌}
use mathlib.Core.Bool.{false, cond}
use native.Mathlib.Omega.{arith}
use lib.Dec.{eqb}
use Rattle.entcode.specs.declared.reasons.Refusal.{Refusal}
use Rattle.entcode.specs.declared.reasons.Refusal.TheVariants.{
  Number,
  Length,
  Entry,
  PastEnd,
  NoRow,
  Index,
  Count,
  Sum,
  Rotation,
  BelowNext,
  AboveNext,
  Closed,
}
use Rattle.entcode.specs.Refusal.{number_of}
use Rattle.entcode.specs.Said.{Said, number, answer, lent_after, said, verdict}
use Rattle.entcode.specs.Said.Said.{done, refused}

module _ {A : Type 0} where
  -- the number of an answer is the one that it was made of
  pub number-answer : (n : ℕ) (v : A) → number (answer n v) ≡ n
  unfolding answer
  number-answer zero v = refl
  number-answer (suc n) v = refl

  -- number 0 says the values
  pub answer-done : (n : ℕ) (v : A) → n ≡ 0 → answer n v ≡ done v
  unfolding answer
  answer-done n v e = rw e

  -- any other says itself
  pub answer-refused : (n : ℕ) (v : A) → (n ≡ 0 → ⊥) → answer n v ≡ refused n
  unfolding answer
  answer-refused zero v h = absurd (h refl)
  answer-refused (suc n) v h = refl

  -- what was lent is as it was after a refusal
  pub lent-refused : (n : ℕ) (written before : A) → (n ≡ 0 → ⊥) → lent_after n written before ≡ before
  unfolding lent_after
  lent-refused zero written before h = absurd (h refl)
  lent-refused (suc n) written before h = refl

  -- an enum that can be recovered from what it says: two that say the same are one
  pub alike : {E : Type 0} (said : E → Said A) (back : Said A → E) → ((r : E) → back (said r) ≡ r) → {a b : E} → said a ≡ said b → a ≡ b
  alike said back h {a} {b} e = sym (h a) ∙ ap back e ∙ h b

-- every refusal has a number that is not 0
pub number_of-some : (why : Refusal) → eqb (number_of why) 0 ≡ false
number_of-some Number = refl
number_of-some Length = refl
number_of-some Entry = refl
number_of-some PastEnd = refl
number_of-some NoRow = refl
number_of-some Index = refl
number_of-some Count = refl
number_of-some Sum = refl
number_of-some Rotation = refl
number_of-some BelowNext = refl
number_of-some AboveNext = refl
number_of-some Closed = refl

-- no refusal has number 0
pub some : (why : Refusal) → number_of why ≡ 0 → ⊥
some Number e = absurd (omega arith)
some Length e = absurd (omega arith)
some Entry e = absurd (omega arith)
some PastEnd e = absurd (omega arith)
some NoRow e = absurd (omega arith)
some Index e = absurd (omega arith)
some Count e = absurd (omega arith)
some Sum e = absurd (omega arith)
some Rotation e = absurd (omega arith)
some BelowNext e = absurd (omega arith)
some AboveNext e = absurd (omega arith)
some Closed e = absurd (omega arith)

-- the refusal that has a number
abbrev pub of_number : ℕ → Refusal
of_number n =
    cond (eqb n 1) Number (
    cond (eqb n 2) Length (
    cond (eqb n 3) Entry (
    cond (eqb n 4) PastEnd (
    cond (eqb n 5) NoRow (
    cond (eqb n 6) Index (
    cond (eqb n 7) Count (
    cond (eqb n 8) Sum (
    cond (eqb n 9) Rotation (
    cond (eqb n 10) BelowNext (
    cond (eqb n 11) AboveNext Closed))))))))))

-- a refusal has no number but its own
pub of_number-back : (why : Refusal) → of_number (number_of why) ≡ why
of_number-back Number = refl
of_number-back Length = refl
of_number-back Entry = refl
of_number-back PastEnd = refl
of_number-back NoRow = refl
of_number-back Index = refl
of_number-back Count = refl
of_number-back Sum = refl
of_number-back Rotation = refl
of_number-back BelowNext = refl
of_number-back AboveNext = refl
of_number-back Closed = refl

-- what is answered, recovered from what it says
abbrev pub from_said : {A : Type 0} → Said A → Result A Refusal
from_said (done v) = Ok v
from_said (refused n) = Err (of_number n)

-- recovering it gives the answer
pub said_back : {A : Type 0} (r : Result A Refusal) → from_said (said r) ≡ r
said_back (Ok v) = refl
said_back (Err why) = ap Err (of_number-back why)

-- two answers that say the same are one
pub said_same : {A : Type 0} {a b : Result A Refusal} → said a ≡ said b → a ≡ b
said_same e = alike said from_said said_back e

-- two answers without values that have one number are one
pub verdict_same : {a b : Result (Unit {0}) Refusal} → verdict a ≡ verdict b → a ≡ b
verdict_same {a = Ok u} {b = Ok v} e = refl
verdict_same {a = Ok u} {b = Err why} e = absurd (some why (sym e))
verdict_same {a = Err why} {b = Ok v} e = absurd (some why e)
verdict_same {a = Err why} {b = Err why'} e = ap Err (sym (of_number-back why) ∙ ap of_number e ∙ of_number-back why')

-- a call that a gate stops, by `?`, says the gate's refusal
pub stopped-says : {A B : Type 0} (gate : Result A Refusal) (out : Result B Refusal) (why : Refusal) → gate ≡ Err why → IsErrAnd out (λ e. e ≡ why)
    → said out ≡ refused (verdict gate)
stopped-says gate out why was h = let p = err_from_is_err_and out h in rw (p.1, p.2, was) refl

-- the number of a gate that stops a call is not 0
pub stopped-some : {A : Type 0} (gate : Result A Refusal) (why : Refusal) → gate ≡ Err why → verdict gate ≡ 0 → ⊥
stopped-some gate why was e = some why (sym (ap verdict was) ∙ e)
