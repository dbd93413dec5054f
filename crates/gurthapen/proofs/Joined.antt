-- A call that writes into lent lists itself, and what is left after it: the lists of both together, by the call's answer. A refusal leaves
-- the lists of the call as they were. Assumes nothing.
use Prim.Native.Nat.{ℕ}
use mathlib.Core.Path.{◌≡◌, ap}
use mathlib.Core.List.{List}
use lib.IntN.{ℤ}
use Rattle.entcode.specs.Said.{Said, answer, lent_after}
use Rattle.entenc.specs.declared.Writer.{Writer}
use Rattle.entenc.specs.Answer as enc
use Rattle.laplace.specs.Answer as lap
use Rattle.laplace.specs.Coded.{LapDone}
use Rattle.cwrs.specs.Answer as words
use Rattle.cwrs.specs.declared.Found as found
use Rattle.gurthapen_answer.specs.Result.{also, result, result_of}
use Rattle.gurthapen_answer.proofs.Exports.{joined}
use Rattle.gurthapen_answer.specs.Enc as enc-left
use Rattle.gurthapen_answer.specs.Lap as lap-left
use Rattle.gurthapen_answer.specs.Pulses as words_left

-- a write and its bytes
pub wrote : {a : Said Writer} {b : List ℕ} {l' : List ℤ} {r : ℕ} (l : List ℤ) (n : ℕ) (v : Writer) (written before : List ℕ)
    → ◌≡◌ {A = enc.After} (record { said = a; bytes = b }) (record { said = answer n v; bytes = lent_after n written before })
    → result r l' ≡ result_of (enc-left.lists_writer a) l
    → result {A = List ℤ × List ℕ} r (l', b) ≡ result_of (also (enc-left.lists_writer (answer n v)) (lent_after n written before)) (l, before)
wrote l n v written before e h = joined _ n v written before l (ap (λ (y : enc.After). y.said) e) (ap (λ (y : enc.After). y.bytes) e) h

-- a Laplace value and its bytes
pub wrote_value : {a : Said LapDone} {b : List ℕ} {x' : List ℤ × List ℤ} {r : ℕ} (x : List ℤ × List ℤ) (n : ℕ) (v : LapDone) (written before : List ℕ)
    → ◌≡◌ {A = lap.After} (record { said = a; bytes = b }) (record { said = answer n v; bytes = lent_after n written before })
    → result r x' ≡ result_of (lap-left.lists_done a) x
    → result {A = (List ℤ × List ℤ) × List ℕ} r (x', b) ≡ result_of (also (lap-left.lists_done (answer n v)) (lent_after n written before)) (x, before)
wrote_value x n v written before e h = joined _ n v written before x (ap (λ (y : lap.After). y.said) e) (ap (λ (y : lap.After). y.bytes) e) h

-- a vector that was read and its places
pub placed : {a : Said found.Found} {p : List ℤ} {x' : List ℤ × List ℕ} {r : ℕ} (x : List ℤ × List ℕ) (n : ℕ) (f : found.Found) (v y : List ℤ)
    → ◌≡◌ {A = words.AfterRead} (record { said = a; places = p }) (words.answer_r n f v y) → result r x' ≡ result_of (words_left.lists_found a) x
    → result {A = (List ℤ × List ℕ) × List ℤ} r (x', p) ≡ result_of (words_left.lists_placed (words.answer_r n f v y)) (x, y)
placed x n f v y e h = joined _ n f v y x (ap (λ (t : words.AfterRead). t.said) e) (ap (λ (t : words.AfterRead). t.places) e) h
