-- What an accepted frame tells of its numbers, and an answer by its number. Assumes nothing.
use Prim.Native.Nat.{ℕ, zero, suc, ◌≤◌}
use mathlib.Core.Path.{◌≡◌, refl}
use mathlib.Core.Bool.{true, and-eq-true_iff}
use native.Mathlib.Omega.{arith}
use lib.IntN.{ℤ}
use borrow.Author.Tests.{leb-true}
use Rattle.quant_bands.specs.Question.{coarse_ok}
use Rattle.stream.specs.declared.Record.{Record}
use Rattle.stream.specs.Frame.{Call, numbers_ok, applied, Framed, frame_answer, frame_refused}

-- ---- numbers

-- each of the tests by itself
pub record Known (next number : ℕ) (c lm start end intra : ℤ) : Type 0 where
  pub coarse : coarse_ok c lm start end intra ≡ true
  pub last : number ≤ 4294967294
  pub most : next ≤ 4294967295

-- from the test of all numbers together
pub known : (next number : ℕ) (c lm start end intra : ℤ) → numbers_ok next number c lm start end intra ≡ true → Known next number c lm start end intra
unfolding numbers_ok
known next number c lm start end intra e =
    let a = (and-eq-true_iff _ _).0 e in
    let b = (and-eq-true_iff _ _).0 a.1 in
    record { coarse = a.0; last = leb-true number 4294967294 b.0; most = leb-true next 4294967295 b.1 }

-- ---- answers

-- number 0: the answer is the frame applied
pub answer-applied : (n : ℕ) (r : Record) (q : Call) {y : Framed} → n ≡ 0 → y ≡ applied r q.coder q.packet q.c q.lm q.start q.end q.intra
    → y ≡ frame_answer n r q
unfolding frame_answer
answer-applied zero r q h e = e
answer-applied (suc n) r q h e = absurd (omega arith)

-- any other number: that refusal, and record and reader are as they were
pub answer-refused : (n : ℕ) (r : Record) (q : Call) → (n ≡ 0 → ⊥) → frame_refused n r q.coder ≡ frame_answer n r q
unfolding frame_answer
answer-refused zero r q h = absurd (h refl)
answer-refused (suc n) r q h = refl
