-- gurthapen::trips: any two results that a contract allows are equal. Written by tools/decided.
use Prim.Native.Nat.{ℕ}
use Rattle.decided.proofs.One.{one}
use Rattle.gurthapen.specs.Trips.{trips}
use Rattle.gurthapen_answer.specs.Result.{Result}
use Rattle.rate.specs.Question.{alloc_numbers, wishes}
use Rattle.std.specs.Prelude.{◌≡◌}
use lib.IntN.{ℤ}
use mathlib.Core.List.{List}
use mathlib.Core.Path.{ap}
use Rattle.gurthapen_answer.specs.Result as answer

-- trips::gurthapen_round_trip
pub trips_gurthapen_round_trip : (bytes : List ℕ) (symbols : List ℕ) (tables : List ℕ) (c : ℤ) (lm : ℤ) (start : ℤ) (end : ℤ) (trim : ℤ) (total : ℤ) (intensity : ℤ) (dual : ℤ) (previous : ℤ) (bandwidth : ℤ) (offsets : List ℤ) (caps : List ℤ) (outcome : List ℕ) (r₁ r₂ : ℕ) (outcome_after₁ outcome_after₂ : List ℕ)
    → answer.result r₁ outcome_after₁ ≡ trips (alloc_numbers c lm start end trim total) (wishes intensity dual previous bandwidth) offsets caps bytes symbols tables outcome → answer.result r₂ outcome_after₂ ≡ trips (alloc_numbers c lm start end trim total) (wishes intensity dual previous bandwidth) offsets caps bytes symbols tables outcome
    → (r₁ ≡ r₂) × (outcome_after₁ ≡ outcome_after₂)
trips_gurthapen_round_trip bytes symbols tables c lm start end trim total intensity dual previous bandwidth offsets caps outcome r₁ r₂ outcome_after₁ outcome_after₂ e₁ e₂ =
    (ap (λ (x : Result (List ℕ)). x.number) (one e₁ e₂), ap (λ (x : Result (List ℕ)). x.lent) (one e₁ e₂))
