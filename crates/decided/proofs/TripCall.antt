-- trip_call: any two results that a contract allows are equal. Written by tools/decided.
use Prim.Native.Nat.{ℕ}
use Rattle.decided.proofs.One.{one}
use Rattle.entcode.specs.Said.{answer}
use Rattle.entcode.specs.declared.reasons.Refusal.{Refusal}
use Rattle.rate.specs.declared.AllocNumbers.{AllocNumbers}
use Rattle.rate.specs.declared.Wishes.{Wishes}
use Rattle.std.specs.Prelude.{Result, ◌≡◌}
use Rattle.trip_call.proofs.Said.{said_trip_same as trip_call_said_trip_same}
use Rattle.trip_call.specs.Given.{refusal_given, symbols_of}
use Rattle.trip_call.specs.Outcome.{outcome_of, said_trip}
use Rattle.trip_call.specs.declared.Outcome.{Outcome}
use lib.IntN.{ℤ}
use mathlib.Core.List.{List}

-- round_trip
pub round_trip : (bytes : List ℕ) (symbols : List ℕ) (tables : List ℕ) (q : AllocNumbers) (h : Wishes) (offsets : List ℤ) (caps : List ℤ) (r₁ r₂ : Result Outcome Refusal)
    → said_trip r₁ ≡ answer (refusal_given symbols tables) (outcome_of q offsets caps h bytes (symbols_of symbols tables)) → said_trip r₂ ≡ answer (refusal_given symbols tables) (outcome_of q offsets caps h bytes (symbols_of symbols tables))
    → r₁ ≡ r₂
round_trip bytes symbols tables q h offsets caps r₁ r₂ e₁ e₂ =
    trip_call_said_trip_same (one e₁ e₂)
