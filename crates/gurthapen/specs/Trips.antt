-- The round trip, exported: trip_call's call, over lists.
use Rattle.std.specs.Prelude.{ℕ, List, ℤ}
use Rattle.entcode.specs.Said.{answer, map_said}
use Rattle.rate.specs.declared.AllocNumbers.{AllocNumbers}
use Rattle.rate.specs.declared.Wishes.{Wishes}
use Rattle.trip_call.specs.Given.{refusal_given, symbols_of}
use Rattle.trip_call.specs.Outcome.{outcome_of}
use Rattle.gurthapen_answer.specs.Result.{Result, exported}
use Rattle.gurthapen_state.specs.State.{is_long}
use Rattle.gurthapen_trip.specs.Trip.{outcome_numbers}

-- a trip over the bytes b; v is where its outcome goes. What a call of the trip refuses is in the outcome
abbrev pub trips : AllocNumbers → Wishes → List ℤ → List ℤ → List ℕ → List ℕ → List ℕ → List ℕ → Result (List ℕ)
trips q h offsets caps b symbols tables v =
    exported (is_long 4 v) (map_said outcome_numbers (answer (refusal_given symbols tables) (outcome_of q offsets caps h b (symbols_of symbols tables)))) v
