-- What the outcomes of trip_call say: how the trip ended (0 agreed, 1 close reported an error, 2 a call refused, 3 the reader disagreed), the call
-- (0 new, 1 a symbol, 2 the allocation, 3 close), the symbol's place and the refusal's number, each 0 where it is none.
use Rattle.std.specs.Prelude.{ℕ, List, [], ◌∷◌}
use Rattle.entcode.specs.Said.{Said}
use Rattle.entcode.specs.Said.Said.{done, refused}
use Rattle.trip_call.specs.declared.Call.{Call}
use Rattle.trip_call.specs.declared.Call.TheVariants as call
use Rattle.trip_call.specs.Outcome.{Ending}
use Rattle.trip_call.specs.Outcome.Ending.{agreed, refused_by as call_refused, not_closed, disagreed}

-- the four as a list
abbrev pub four : ℕ → ℕ → ℕ → ℕ → List ℕ
four how by place n = how ∷ by ∷ place ∷ n ∷ []

-- a call refused with a number
abbrev pub refused_by : Call → ℕ → List ℕ
refused_by call.New n = four 2 0 0 n
refused_by (call.Symbol i) n = four 2 1 i n
refused_by call.Allocation n = four 2 2 0 n
refused_by call.Close n = four 2 3 0 n

-- any ending
abbrev pub outcome_numbers : Ending → List ℕ
outcome_numbers agreed = four 0 0 0 0
outcome_numbers (call_refused by n) = refused_by by n
outcome_numbers not_closed = four 1 0 0 0
outcome_numbers disagreed = four 3 0 0 0

-- the list after a trip that says this; a refused one leaves it as it was
abbrev pub after_trip : Said Ending → List ℕ → List ℕ
after_trip (done o) before = outcome_numbers o
after_trip (refused n) before = before
