-- What the call answers, found again from what it says: two answers that say the same are one. Assumes nothing.
use Rattle.std.specs.Prelude.{Result, Ok, Err}
use mathlib.Core.Path.{◌≡◌, refl, ap}
use Rattle.entcode.specs.declared.reasons.Refusal.{Refusal}
use Rattle.entcode.specs.Said.Said.{done, refused}
use Rattle.entcode.specs.Said.{Said}
use Rattle.entcode.proofs.Said.{alike, of_number, of_number-back}
use Rattle.trip_call.specs.declared.Outcome.{Outcome}
use Rattle.trip_call.specs.declared.Outcome.TheVariants as outcome
use Rattle.trip_call.specs.Outcome.{Ending, ending, said_trip}
use Rattle.trip_call.specs.Outcome.Ending.{agreed, disagreed, not_closed, refused_by}

-- the outcome that says this
abbrev pub outcome_back : Ending → Outcome
outcome_back agreed = outcome.Agreed
outcome_back (refused_by by n) = outcome.Refused by (of_number n)
outcome_back not_closed = outcome.NotClosed
outcome_back disagreed = outcome.Disagreed

-- telling it back gives the outcome
pub ending_back : (o : Outcome) → outcome_back (ending o) ≡ o
ending_back outcome.Agreed = refl
ending_back (outcome.Refused by why) = ap (λ (r : Refusal). outcome.Refused by r) (of_number-back why)
ending_back outcome.NotClosed = refl
ending_back outcome.Disagreed = refl

-- the answer that says this
abbrev pub back : Said Ending → Result Outcome Refusal
back (done e) = Ok (outcome_back e)
back (refused n) = Err (of_number n)

-- telling it back gives the answer
pub said_back : (r : Result Outcome Refusal) → back (said_trip r) ≡ r
said_back (Ok o) = ap Ok (ending_back o)
said_back (Err why) = ap Err (of_number-back why)

-- two that say the same are one
pub said_trip_same : {a b : Result Outcome Refusal} → said_trip a ≡ said_trip b → a ≡ b
said_trip_same e = alike said_trip back said_back e
