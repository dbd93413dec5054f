-- A round trip and what is left after it, with numbers that were handed on. Assumes nothing.
use Prim.Native.Nat.{ℕ}
use mathlib.Core.Path.{◌≡◌, refl, ap, ◌∙◌}
use mathlib.Core.List.{List}
use lib.IntN.{ℤ}
use Rattle.entcode.specs.Said.{Said, answer, number, map_said}
use Rattle.entcode.specs.Said.Said.{done, refused}
use Rattle.rate.specs.declared.AllocNumbers.{AllocNumbers}
use Rattle.rate.specs.declared.Wishes.{Wishes}
use Rattle.trip_theorem.specs.Calls.{Symbol}
use Rattle.trip_call.specs.Outcome.{Ending, outcome_of}
use Rattle.gurthapen_answer.specs.Result.{result, result_of}
use Rattle.gurthapen_trip.specs.Trip.{after_trip, outcome_numbers}

-- what a trip leaves, as every call does
trip-given : (a : Said Ending) (v : List ℕ) → result (number a) (after_trip a v) ≡ result_of (map_said outcome_numbers a) v
unfolding result_of
trip-given (done o) v = refl
trip-given (refused n) v = refl

-- what is left after a trip, by numbers and wishes that came back
pub trip-left : {a : Said Ending} {r : ℕ} {v' : List ℕ} (v : List ℕ) {q q' : AllocNumbers} {h h' : Wishes} (offsets caps : List ℤ) (b : List ℕ)
    (ys : List Symbol) (n : ℕ)
    → q ≡ q' → h ≡ h' → a ≡ answer n (outcome_of q offsets caps h b ys) → r ≡ number a → v' ≡ after_trip a v
    → result r v' ≡ result_of (map_said outcome_numbers (answer n (outcome_of q' offsets caps h' b ys))) v
trip-left {a} v {q' = q'} {h = h} offsets caps b ys n same-q same-h e k l =
    rw (k, l) (trip-given a v)
    ∙ ap (λ (a : Said Ending). result_of (map_said outcome_numbers a) v)
    (e ∙ ap (λ (q : AllocNumbers). answer n (outcome_of q offsets caps h b ys)) same-q
    ∙ ap (λ (h : Wishes). answer n (outcome_of q' offsets caps h b ys)) same-h)
