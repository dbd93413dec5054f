-- `trip_call::round_trip`: the gate, then the trip. Assumes nothing.
use mathlib.Core.Path.{ap, sym, ◌∙◌}
use Rattle.entcode.specs.Said.{verdict}
use Rattle.entcode.proofs.Said.{answer-done, answer-refused, stopped-says, stopped-some}
use Rattle.trip_call.proofs.round_trip.Goals as goal

pub returns : goal.returns
returns c = rw c.run.ensures (sym (answer-done _ _ (sym c.refusal.ensures ∙ ap verdict c.in_ok-refusal.was)))

pub returns-in_err-refusal : goal.returns-in_err-refusal
returns-in_err-refusal c =
    let h = c.in_err-refusal in
    rw (stopped-says _ _ _ h.was c.from_residual.ensures.1, c.refusal.ensures)
    (sym (answer-refused _ _ (λ e. stopped-some _ _ h.was (c.refusal.ensures ∙ e))))
