-- `gurthapen_round_trip`: the length, the call, and what is left of it. Assumes nothing.
use borrow.Author.Tests.{eq-eqb, ne_eqb}
use Rattle.trip_call.specs.Given.{refusal_given, symbols_of}
use Rattle.gurthapen_answer.proofs.Exports.{wrong_lengths, right_lengths}
use Rattle.gurthapen.proofs.Bands.{numbers_back, wishes_back}
use Rattle.gurthapen.proofs.Ended.{trip-left}
use Rattle.gurthapen.proofs.trips.gurthapen_round_trip.Goals as goal

pub returns-then-outcome-eq4 : goal.returns-then-outcome-eq4
returns-then-outcome-eq4 c =
    let a = c.args in
    let f = c.ranges in
    right_lengths _ _ (eq-eqb _ _ c.if-outcome-eq4.true)
    (trip-left a.outcome.now a.offsets.now a.caps.now a.bytes.now (symbols_of a.symbols.now a.tables.now)
    (refusal_given a.symbols.now a.tables.now) (numbers_back f.c f.lm f.start f.end f.trim f.total)
    (wishes_back f.intensity f.dual f.previous f.bandwidth) c.round_trip-t.ensures c.leave_trip.ensures.0 c.leave_trip.ensures.1)

pub returns : goal.returns
returns c = wrong_lengths _ _ (ne_eqb _ _ c.if-outcome-eq4.false)
