-- `trip_call::given::refusal`: the length, then the symbols. Assumes nothing.
use mathlib.Core.Bool.{true}
use Rattle.trip_call.proofs.Checking.{fives_no, fives-yes}
use Rattle.trip_call.proofs.given.refusal.Goals as goal

pub returns-then-symbols-eq0 : goal.returns-then-symbols-eq0
returns-then-symbols-eq0 c =
    let a = c.args in
    fives-yes a.symbols.now a.tables.now c.if-symbols-eq0.true c.givens_ok-known.ensures c.refusal_of.ensures

pub returns : goal.returns
returns c =
    let a = c.args in
    fives_no a.symbols.now a.tables.now true c.if-symbols-eq0.false c.refusal_of-2.ensures
