-- `trip_call::given::givens_ok`: what is left of the test from the i-th symbol on is the whole test. Assumes nothing.
use native.Mathlib.Omega.{arith}
use Rattle.trip_call.proofs.Checking.{check_end, check_no, check_on}
use Rattle.trip_call.proofs.given.givens_ok.Goals as goal

pub returns-then-not-given_ok : goal.returns-then-not-given_ok
returns-then-not-given_ok c =
    let k = c.loop-i in check_no c.args.symbols.now c.args.room _ k.i k.invariant (omega arith) c.given_ok.ensures c.if-not-given_ok.true

pub loop-i-preserved : goal.loop-i-preserved
loop-i-preserved c =
    let k = c.loop-i in check_on c.args.symbols.now c.args.room _ k.i k.invariant (omega arith) c.given_ok.ensures c.if-not-given_ok.false

pub returns : goal.returns
returns c = let k = c.loop-i in check_end c.args.symbols.now c.args.room _ k.i k.invariant (omega arith)
