-- `trip_call::rows::write_row`: what is left of the row gives what all of it gives. Assumes nothing.
use mathlib.Core.Path.{◌∙◌}
use native.Mathlib.Omega.{arith}
use Rattle.entenc.specs.Write.{wr}
use Rattle.trip_call.proofs.Running.{run_end, run_no, run_on}
use Rattle.trip_call.proofs.rows.write_row.Goals as goal

pub loop-i-preserved : goal.loop-i-preserved
loop-i-preserved c =
    let a = c.args in
    let k = c.loop-i in (
      c.write_one.auto.buf ∙ k.invariant.0,
      run_on a.symbols.now a.tables.now _ k.i (wr k.v k.buf) c.write_one.result c.write_one.new.buf (omega arith) c.given_at-g.ensures
          c.write_one.ensures k.invariant.1 c.in-Ok.y c.in-Ok.is,
    )

pub returns-in-Err : goal.returns-in-Err
returns-in-Err c =
    let a = c.args in
    let k = c.loop-i in
    run_no a.symbols.now a.tables.now _ k.i (wr k.v k.buf) c.write_one.result c.write_one.new.buf (omega arith) c.given_at-g.ensures
    c.write_one.ensures k.invariant.1 c.in-Err.is

pub returns : goal.returns
returns c = let k = c.loop-i in run_end c.args.symbols.now c.args.tables.now _ k.i (wr k.v k.buf) (omega arith) k.invariant.1
