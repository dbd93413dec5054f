-- `trip_call::rows::pair_row`: what is left of the row gives what all of it gives. Assumes nothing.
use mathlib.Core.Path.{◌∙◌}
use native.Mathlib.Omega.{arith}
use Rattle.entenc.specs.Write.{wr}
use Rattle.trip_call.proofs.Running.{pair_differs, pair_end, pair_on}
use Rattle.trip_call.proofs.rows.pair_row.Goals as goal

pub loop-i-preserved : goal.loop-i-preserved
loop-i-preserved c =
    let a = c.args in
    let k = c.loop-i in (
      c.pair_one.auto.buf ∙ k.invariant.0,
      pair_on a.symbols.now a.tables.now a.s.now _ k.i (wr k.both.writer k.buf) k.both.reader c.pair_one.result c.pair_one.new.buf
          (omega arith) c.given_at-g.ensures c.pair_one.ensures k.invariant.1 c.in_ok-both.both c.in_ok-both.was,
    )

pub returns-in_err-both : goal.returns-in_err-both
returns-in_err-both c =
    let a = c.args in
    let k = c.loop-i in
    rw c.from_residual.ensures
    (pair_differs a.symbols.now a.tables.now a.s.now _ k.i (wr k.both.writer k.buf) k.both.reader c.pair_one.result c.pair_one.new.buf
    (omega arith) c.given_at-g.ensures c.pair_one.ensures k.invariant.1 c.in_err-both.was)

pub returns : goal.returns
returns c =
    let a = c.args in
    let k = c.loop-i in
    pair_end a.symbols.now a.tables.now a.s.now _ k.i (wr k.both.writer k.buf) k.both.reader (omega arith) k.invariant.1
