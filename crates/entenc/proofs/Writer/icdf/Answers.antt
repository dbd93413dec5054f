-- `entenc::Writer::icdf`: number 0 of the gate gives the worker its needs; any other is the refusal. Assumes nothing.
use Rattle.entcode.specs.Said.{verdict}
use Rattle.entcode.proofs.Said.{stopped-says, stopped-some}
use mathlib.Core.Path.{◌≡◌, ap}
use Rattle.entcode.specs.Sym.{length_ok, shape_ok, value_ok, list_ok}
use Rattle.entcode.specs.Sym.Shape.{table}
use Rattle.entenc.specs.Rule.{refusal_w}
use Rattle.entenc.specs.Symbols.{write_sym}
use Rattle.entenc.specs.Write.{wr}
use Rattle.entenc.proofs.Taken.{table_needs, say-next, say_no}
use Rattle.entenc.proofs.Writer.icdf.Goals as goal
use Rattle.entenc.proofs.Writer.icdf.Goals.{After-refusal_table}

-- the gate's number, in the contract's terms
gated : (c : After-refusal_table) → let a = c.args in
    verdict c.refusal_table.result ≡ refusal_w (table a.t.now a.ftb) a.s (wr a.self a.buf.now)
unfolding refusal_w length_ok shape_ok value_ok list_ok
gated c = c.refusal_table.ensures

pub put_icdf-requires : goal.put_icdf-requires
put_icdf-requires c =
    let a = c.args in
    table_needs _ a.s (wr a.self a.buf.now) a.t.now a.ftb (gated (goal.at.put_icdf-requires c).After-refusal_table) (ap verdict c.in_ok-refusal_table.was)

pub returns : goal.returns
returns c =
    let a = c.args in
    let k = c.put_icdf in
    let w = wr a.self a.buf.now in
    say-next _ (refusal_w (table a.t.now a.ftb) a.s w) w (write_sym (table a.t.now a.ftb) a.s w)
    (gated (goal.at.returns c).After-refusal_table) (wr k.result k.new.buf)
    (ap verdict c.in_ok-refusal_table.was) k.ensures

pub returns-in_err-refusal_table : goal.returns-in_err-refusal_table
returns-in_err-refusal_table c =
    let h = c.in_err-refusal_table in
    rw (stopped-says _ _ _ h.was c.from_residual.ensures.1) (let a = c.args in
    let w = wr a.self a.buf.now in
    say_no _ (refusal_w (table a.t.now a.ftb) a.s w) w (write_sym (table a.t.now a.ftb) a.s w)
    (gated (goal.at.returns-in_err-refusal_table c).After-refusal_table) (stopped-some _ _ h.was))
