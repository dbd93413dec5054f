-- `entdec::Reader::icdf`: number 0 of the gate gives the worker its needs; any other is the refusal. Assumes nothing.
use mathlib.Core.Path.{◌≡◌, sym, ap, ◌∙◌}
use lib.Dec.{lit≤}
use borrow.Author.Tests.{ltb-true}
use Rattle.laws.proofs.Tests.{between}
use Rattle.entcode.specs.Sym.{length_ok, shape_ok, list_ok}
use Rattle.entcode.specs.Said.{verdict}
use Rattle.entcode.proofs.Said.{answer-done, answer-refused, stopped-says, stopped-some}
use Rattle.entcode.specs.Sym.Shape.{table}
use Rattle.entdec.specs.Rule.{refusal_r}
use Rattle.entdec.proofs.Accepted.{opened_for}
use Rattle.entdec.proofs.Chain.{sound_ready}
use Rattle.entdec.proofs.Reader.icdf.Goals as goal
use Rattle.entdec.proofs.Reader.icdf.Goals.{After-refusal_table}

-- the gate's number, in the contract's terms
gated : (c : After-refusal_table) → let a = c.args in
    verdict c.refusal_table.result ≡ refusal_r (table a.t.now a.ftb) a.s.now a.self
unfolding refusal_r length_ok shape_ok list_ok
gated c = c.refusal_table.ensures

pub symbol-requires : goal.symbol-requires
unfolding length_ok shape_ok list_ok
symbol-requires c =
    let a = c.args in
    let o = opened_for (table a.t.now a.ftb) a.s.now a.self (sym (gated (goal.at.symbol-requires c).After-refusal_table)
    ∙ ap verdict c.in_ok-refusal_table.was) in
    record { ready = sound_ready 1 a.self o.state (lit≤ tt); le_ftb = between 1 a.ftb 8 o.known; t_nonzero = (ltb-true 0 _ o.sizes, o.entries) }

pub returns : goal.returns
returns c =
    let g = gated (goal.at.returns c).After-refusal_table in
    rw c.symbol.ensures (sym (answer-done _ _ (sym g ∙ ap verdict c.in_ok-refusal_table.was)))

pub returns-in_err-refusal_table : goal.returns-in_err-refusal_table
returns-in_err-refusal_table c =
    let h = c.in_err-refusal_table in
    rw (stopped-says _ _ _ h.was c.from_residual.ensures.1) (let g = gated (goal.at.returns-in_err-refusal_table c).After-refusal_table in
    rw g (sym (answer-refused _ _ (rw g at (stopped-some _ _ h.was)))))
