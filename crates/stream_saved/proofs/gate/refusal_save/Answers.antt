-- `stream_saved::gate::refusal_save`: the tests, in the order of the refusals. Assumes nothing.
use mathlib.Core.Bool.{true}
use mathlib.Core.Path.{◌≡◌}
use lib.Dec.{leb}
use Rattle.entcode.specs.Refusal.{refusal}
use Rattle.entcode.specs.Said.{verdict}
use Rattle.stream_saved.specs.Lines.{refusal_save}
use Rattle.stream_saved.proofs.gate.refusal_save.Goals as goal

pub returns : goal.returns
unfolding refusal_save
returns c =
    let a = c.args in
    let r : verdict c.refusal_of.result ≡ refusal (leb 390 a.room) (leb a.rec.next 4294967295) c.all_finite-finite.result 0 true true =
    c.refusal_of.ensures in
    rw c.all_finite-finite.ensures at r
