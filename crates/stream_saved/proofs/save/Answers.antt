-- `stream_saved::save`: the gate's number decides, and number 0 says all that the worker asks. Assumes nothing.
use mathlib.Core.Path.{sym, ap, ◌∙◌}
use Rattle.entcode.specs.Said.{verdict}
use Rattle.entcode.proofs.Said.{stopped-says, stopped-some}
use Rattle.stream_saved.specs.Lines.{saved_line}
use Rattle.stream_saved.proofs.Placed.{save-opens, said-line, said-refused}
use Rattle.stream_saved.proofs.save.Goals as goal

pub line-requires : goal.line-requires
line-requires c =
    save-opens _ c.args.rec (sym c.refusal_save.ensures ∙ ap verdict c.in_ok-refusal_save.was)

pub returns : goal.returns
returns c =
    said-line _ (saved_line c.args.rec) c.args.buf.now (sym c.refusal_save.ensures ∙ ap verdict c.in_ok-refusal_save.was) c.line.ensures

pub returns-in_err-refusal_save : goal.returns-in_err-refusal_save
returns-in_err-refusal_save c =
    let h = c.in_err-refusal_save in
    rw (stopped-says _ _ _ h.was c.from_residual.ensures.1)
    (rw c.refusal_save.ensures (said-refused _ (saved_line c.args.rec) c.args.buf.now (λ z. stopped-some _ _ h.was (c.refusal_save.ensures ∙ z))))
