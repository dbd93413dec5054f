-- `lister_answer::decide::decide`: by whether the line has a packet. Assumes nothing.
use mathlib.Core.Path.{refl, sym, ◌∙◌}
use lib.Seq.{length-take-le}
use Rattle.lister_answer.proofs.Answers.{packet-read}
use Rattle.lister_answer.proofs.Decisions.{decision_bad_packet}
use Rattle.lister_answer.proofs.decide.decide.Goals as goal

pub slice_bounds-packet-end-in-Some : goal.slice_bounds-packet-end-in-Some
slice_bounds-packet-end-in-Some c = (packet-read c.args.line.now _ _ refl
    c.packet.ensures c.in-Some.is).fits

pub slice_bounds-decide_request-end : goal.slice_bounds-decide_request-end
slice_bounds-decide_request-end c =
    sym (length-take-le _ _ (packet-read c.args.line.now _ _ refl c.packet.ensures c.in-Some.is).fits)

pub decide_request-requires : goal.decide_request-requires
decide_request-requires c =
    let t = packet-read c.args.line.now _ _ refl c.packet.ensures
    c.in-Some.is in (t.good, t.bytes)

pub returns-in-None : goal.returns-in-None
returns-in-None c =
    c.none.ensures ∙ decision_bad_packet c.args.line.now c.packet.ensures.0 c.in-None.is
