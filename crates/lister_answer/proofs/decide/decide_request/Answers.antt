-- `lister_answer::decide::decide_request`: by whether the numbers were parsed. Assumes nothing.
use mathlib.Core.Path.{◌∙◌}
use Rattle.lister_answer.proofs.Answers.{packet-length}
use Rattle.lister_answer.proofs.Decisions.{decision-asks, decision-malformed}
use Rattle.lister_answer.proofs.decide.decide_request.Goals as goal

pub numbers-requires : goal.numbers-requires
numbers-requires c =
    let w = packet-length c.args.line.now c.args.packet.now c.requires.0 c.requires.1 in
    (w.most, w.half)

pub decide_packet-requires : goal.decide_packet-requires
decide_packet-requires c =
    let w = packet-length c.args.line.now c.args.packet.now c.requires.0 c.requires.1 in w.most

pub returns-in-Some : goal.returns-in-Some
returns-in-Some c =
    c.decide_packet.ensures ∙ decision-asks c.args.line.now c.requires.0 c.requires.1 c.numbers.ensures
    c.in-Some.is

pub returns-in-None : goal.returns-in-None
returns-in-None c =
    c.none.ensures ∙ decision-malformed c.args.line.now c.requires.0 c.numbers.ensures c.in-None.is
