-- `lister_answer::decide::decide_packet`: a packet of at most 1,275 bytes has a fresh reader. Assumes nothing.
use Rattle.lister_answer.proofs.Answers.{new-reader, new-reader_never_refused}
use Rattle.lister_answer.proofs.decide.decide_packet.Goals as goal

pub decide_numbers-requires : goal.decide_numbers-requires
decide_numbers-requires c =
    new-reader c.args.s.now c.requires c.new.ensures c.in-Ok.is

pub returns-in-Err : goal.returns-in-Err
returns-in-Err c = absurd
    (new-reader_never_refused c.args.s.now c.requires c.new.ensures c.in-Err.is)
