-- `lister_answer::list`: a short buffer is refused; any other has room for every listing. Assumes nothing.
use Rattle.lister_answer.proofs.Answers.{list-refused, list_done}
use Rattle.lister_answer.proofs.list.Goals as goal

pub returns-then-out-lt-ROOM : goal.returns-then-out-lt-ROOM
returns-then-out-lt-ROOM c = list-refused c.args.number c.args.line.now c.args.out.now
    c.if-out-lt-ROOM.true

pub returns : goal.returns
returns c = list_done c.args.number
    c.args.line.now c.args.out.now
    c.if-out-lt-ROOM.false c.write.ensures
