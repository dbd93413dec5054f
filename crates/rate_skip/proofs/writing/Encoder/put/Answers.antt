-- `rate_skip::writing::Encoder::put`: a bit leaves the writer ready for one symbol less. Assumes nothing.
use Rattle.entenc.specs.Write.{wr}
use Rattle.rate_skip.proofs.Following.{bit-write, flag-number}
use Rattle.rate_skip.proofs.writing.Encoder.put.Goals as goal

pub returns-clause-follows : goal.returns-clause-follows
returns-clause-follows c k r =
    rw (c.put_bit-self.ensures, c.from.ensures, flag-number c.args.yes) (bit-write k c.args.yes (wr c.args.self.now.at c.args.self.now.bytes.now) r)
