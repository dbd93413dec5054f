-- `gurthapen_state::coder::WriterCoder::store`: number by number. Assumes nothing.
use Rattle.gurthapen_state.specs.State.{list_of_writer}
use Rattle.gurthapen_state.proofs.Numbers.{same_number}
use Rattle.gurthapen_state.proofs.coder.WriterCoder.store.Goals as goal

pub returns : goal.returns
unfolding list_of_writer
returns c =
    rw (
      same_number c.held-rem.result c.held-rem.type_inv,
      c.held-rem.ensures,
      same_number c.flag-error.result c.flag-error.type_inv,
      c.flag-error.ensures,
      same_number c.flag-closed.result c.flag-closed.type_inv,
      c.flag-closed.ensures,
    ) at c.put.ensures
