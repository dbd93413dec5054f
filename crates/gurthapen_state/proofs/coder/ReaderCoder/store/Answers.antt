-- `gurthapen_state::coder::ReaderCoder::store`: number by number. Assumes nothing.
use Rattle.gurthapen_state.specs.State.{list_of_reader}
use Rattle.gurthapen_state.proofs.Numbers.{as_number, same_number}
use Rattle.gurthapen_state.proofs.coder.ReaderCoder.store.Goals as goal

pub returns : goal.returns
unfolding list_of_reader
returns c =
    rw (
      as_number c.struct_known-1.given.1.1.1.1.1.1.1.1.1.0,
      same_number c.flag-error.result c.flag-error.type_inv,
      c.flag-error.ensures,
    ) at c.put.ensures
