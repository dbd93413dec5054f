-- `gurthapen_state::record::store_record`: the energies, then the number. Assumes nothing.
use mathlib.Core.Path.{sym}
use mathlib.Core.List.{[], ◌∷◌}
use Rattle.gurthapen_state.proofs.Lists.{all_set}
use Rattle.gurthapen_state.proofs.record.store_record.Goals as goal

pub returns : goal.returns
returns c =
    rw (c.copy.ensures, all_set (c.args.rec.next ∷ []) c.args.next.now (sym c.requires.1))
