-- `gurthapen_answer::allocation::put_four`: four stores into a list of four. Assumes nothing.
use mathlib.Core.Path.{sym}
use mathlib.Core.List.{[], ◌∷◌}
use mir.Facts.{to_z-of_z}
use Rattle.gurthapen_state.proofs.Lists.{all_set}
use Rattle.gurthapen_answer.proofs.allocation.put_four.Goals as goal

pub returns : goal.returns
returns c =
    let f = c.ranges in
    rw (to_z-of_z f.coded, to_z-of_z f.balance, to_z-of_z f.intensity, to_z-of_z f.dual)
    (all_set (c.args.coded ∷ c.args.balance ∷ c.args.intensity ∷ c.args.dual ∷ []) c.args.shown.now (sym c.requires))
