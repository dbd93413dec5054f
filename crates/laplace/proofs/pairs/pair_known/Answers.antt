-- `laplace::pairs::pair_known`: what the code looks for is a pair of the model. Assumes nothing.
use mathlib.Core.Path.{◌≡◌, ◌∙◌}
use mathlib.Core.Bool.{true, false}
use Rattle.laplace.proofs.Looked.{even, looked_known}
use Rattle.laplace.proofs.pairs.pair_known.Goals as goal

pub returns-then-fs-decay : goal.returns-then-fs-decay
returns-then-fs-decay c =
    let a = c.args in
    let t : even a.fs a.decay ≡ true = c.if-fs-decay.true in
    (rw c.decays_of.ensures at c.is_in.ensures) ∙ (rw t at (looked_known a.fs a.decay))

pub returns-else-fs-decay : goal.returns-else-fs-decay
returns-else-fs-decay c =
    let a = c.args in
    let t : even a.fs a.decay ≡ false = c.if-fs-decay.false in
    rw t at (looked_known a.fs a.decay)
