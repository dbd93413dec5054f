-- `gurthapen_state::coder::put`: twelve stores into a list of twelve. Assumes nothing.
use mathlib.Core.Path.{sym, ◌∙◌}
use mathlib.Core.List.{List, [], ◌∷◌}
use lib.IntN.{ℤ}
use mir.Syntax.{w64}
use mir.Val.{to_z, of_z}
use mir.Facts.{to_z-of_z}
use Rattle.gurthapen_state.proofs.Lists.{all_set}
use Rattle.gurthapen_state.proofs.Numbers.{as_number}
use Rattle.gurthapen_state.proofs.coder.put.Goals as goal
use Rattle.gurthapen_state.proofs.coder.put.Goals.{Start}

-- `gurthapen_state::coder::put`: twelve stores into a list of twelve. Assumes nothing.
-- the numbers, as they are stored
abbrev stored : Start → List ℤ
stored c =
    let a = c.args in
    to_z w64 a.storage ∷ to_z w64 a.ends ∷ to_z w64 a.window ∷ to_z w64 a.waiting ∷ to_z w64 a.total ∷ to_z w64 a.offs ∷ to_z w64 a.rng ∷ to_z w64
    a.val ∷ to_z w64 a.ext ∷ to_z w64 (of_z w64 a.rem) ∷ to_z w64 (of_z w64 a.error) ∷ to_z w64 (of_z w64 a.closed) ∷ []

pub returns : goal.returns
returns c =
    let f = c.ranges in
    all_set (stored (goal.at.returns c).Start) c.args.state.now (sym c.requires)
    ∙ rw (
      as_number f.storage,
      as_number f.ends,
      as_number f.window,
      as_number f.waiting,
      as_number f.total,
      as_number f.offs,
      as_number f.rng,
      as_number f.val,
      as_number f.ext,
      to_z-of_z f.rem,
      to_z-of_z f.error,
      to_z-of_z f.closed,
    )
