-- `laplace::work::read`: the places of what is located at the place shown are taken. Assumes nothing.
use Prim.Native.Nat.{ℕ}
use mathlib.Core.Path.{◌∙◌, ap}
use mir.Facts.{to_z-of_z}
use mir.Syntax.{w32}
use borrow.Author.Rules.{rules}
use Rattle.modes.proofs.Laplace.{legal_parts}
use Rattle.laplace.specs.Chain.{locate}
use Rattle.laplace.proofs.Answers.{read_is}
use Rattle.laplace.proofs.work.read.Goals as goal

pub returns : goal.returns
returns c =
    let a = c.args in
    let l = c.locate-r in
    read_is a.s.now a.d _ a.fs a.decay (legal_parts a.fs a.decay c.requires.decay_value) l.result _
    (l.ensures.0 ∙ ap (λ (m : ℕ). locate m a.fs a.decay) c.decoded_place-fm.ensures.0)
    (to_z-of_z {w = w32} {z = c.value_of.result} (search rules) ∙ c.value_of.ensures)
    c.update-next.ensures
