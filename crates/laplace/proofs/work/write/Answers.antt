-- `laplace::work::write`: the places of the value are those of what counts as written. Assumes nothing.
use mathlib.Core.Path.{◌∙◌, ap}
use lib.IntN.{ℤ}
use mir.Facts.{to_z-of_z}
use mir.Syntax.{w32}
use borrow.Author.Rules.{rules}
use Rattle.modes.proofs.Laplace.{legal_parts}
use Rattle.entenc.specs.Write.{wr}
use Rattle.laplace.specs.Signed.{span_z}
use Rattle.laplace.proofs.Answers.{written-value, write-is}
use Rattle.laplace.proofs.work.write.Goals as goal

pub returns : goal.returns
returns c =
    let a = c.args in
    let ok = legal_parts a.fs a.decay c.requires.decay_value in
    let e = c.span_of-r.ensures.0 ∙ ap (λ (z : ℤ). span_z z a.fs a.decay) (to_z-of_z c.ranges.value) in
    let k = c.encode-next in (
      written-value a.fs a.decay a.value _ _ e (to_z-of_z {w = w32} {z = c.value_of-v.result} (search rules) ∙ c.value_of-v.ensures),
      write-is a.fs a.decay a.value ok _ (wr a.w a.buf.now) (wr k.result k.new.buf) e k.ensures,
    )
