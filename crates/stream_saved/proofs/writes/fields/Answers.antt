-- `stream_saved::writes::fields`: what is written so far. Assumes nothing.
use mathlib.Core.Path.{refl, ◌∙◌}
use native.Mathlib.Omega.{arith}
use lib.Ieee.{nan}
use lib.Ieee.Scale.{finite}
use Rattle.laws.proofs.Lists.{every-at}
use Rattle.text.proofs.Tabbed.{put-none, put_next}
use Rattle.stream_saved.specs.Fields.{energy_text}
use Rattle.stream_saved.proofs.writes.fields.Goals as goal

pub loop-x-init : goal.loop-x-init
loop-x-init c = let a = c.args in (refl, put-none energy_text nan 9 a.e.now a.buf.now a.at)

pub field-to-requires : goal.field-to-requires
field-to-requires c =
    let l = c.loop-x in
    let w = l.invariant.1 in
    (omega (arith, w.short), every-at finite c.args.e.now nan c.requires.2 l.x-index (omega arith))

pub loop-x-preserved : goal.loop-x-preserved
loop-x-preserved c =
    let l = c.loop-x in (
      c.field-to.auto.buf ∙ l.invariant.0,
      put_next energy_text nan 9 c.args.e.now c.args.buf.now c.args.at l.x-index (omega arith) l.invariant.1 c.field-to.ensures,
    )
