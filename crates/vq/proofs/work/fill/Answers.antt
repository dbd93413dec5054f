-- `vq::work::fill`: the places so far are the products. Assumes nothing.
use mathlib.Core.Path.{refl, ap, ◌∙◌}
use native.Mathlib.Omega.{arith}
use lib.IntN.{ℤ, pos}
use lib.ListN.{get_or}
use lib.Ieee.{Float, binary32, mul, of_int}
use mir.Syntax.{w32}
use mir.Val.{SFits}
use mir.Facts.{to_z-of_z}
use borrow.Author.Rules.{rules}
use Rattle.laws.proofs.Lists.{map-up}
use Rattle.vq.specs.Shape.{scaled}
use Rattle.vq.proofs.work.fill.Goals as goal

pub loop-i-init : goal.loop-i-init
unfolding scaled
loop-i-init c = refl

pub loop-i-preserved : goal.loop-i-preserved
unfolding scaled
loop-i-preserved c =
    let l = c.loop-i in
    let g = c.args.g in
    let f : SFits w32 (get_or c.args.iy.now l.i (pos 0)) = search rules in
    map-up (λ (y : ℤ). mul binary32 g (of_int binary32 y)) l.x c.args.iy.now l.i (pos 0) (omega arith) (omega arith) l.invariant
    (ap (λ (y : Float). mul binary32 g y) (c.whole.ensures ∙ ap (λ (z : ℤ). of_int binary32 z) (to_z-of_z f)))
