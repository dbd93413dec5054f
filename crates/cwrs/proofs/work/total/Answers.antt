-- `cwrs::work::total`: from the last place backwards, k is the pulses of the places from j on. Assumes nothing.
use lib.IntN.{pos, nat_abs}
use lib.ListN.{get_or}
use mir.Syntax.{w32}
use mir.Val.{SFits}
use mir.Facts.{to_z-of_z}
use borrow.Author.Rules.{rules}
use Rattle.cwrs.proofs.Words.{pulses-none, pulses-more}
use mathlib.Core.Path.{◌≡◌, ap, ◌∙◌}
use Prim.Native.Nat.{◌-◌}
use native.Mathlib.Omega.{arith}
use Rattle.cwrs.proofs.work.total.Goals as goal

pub loop-j-init : goal.loop-j-init
loop-j-init c = (pulses-none c.args.y.now c.args.n, omega arith)

pub loop-j-preserved : goal.loop-j-preserved
loop-j-preserved c =
    let a = c.args in
    let j = c.loop-j.j in
    let e = pulses-more a.y.now a.n j (omega arith) (omega arith) (omega arith) in
    let f : SFits w32 (get_or a.y.now (j - 1) (pos 0)) = search rules in
    let q : c.unsigned_abs.result ≡ nat_abs (get_or a.y.now (j - 1) (pos 0)) = c.unsigned_abs.ensures.value ∙ ap nat_abs (to_z-of_z f) in
    (omega arith, omega arith)
