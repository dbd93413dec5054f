-- `cwrs::work::cwrsi`: what is written and the vector that is left to write make up the whole vector at each place. Assumes nothing.
use mir.Syntax.{w32}
use mir.Facts.{to_z-of_z}
use mathlib.Core.Path.{◌≡◌, ap, ◌∙◌}
use mathlib.Core.Bool.{and-eq-true_iff}
use Prim.Native.Nat.{ℕ, ◌+◌, ◌-◌, ◌<◌}
use native.Mathlib.Omega.{arith}
use lib.Dec.{ltb}
use lib.ListN.{drop}
use lib.Seq.{drop-set-lt}
use borrow.Author.Tests.{ltb-true}
use borrow.Author.Rules.{rules}
use Rattle.cwrs_counts.specs.Count.{Vn}
use Rattle.cwrs.specs.Word.{word}
use Rattle.cwrs.proofs.Back.{silenced, tail_pulses-le, written}
use Rattle.cwrs.proofs.work.cwrsi.Goals as goal
use Rattle.cwrs.proofs.work.cwrsi.Goals.{In-loop-j}

-- a step: there is a place
more : (c : In-loop-j) → c.loop-j.j < c.args.n
more c =
    let j = c.loop-j.j in
    let n = c.args.n in
    ltb-true j n ((and-eq-true_iff (ltb j n) (ltb 0 c.loop-j.left)).0 c.loop-j-test.true).0

pub loop-j-preserved : goal.loop-j-preserved
loop-j-preserved c =
    let a = c.args in
    let l = c.loop-j in
    let m = more (goal.at.loop-j-preserved c).In-loop-j in
    let r = c.first_spot-p.result in
    let e = c.first_spot-p.ensures in
    let back = to_z-of_z {w = w32} {z = r.value} (search rules) in
    let f : a.n - l.j - 1 ≡ a.n - (l.j + 1) = omega arith in
    simp back (
      omega arith,
      omega (arith, tail_pulses-le (a.n - l.j) l.left l.at),
      e.3 ∙ ap (λ (x : ℕ). Vn x r.left) f,
      written l.y (word a.n a.k a.i) l.j a.n l.left l.at r.value r.left r.index m (omega arith) e.0 e.1
          e.2 l.invariant.3,
      drop-set-lt a.n l.y l.j r.value m ∙ l.invariant.4,
    )

pub returns : goal.returns
returns c =
    let a = c.args in
    let l = c.loop-j in
    let v = l.invariant in
    silenced l.y (drop a.n a.y.now) _ (word a.n a.k a.i) l.j a.n l.left l.at v.0 (omega arith) c.loop-j-test.false
    (c.fill.ensures.after (λ y p. p)) v.3 v.4
