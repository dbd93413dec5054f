-- `lister_answer::caps::caps`: the invariant: the caps of the bands below j stand in the list, and zeros after them. Assumes nothing.
use Prim.Native.Nat.{ℕ}
use mathlib.Core.Path.{◌≡◌, ap, ◌∙◌}
use native.Mathlib.Omega.{arith}
use lib.IntN.{pos}
use mir.Syntax.{w32}
use mir.Facts.{to_z-of_z}
use borrow.Author.Rules.{rules}
use Rattle.laws.specs.Lists.{fill}
use Rattle.rate.specs.Question.{no_entries}
use Rattle.lister_answer.proofs.CapLaws.{caps-none, caps-up}
use Rattle.rate_spec.specs.Caps.{cap_of}
use Rattle.lister_answer.specs.Caps.{caps_of}
use Rattle.lister_answer.proofs.caps.caps.Goals as goal

pub loop-j-init : goal.loop-j-init
unfolding no_entries
loop-j-init c = caps-none c.args.c c.args.lm

pub loop-j-preserved : goal.loop-j-preserved
loop-j-preserved c = caps-up c.args.c c.args.lm c.loop-j.j c.loop-j.invariant (to_z-of_z {w = w32} (search rules) ∙ c.cap.ensures)

pub returns : goal.returns
unfolding caps_of
returns c =
    let l = c.loop-j in
    let e : l.j ≡ 21 = omega arith in
    l.invariant ∙ ap (λ (k : ℕ). fill (λ i. pos (cap_of c.args.c c.args.lm i)) 0 k no_entries) e
