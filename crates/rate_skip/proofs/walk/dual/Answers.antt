-- `rate_skip::walk::dual`: the test of what is reserved and of intensity is the definition's. Assumes nothing.
use Prim.Native.Nat.{ℕ}
use mathlib.Core.Path.{sym, ap, ◌∙◌}
use mathlib.Core.Bool.{◌&&◌}
use lib.Dec.{ltb}
use Rattle.rate_spec.specs.Alloc.{ask_dual, dual_asked}
use Rattle.rate_skip.proofs.walk.dual.Goals as goal

pub returns-then-f-intensity-clause-answered : goal.returns-then-f-intensity-clause-answered
unfolding ask_dual dual_asked
returns-then-f-intensity-clause-answered g c =
    let a = c.args in
    rw (ap (λ (n : ℕ). ltb a.f.start a.intensity && ltb 0 n) (sym c.requires.0) ∙ c.if-f-intensity.true) (c.dual.ensures.answered c.args.f)

pub returns-else-f-intensity-clause-answered : goal.returns-else-f-intensity-clause-answered
unfolding ask_dual dual_asked
returns-else-f-intensity-clause-answered g c =
    let a = c.args in
    rw (ap (λ (n : ℕ). ltb a.f.start a.intensity && ltb 0 n) (sym c.requires.0) ∙ c.if-f-intensity.false, c.if-f-intensity.false)
