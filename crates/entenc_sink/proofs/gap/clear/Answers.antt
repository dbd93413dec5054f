-- `entenc_sink::gap::clear`: zeros stand in the place of the bytes. Assumes nothing.
use Prim.Native.Nat.{ℕ, ◌+◌, ◌-◌}
use mathlib.Core.Path.{◌≡◌, ap, ◌∙◌}
use native.Mathlib.Omega.{arith}
use lib.ListN.{replicate, length-take, length-drop}
use Rattle.entenc_sink.proofs.Gaps.{zeros_at}
use Rattle.entenc_sink.proofs.gap.clear.Goals as goal

pub returns : goal.returns
returns c =
    let a = c.args in
    let k : a.a + a.n - a.a ≡ a.n = omega arith in
    let e : c.fill.new.self ≡ replicate a.n 0 =
    c.fill.ensures.after (λ y p. p) ∙ ap (λ (m : ℕ). replicate m 0) (simp (length-take, length-drop) (omega arith)) in
    rw (e, k) (zeros_at a.n a.a a.buf.now c.requires)
