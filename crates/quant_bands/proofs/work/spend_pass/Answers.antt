-- `quant_bands::work::spend_pass`: the bands done so far. Assumes nothing.
use Prim.Native.Nat.{◌-◌}
use mathlib.Core.Path.{◌∙◌}
use native.Mathlib.Omega.{arith}
use Rattle.laws.proofs.Places.{places-none, places-up}
use Rattle.quant_bands.specs.Finalise.{spend_band}
use Rattle.quant_bands.specs.Question.{count_at}
use Rattle.quant_bands.proofs.Ranged.{pass_done, pass_ready, pass_short}
use Rattle.quant_bands.proofs.work.spend_pass.Goals as goal

pub loop-i-init : goal.loop-i-init
loop-i-init c =
    let a = c.args in
    places-none (spend_band a.b.c a.pass (count_at a.fine.now) (count_at a.priorities.now) a.s.now) a.b.start _

pub spend_band-y-requires : goal.spend_band-y-requires
spend_band-y-requires c =
    let l = c.loop-i in
    let a = c.args in
    let b = a.b.within in record {
      e_len = (l.auto.energies ∙ c.requires.lent.0, c.requires.lent.1, c.requires.lent.2, omega (arith, b.end-le), b.c_low);
      ready = pass_ready a.b.c a.pass (count_at a.fine.now) (count_at a.priorities.now) a.s.now a.b.start _ (l.i - a.b.start)
          (omega (arith, b.end-le)) c.requires.ready l.invariant;
    }

pub loop-i-preserved : goal.loop-i-preserved
loop-i-preserved c =
    let r = c.spend_band-y in
    let l = c.loop-i in
    let a = c.args in
    places-up (spend_band a.b.c a.pass (count_at a.fine.now) (count_at a.priorities.now) a.s.now) a.b.start l.i _ l.auto.i l.invariant
    r.ensures

pub returns-then-y-b : goal.returns-then-y-b
returns-then-y-b c =
    let l = c.loop-i in
    let a = c.args in
    pass_short a.b.c a.pass (count_at a.fine.now) (count_at a.priorities.now) a.s.now a.b.start _ l.i a.b.end l.auto.i (omega arith)
    l.invariant c.if-y-b.true

pub returns-after-loop-i : goal.returns-after-loop-i
returns-after-loop-i c =
    let l = c.loop-i in
    let a = c.args in
    pass_done a.b.c a.pass (count_at a.fine.now) (count_at a.priorities.now) a.s.now a.b.start _ l.i a.b.end (omega (arith, a.b.within.start-lt))
    l.invariant
