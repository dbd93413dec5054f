-- `quant_bands::work::coarse_bands`: the bands done so far. Assumes nothing.
use Prim.Native.Nat.{◌-◌}
use mathlib.Core.Path.{◌∙◌}
use native.Mathlib.Omega.{arith}
use Rattle.laws.proofs.Places.{places-none, places-up}
use Rattle.quant_bands.specs.Coarse.{coarse_band}
use Rattle.quant_bands.proofs.Ranged.{coarse_ready}
use Rattle.quant_bands.proofs.work.coarse_bands.Goals as goal

pub loop-i-init : goal.loop-i-init
loop-i-init c =
    let a = c.args in
    places-none (coarse_band a.f.bands.c a.f.lm a.f.intra a.s.now) a.f.bands.start _

pub coarse_band-g-requires : goal.coarse_band-g-requires
coarse_band-g-requires c =
    let l = c.loop-i in
    let a = c.args in
    let b = a.f.bands.within
    in record {
      e_len = (l.auto.energies ∙ c.requires.lent.0, c.requires.lent.1, omega (arith, b.end-le));
      ready = coarse_ready
          a.f.bands.c a.f.lm a.f.intra a.s.now a.f.bands.start (l.i - a.f.bands.start) _ a.f.size_lt (omega (arith, b.end-le)) c.requires.ready l.invariant;
    }

pub loop-i-preserved : goal.loop-i-preserved
loop-i-preserved c =
    let r = c.coarse_band-g in
    let l = c.loop-i in
    let a = c.args in
    places-up (coarse_band a.f.bands.c a.f.lm a.f.intra a.s.now) a.f.bands.start l.i _ l.auto.i l.invariant r.ensures
