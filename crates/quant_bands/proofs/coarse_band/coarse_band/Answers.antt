-- `quant_bands::coarse_band::coarse_band`: the channels done so far. Assumes nothing.
use Prim.Native.Nat.{◌+◌, ◌<◌}
use mathlib.Core.Path.{◌≡◌, ◌∙◌}
use mathlib.Core.Bool.{true}
use native.Mathlib.Omega.{arith}
use Rattle.modes.specs.Laplace.{legal}
use Rattle.quant_bands.specs.Coarse.{coarse_state}
use Rattle.quant_bands.proofs.BandKind.{kind-legal}
use Rattle.quant_bands.proofs.Banded.{channels_none, channels_up, channels_ready, band-is}
use Rattle.quant_bands.proofs.coarse_band.coarse_band.Goals as goal
use Rattle.quant_bands.proofs.coarse_band.coarse_band.Goals.{After-kind_of-m}

lawful : (c : After-kind_of-m) → legal c.kind_of-m.result.zero c.kind_of-m.result.decay ≡ true
lawful c =
    let a = c.args in
    rw c.kind_of-m.ensures (kind-legal a.f.lm a.f.intra a.i a.f.size_lt)

pub loop-k-init : goal.loop-k-init
loop-k-init c =
    let a = c.args in (
      omega (arith, c.requires.e_len.2),
      omega (arith, c.requires.e_len.2),
      channels_none c.kind_of-m.result a.s.now a.i (coarse_state a.e.now a.g.first a.g.second a.g.next) c.requires.e_len.2,
    )

pub channel-y-requires : goal.channel-y-requires
channel-y-requires c =
    let l = c.loop-k in
    let a = c.args in
    let g = coarse_state a.e.now a.g.first a.g.second a.g.next in
    let m = lawful (goal.at.channel-y-requires c).After-kind_of-m in
    let h : l.k < 42 = omega (arith, c.end_of-end.ensures.1, c.loop-k-test) in record {
      k_in_bounds = omega (arith, l.auto.e, c.requires.e_len.0);
      decay_value = m;
      ready = channels_ready c.kind_of-m.result a.s.now a.i g l.k m c.requires.ready h l.invariant.2;
    }

pub loop-k-preserved : goal.loop-k-preserved
loop-k-preserved c =
    let r = c.channel-y in
    let t = c.loop-k-test in
    let l = c.loop-k in
    let a = c.args in
    let g = coarse_state a.e.now a.g.first a.g.second a.g.next in
    let h : l.k < 42 = omega (arith, c.end_of-end.ensures.1, t) in (
      omega (arith, l.invariant.0),
      omega (arith, t),
      channels_up c.kind_of-m.result a.s.now a.i g l.k c.requires.e_len.2 l.invariant.0 h l.invariant.2 r.ensures,
    )

pub returns : goal.returns
returns c =
    let l = c.loop-k in
    let m = c.kind_of-m in
    let a = c.args in
    let g = coarse_state a.e.now a.g.first a.g.second a.g.next in
    l.invariant.2 ∙ band-is m.result a.s.now a.i g a.f.bands.c a.f.lm a.f.intra l.k m.ensures c.end_of-end.ensures.0 (omega arith) l.invariant.1

pub returns-2 : goal.returns-2
returns-2 c =
    let l = c.loop-k in
    let m = c.kind_of-m in
    let a = c.args in
    let v = l.invariant in
    let g = coarse_state a.e.now a.g.first a.g.second a.g.next in
    let h : l.k < 42 = omega (arith, c.end_of-end.ensures.1, c.loop-k-test) in
    channels_up m.result a.s.now a.i g l.k c.requires.e_len.2 v.0 h v.2 c.channel-y.ensures
    ∙ band-is m.result a.s.now a.i g a.f.bands.c a.f.lm a.f.intra (l.k + 21) m.ensures c.end_of-end.ensures.0 (omega arith) (omega arith)
