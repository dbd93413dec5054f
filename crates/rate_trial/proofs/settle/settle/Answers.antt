-- `rate_trial::settle::settle`: the two searches lead to the bits of the definition, whose sum is within the budget. Assumes nothing.
use mathlib.Core.Path.{refl, sym, ◌∙◌}
use native.Mathlib.Omega.{arith}
use Rattle.rate_bands.specs.Inputs.{bare}
use Rattle.rate_spec.specs.Vectors.{threshold}
use Rattle.rate_bands.proofs.Frames.{budget-bare}
use Rattle.rate_bands.proofs.Listed.{filled}
use Rattle.rate_trial.proofs.Points.{point_ok}
use Rattle.rate_trial.proofs.Settling.{left_is, sum-within, thresholds_are, written}
use Rattle.rate_trial.proofs.settle.settle.Goals as goal

pub choose-found-requires : goal.choose-found-requires
choose-found-requires c =
    let a = c.args in
    let p = c.requires in
    (p.0, p.1, p.2 ∙ sym (budget-bare a.f a.offsets.now a.caps.now), p.3, refl, refl)

pub sixtyfourths_of-q-requires : goal.sixtyfourths_of-q-requires
sixtyfourths_of-q-requires c =
    let a = c.args in
    let p = c.requires in
    let b = bare a.f in
    let r = c.choose-found.ensures in (
      p.0,
      p.1,
      p.2 ∙ sym (budget-bare a.f a.offsets.now a.caps.now),
      filled b (threshold b) a.thresholds.now p.0.end-le p.3 r.2,
      r.3,
    )

pub invariant_of-p : goal.invariant_of-p
invariant_of-p c =
    let a = c.args in
    let p = c.requires in
    let r = c.choose-found in
    let q = c.sixtyfourths_of-q in
    record { frame = p.0; figures = point_ok a.f a.offsets.now a.caps.now p.0 p.1 r.result.v r.ensures.3 q.result q.ensures.1 }

pub last_pass-sum-requires : goal.last_pass-sum-requires
last_pass-sum-requires c =
    let a = c.args in
    let p = c.requires in
    let b = bare a.f in
    (p.1.caps-le, filled b (threshold b) a.thresholds.now p.0.end-le p.3 c.choose-found.ensures.2)

pub overflow_sub-result : goal.overflow_sub-result
overflow_sub-result c =
    let a = c.args in
    let p = c.requires in
    let r = c.choose-found.ensures in
    omega (
      arith,
      p.2,
      sum-within a.f a.offsets.now a.caps.now p.0 p.1 r.3 r.0 c.sixtyfourths_of-q.ensures.0 c.last_pass-sum.ensures.0,
    )

pub returns : goal.returns
returns c =
    let a = c.args in
    let p = c.requires in
    let r = c.choose-found.ensures in
    let q = c.sixtyfourths_of-q.ensures.0 in
    let l = c.last_pass-sum.ensures in (
      left_is a.f a.offsets.now a.caps.now p.0 p.1 r.3 r.0 q l.0 p.2,
      r.1,
      thresholds_are a.f a.offsets.now a.caps.now a.thresholds.now r.2,
      written a.f a.offsets.now a.caps.now p.0 p.1 r.3 r.0 q a.bits.now l.1,
    )
