-- `rate_bands::budget::reserves_of`: the three cases, one channel, too little for intensity, and both stereo symbols. Assumes nothing.
use native.Mathlib.Omega.{arith}
use mathlib.Core.Path.{◌≡◌}
use Rattle.rate_bands.specs.Inputs.{bare}
use Rattle.rate_bands.proofs.Reserving.{all_three, is-paid, not-paid, one_channel, skip-alone}
use Rattle.rate_bands.proofs.budget.reserves_of.Goals as goal

pub returns-then-f-lt2 : goal.returns-then-f-lt2
returns-then-f-lt2 c =
    let a = bare c.args.f in
    let p = c.bit_of-skip.ensures.0 in
    skip-alone a p (one_channel a p c.if-f-lt2.true)

pub returns-then-rest-cost : goal.returns-then-rest-cost
returns-then-rest-cost c =
    let a = bare c.args.f in
    let p = c.bit_of-skip.ensures.0 in
    let two : a.C ≡ 2 = omega arith in
    skip-alone a p (not-paid a p two c.fraction_of-cost.ensures.0 c.if-rest-cost.true)

pub returns : goal.returns
returns c =
    let a = bare c.args.f in
    let p = c.bit_of-skip.ensures.0 in
    let q = c.fraction_of-cost.ensures.0 in
    let two : a.C ≡ 2 = omega arith in
    all_three a p two q (is-paid a p two q c.if-rest-cost.false) c.bit_of-dual.ensures.0
