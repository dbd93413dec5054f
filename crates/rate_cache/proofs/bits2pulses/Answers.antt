-- `rate_cache::bits2pulses`: the gate, then the row's index nearest to the bits. Assumes nothing.
use Prim.Native.Nat.{◌≤◌}
use mathlib.Core.Path.{◌≡◌, sym, ap, ◌∙◌}
use mathlib.Core.Bool.{◌&&◌}
use native.Mathlib.Omega.{arith}
use mir.Facts.{to_z-of_z}
use Rattle.laws.specs.Signs.{clip}
use Rattle.modes.specs.CacheIndex.{row_start}
use Rattle.entcode.specs.Said.{verdict}
use Rattle.entcode.proofs.Said.{stopped-says, stopped-some}
use Rattle.rate_cache.specs.Lookups.{refusal_of, level_of, band_ok, bits_ok, HasRow, no_row, bits_to_pulses}
use Rattle.rate_cache.proofs.Costs.{pulses-clip}
use Rattle.rate_cache.proofs.Gates.{bits-pass, row_is, answer_no, answer-yes}
use Rattle.rate_cache.proofs.bits2pulses.Goals as goal
use Rattle.rate_cache.proofs.bits2pulses.Goals.{After-bits_refusal, After-row_of}

-- the number of the refusal
number : (c : After-bits_refusal)
    → verdict c.bits_refusal.result
    ≡ refusal_of (band_ok c.args.band c.args.lm && bits_ok c.args.bits)
    (no_row (level_of c.args.lm) (clip c.args.band))
number c = let f = c.ranges in rw (to_z-of_z f.band, to_z-of_z f.lm, to_z-of_z f.bits) at c.bits_refusal.ensures

-- there is none
pass : (c : After-bits_refusal) → verdict c.bits_refusal.result ≡ 0
    → HasRow c.args.band c.args.lm × (clip c.args.bits ≤ 81600)
pass c z = let a = c.args in bits-pass a.band a.lm a.bits (sym (number c) ∙ z)

-- the row
start : (c : After-row_of)
    → c.row_of.result ≡ row_start (level_of c.args.lm) (clip c.args.band)
start c = let f = c.ranges in rw (to_z-of_z f.band, to_z-of_z f.lm) at c.row_of.ensures

pub returns-in_err-bits_refusal : goal.returns-in_err-bits_refusal
unfolding bits_to_pulses
returns-in_err-bits_refusal c =
    let h = c.in_err-bits_refusal in
    rw (stopped-says _ _ _ h.was c.from_residual.ensures.1) (answer_no _ _ (number (goal.at.returns-in_err-bits_refusal c).After-bits_refusal)
    (stopped-some _ _ h.was))

pub row_of-requires : goal.row_of-requires
row_of-requires c = let f =
    c.ranges in rw (to_z-of_z f.band, to_z-of_z f.lm) (pass (goal.at.row_of-requires c).After-bits_refusal (ap verdict c.in_ok-bits_refusal.was)).0

pub pulses_for-requires : goal.pulses_for-requires
pulses_for-requires c =
    let p = pass (goal.at.pulses_for-requires c).After-bits_refusal (ap verdict c.in_ok-bits_refusal.was) in
    let n = rw (to_z-of_z c.ranges.bits) at c.clipped.ensures.0 in
    (rw (start (goal.at.pulses_for-requires c).After-row_of) (row_is c.args.band c.args.lm p.0), omega (arith, p.1))

pub returns : goal.returns
unfolding bits_to_pulses
returns c =
    let n = rw (to_z-of_z c.ranges.bits) at c.clipped.ensures.0 in
    answer-yes _ _ (number (goal.at.returns c).After-bits_refusal) (ap verdict c.in_ok-bits_refusal.was)
    ((rw (start (goal.at.returns c).After-row_of, n) at c.pulses_for.ensures) ∙ pulses-clip _ c.args.bits)
