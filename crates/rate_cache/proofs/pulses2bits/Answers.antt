-- `rate_cache::pulses2bits`: the gate, then the row's cost of the index. Assumes nothing.
use Prim.Native.Nat.{◌≤◌}
use mathlib.Core.Path.{◌≡◌, sym, ap, ◌∙◌}
use native.Mathlib.Omega.{arith}
use mir.Facts.{to_z-of_z}
use Rattle.laws.specs.Signs.{clip}
use Rattle.modes.specs.CacheBits.{row_length}
use Rattle.modes.specs.CacheIndex.{row_start}
use Rattle.entcode.specs.Said.{verdict}
use Rattle.entcode.proofs.Said.{stopped-says, stopped-some}
use Rattle.rate_cache.specs.Lookups.{refusal_of, level_of, band_ok, HasRow, no_entry, pulses_to_bits}
use Rattle.rate_cache.proofs.Gates.{pulses-pass, row_is, answer_no, answer-yes}
use Rattle.rate_cache.proofs.pulses2bits.Goals as goal
use Rattle.rate_cache.proofs.pulses2bits.Goals.{After-pulses_refusal, After-row_of}

-- the number of the refusal
number : (c : After-pulses_refusal)
    → verdict c.pulses_refusal.result
    ≡ refusal_of (band_ok c.args.band c.args.lm)
    (no_entry (level_of c.args.lm) (clip c.args.band) c.args.pulses)
number c = let f = c.ranges in rw (to_z-of_z f.band, to_z-of_z f.lm, to_z-of_z f.pulses) at c.pulses_refusal.ensures

-- there is none
pass : (c : After-pulses_refusal) → verdict c.pulses_refusal.result ≡ 0
    → HasRow c.args.band c.args.lm
    × (clip c.args.pulses ≤ row_length (row_start (level_of c.args.lm) (clip c.args.band)))
pass c z = let a = c.args in pulses-pass a.band a.lm a.pulses (sym (number c) ∙ z)

-- the row
start : (c : After-row_of)
    → c.row_of.result ≡ row_start (level_of c.args.lm) (clip c.args.band)
start c = let f = c.ranges in rw (to_z-of_z f.band, to_z-of_z f.lm) at c.row_of.ensures

pub returns-in_err-pulses_refusal : goal.returns-in_err-pulses_refusal
unfolding pulses_to_bits
returns-in_err-pulses_refusal c =
    let h = c.in_err-pulses_refusal in
    rw (stopped-says _ _ _ h.was c.from_residual.ensures.1) (answer_no _ _ (number (goal.at.returns-in_err-pulses_refusal c).After-pulses_refusal)
    (stopped-some _ _ h.was))

pub row_of-requires : goal.row_of-requires
row_of-requires c = let f =
    c.ranges in rw (to_z-of_z f.band, to_z-of_z f.lm) (pass (goal.at.row_of-requires c).After-pulses_refusal (ap verdict c.in_ok-pulses_refusal.was)).0

pub bits_for-requires : goal.bits_for-requires
bits_for-requires c =
    let p = pass (goal.at.bits_for-requires c).After-pulses_refusal (ap verdict c.in_ok-pulses_refusal.was) in
    let w = row_is c.args.band c.args.lm p.0 in
    let n = rw (to_z-of_z c.ranges.pulses) at c.clipped.ensures.0 in
    rw (start (goal.at.bits_for-requires c).After-row_of, n) (omega (arith, p.1, w.inside))

pub returns : goal.returns
unfolding pulses_to_bits
returns c =
    let n = rw (to_z-of_z c.ranges.pulses) at c.clipped.ensures.0 in
    answer-yes _ _ (number (goal.at.returns c).After-pulses_refusal) (ap verdict c.in_ok-pulses_refusal.was)
    (rw (start (goal.at.returns c).After-row_of, n) at c.bits_for.ensures)
