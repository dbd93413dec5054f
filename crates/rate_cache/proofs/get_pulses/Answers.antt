-- `rate_cache::get_pulses`: the gate, then the number of pulses. Assumes nothing.
use mathlib.Core.Path.{◌≡◌, sym, ap, ◌∙◌}
use native.Mathlib.Omega.{arith}
use lib.IntN.{pos}
use mir.Facts.{to_z-of_z}
use Rattle.laws.specs.Signs.{in_range}
use Rattle.entcode.specs.Said.{verdict}
use Rattle.entcode.proofs.Said.{stopped-says, stopped-some}
use Rattle.rate_cache.specs.Lookups.{refusal_of, pulses_at}
use Rattle.rate_cache.proofs.Gates.{index-pass, answer_no, answer-yes}
use Rattle.rate_cache.proofs.get_pulses.Goals as goal
use Rattle.rate_cache.proofs.get_pulses.Goals.{After-refusal_of}

-- the number of the refusal
number : (c : After-refusal_of) → verdict c.refusal_of.result ≡ refusal_of (in_range (pos 0) (pos 40) c.args.i) 0
number c = rw (c.in_range.ensures, to_z-of_z c.ranges.i) at c.refusal_of.ensures

pub returns-in_err-refusal_of : goal.returns-in_err-refusal_of
unfolding pulses_at
returns-in_err-refusal_of c =
    let h = c.in_err-refusal_of in
    rw (stopped-says _ _ _ h.was c.from_residual.ensures.1) (answer_no _ _ (number (goal.at.returns-in_err-refusal_of c).After-refusal_of)
    (stopped-some _ _ h.was))

pub pulses_of-requires : goal.pulses_of-requires
pulses_of-requires c =
    let n = rw (to_z-of_z c.ranges.i) at c.clipped.ensures.0 in
    omega (arith, index-pass c.args.i (sym (number (goal.at.pulses_of-requires c).After-refusal_of) ∙ (ap verdict c.in_ok-refusal_of.was)))

pub returns : goal.returns
unfolding pulses_at
returns c =
    let n = rw (to_z-of_z c.ranges.i) at c.clipped.ensures.0 in
    answer-yes _ _ (number (goal.at.returns c).After-refusal_of) (ap verdict c.in_ok-refusal_of.was) (rw n at c.pulses_of.ensures)
