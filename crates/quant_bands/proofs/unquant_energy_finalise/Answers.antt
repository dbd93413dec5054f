-- `quant_bands::unquant_energy_finalise`: the gate, then the work. Assumes nothing.
use Rattle.entcode.specs.Said.{verdict}
use Rattle.entcode.proofs.Said.{stopped-says, stopped-some}
use mathlib.Core.Path.{◌≡◌, sym, ◌∙◌, ap}
use mathlib.Core.Bool.{◌&&◌}
use lib.Dec.{eqb, lit≤}
use lib.ListN.{length}
use mir.Facts.{to_z-of_z}
use Rattle.entdec.proofs.Accepted.{Open, opened}
use Rattle.entdec.proofs.Chain.{sound_ready}
use Rattle.quant_bands.specs.Question.{energies_sized, energies_ok, bands_ok, fines_ok, refusal_finalise}
use Rattle.quant_bands.proofs.Accepts.{sized, finalise_got, finalise-refused}
use Rattle.quant_bands.proofs.unquant_energy_finalise.Goals as goal
use Rattle.quant_bands.proofs.unquant_energy_finalise.Goals.{After-refusal_finalise, In_ok-refusal_finalise}

-- the gate's number, in the contract's terms
gated : (c : After-refusal_finalise) → let a = c.args in
    verdict c.refusal_finalise.result ≡ refusal_finalise a.c a.start a.end a.fine.now a.priorities.now a.s.now a.d a.energies.now
unfolding refusal_finalise
gated c =
    let f = c.ranges in
    rw (to_z-of_z f.c, to_z-of_z f.start, to_z-of_z f.end) at c.refusal_finalise.ensures

-- number 0
passed : (c : In_ok-refusal_finalise) → let a = c.args in
    Open (length a.s.now) a.d (energies_sized (length a.energies.now) && eqb (length a.fine.now) 21 && eqb (length a.priorities.now) 21)
    (bands_ok a.c a.start a.end) (energies_ok a.energies.now && fines_ok a.fine.now a.priorities.now) 0
unfolding refusal_finalise
passed c = opened _ _ _ _ _ _ (sym (gated (goal.at.In_ok-refusal_finalise c).After-refusal_finalise) ∙ (ap verdict c.in_ok-refusal_finalise.was))

pub of-b-requires : goal.of-b-requires
of-b-requires c =
    let f = c.ranges in
    rw (to_z-of_z f.c, to_z-of_z f.start, to_z-of_z f.end) (passed (goal.at.of-b-requires c).In_ok-refusal_finalise).known

pub finalise-requires : goal.finalise-requires
finalise-requires c =
    let a = c.args in
    let o = passed (goal.at.finalise-requires c).In_ok-refusal_finalise in
    record { lent = sized _ _ _ o.sizes; ready = sound_ready 84 a.d o.state (lit≤ tt) }

pub returns : goal.returns
returns c =
    let f = c.ranges in
    let b = rw (to_z-of_z f.c, to_z-of_z f.start, to_z-of_z f.end) at c.of-b.ensures in
    let g = rw (b.0, b.1, b.2, rw (to_z-of_z f.left) at c.clipped-bits.ensures.0) at c.finalise.ensures in
    let a = c.args in
    finalise_got a.c a.start a.end a.fine.now a.priorities.now a.left a.s.now a.d a.energies.now
    (gated (goal.at.returns c).After-refusal_finalise)
    (ap verdict c.in_ok-refusal_finalise.was) g

pub returns-in_err-refusal_finalise : goal.returns-in_err-refusal_finalise
returns-in_err-refusal_finalise c =
    let h = c.in_err-refusal_finalise in
    rw (stopped-says _ _ _ h.was c.from_residual.ensures.1) (let a = c.args in
    finalise-refused a.c a.start a.end a.fine.now a.priorities.now a.left a.s.now a.d a.energies.now
    (gated (goal.at.returns-in_err-refusal_finalise c).After-refusal_finalise)
    (stopped-some _ _ h.was))
