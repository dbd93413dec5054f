-- `quant_bands::unquant_coarse_energy`: the gate, then the work. Assumes nothing.
use Rattle.entcode.specs.Said.{verdict}
use Rattle.entcode.proofs.Said.{stopped-says, stopped-some}
use mathlib.Core.Path.{◌≡◌, sym, ◌∙◌, ap}
use lib.Dec.{lit≤}
use lib.ListN.{length}
use mir.Facts.{to_z-of_z}
use borrow.Author.Tests.{eqb-true}
use Rattle.entdec.proofs.Accepted.{Open, opened}
use Rattle.entdec.proofs.Chain.{sound_ready}
use Rattle.quant_bands.specs.Question.{energies_sized, energies_ok, coarse_ok, refusal_coarse}
use Rattle.quant_bands.proofs.Accepts.{coarse_got, coarse-refused}
use Rattle.quant_bands.proofs.unquant_coarse_energy.Goals as goal
use Rattle.quant_bands.proofs.unquant_coarse_energy.Goals.{After-refusal_coarse, In_ok-refusal_coarse}

-- the gate's number, in the contract's terms
gated : (c : After-refusal_coarse) → let a = c.args in
    verdict c.refusal_coarse.result ≡ refusal_coarse a.c a.lm a.start a.end a.intra a.s.now a.d a.energies.now
unfolding refusal_coarse
gated c =
    let f = c.ranges in
    rw (to_z-of_z f.c, to_z-of_z f.lm, to_z-of_z f.start, to_z-of_z f.end, to_z-of_z f.intra) at c.refusal_coarse.ensures

-- number 0
passed : (c : In_ok-refusal_coarse) → let a = c.args in
    Open (length a.s.now) a.d (energies_sized (length a.energies.now)) (coarse_ok a.c a.lm a.start a.end a.intra)
    (energies_ok a.energies.now) 0
unfolding refusal_coarse
passed c = opened _ _ _ _ _ _ (sym (gated (goal.at.In_ok-refusal_coarse c).After-refusal_coarse) ∙ (ap verdict c.in_ok-refusal_coarse.was))

pub of-f-requires : goal.of-f-requires
of-f-requires c =
    let f = c.ranges in
    rw (to_z-of_z f.c, to_z-of_z f.lm, to_z-of_z f.start, to_z-of_z f.end, to_z-of_z f.intra)
    (passed (goal.at.of-f-requires c).In_ok-refusal_coarse).known

pub coarse-requires : goal.coarse-requires
coarse-requires c =
    let a = c.args in
    let o = passed (goal.at.coarse-requires c).In_ok-refusal_coarse in
    record { lent = eqb-true (length a.energies.now) 42 o.sizes; ready = sound_ready 42 a.d o.state (lit≤ tt) }

pub returns : goal.returns
returns c =
    let f = c.ranges in
    let b = rw (to_z-of_z f.c, to_z-of_z f.lm, to_z-of_z f.start, to_z-of_z f.end, to_z-of_z f.intra) at c.of-f.ensures in
    let g = rw (b.0, b.1, b.2, b.3, b.4) at c.coarse.ensures in
    let a = c.args in
    coarse_got a.c a.lm a.start a.end a.intra a.s.now a.d a.energies.now (gated (goal.at.returns c).After-refusal_coarse)
    (ap verdict c.in_ok-refusal_coarse.was) g

pub returns-in_err-refusal_coarse : goal.returns-in_err-refusal_coarse
returns-in_err-refusal_coarse c =
    let h = c.in_err-refusal_coarse in
    rw (stopped-says _ _ _ h.was c.from_residual.ensures.1) (let a = c.args in
    coarse-refused a.c a.lm a.start a.end a.intra a.s.now a.d a.energies.now (gated (goal.at.returns-in_err-refusal_coarse c).After-refusal_coarse)
    (stopped-some _ _ h.was))
