-- `vq::alg_unquant`: the gate, then the work. Assumes nothing.
use Rattle.entcode.specs.Said.{verdict}
use Rattle.entcode.proofs.Said.{stopped-says, stopped-some}
use mathlib.Core.Path.{◌≡◌, sym, ap, ◌∙◌}
use lib.Dec.{lit≤}
use lib.ListN.{length}
use mir.Facts.{to_z-of_z}
use Rattle.laws.specs.Signs.{clip}
use Rattle.entdec.proofs.Accepted.{Open, opened}
use Rattle.entdec.proofs.Chain.{sound_ready}
use Rattle.vq.specs.Answer.{ShapeRequest, shape_request, length_ok, numbers_ok, gain_ok, special_shape, refusal_shape}
use Rattle.vq.proofs.Refusing.{domain, length-is, special_fits, answer_got, answer-refused}
use Rattle.vq.proofs.alg_unquant.Goals as goal
use Rattle.vq.proofs.alg_unquant.Goals.{After-clipped-parts, After-clipped-places, After-clipped-pulses, After-refusal_shape, Start, In_ok-refusal_shape}

-- what the call is asked
abbrev question : Start → ShapeRequest
question p = let a = p.args in shape_request a.n a.k a.spread a.b a.gain

-- the gate's number, in the contract's terms
gated : (c : After-refusal_shape) → let a = c.args in
    verdict c.refusal_shape.result ≡ refusal_shape (question (goal.at.After-refusal_shape c).Start) (length a.shape.now) a.s.now a.d
unfolding refusal_shape
gated c =
    let f = c.ranges in
    rw (to_z-of_z f.n, to_z-of_z f.k, to_z-of_z f.spread, to_z-of_z f.b) at c.refusal_shape.ensures

-- number 0
passed : (c : In_ok-refusal_shape) → let a = c.args in
    Open (length a.s.now) a.d (length_ok a.n (length a.shape.now)) (numbers_ok a.n a.k a.spread a.b) (gain_ok a.gain)
    (special_shape (clip a.n) (clip a.k) (clip a.spread))
unfolding refusal_shape
passed c = opened _ _ _ _ _ _ (sym (gated (goal.at.In_ok-refusal_shape c).After-refusal_shape) ∙ (ap verdict c.in_ok-refusal_shape.was))

-- the numbers as counts
places_is : (c : After-clipped-places) → c.clipped-places.result ≡ clip c.args.n
places_is c = c.clipped-places.ensures.0 ∙ ap clip (to_z-of_z c.ranges.n)

pulses-is : (c : After-clipped-pulses) → c.clipped-pulses.result ≡ clip c.args.k
pulses-is c = c.clipped-pulses.ensures.0 ∙ ap clip (to_z-of_z c.ranges.k)

parts_is : (c : After-clipped-parts) → c.clipped-parts.result ≡ clip c.args.b
parts_is c = c.clipped-parts.ensures.0 ∙ ap clip (to_z-of_z c.ranges.b)

pub unquant-requires : goal.unquant-requires
unquant-requires c =
    let a = c.args in
    let o = passed (goal.at.unquant-requires c).In_ok-refusal_shape in
    let q = domain a.n a.k a.spread a.b o.known in
    let n = q.places in
    let k = q.pulses in
    let b = q.parts in
    rw (
      places_is (goal.at.unquant-requires c).After-clipped-places,
      pulses-is (goal.at.unquant-requires c).After-clipped-pulses,
      parts_is
          (goal.at.unquant-requires c).After-clipped-parts,
    ) (record {
      ready = sound_ready 1 a.d o.state (lit≤ tt);
      le_n = (
        n.low,
        n.high,
        sym (length-is a.n (length a.shape.now) o.sizes),
        k.low,
        k.high,
        special_fits (clip a.n) (clip a.k) (clip a.spread) o.none,
        b.low,
        b.high,
      );
    })

pub returns : goal.returns
returns c =
    let e = rw (
      places_is (goal.at.returns c).After-clipped-places,
      pulses-is (goal.at.returns c).After-clipped-pulses,
      parts_is
          (goal.at.returns c).After-clipped-parts,
    ) at c.unquant.ensures in
    rw (e.0, e.1) (answer_got _ _ _ _ (sym (gated (goal.at.returns c).After-refusal_shape) ∙ (ap verdict c.in_ok-refusal_shape.was)))

pub returns-in_err-refusal_shape : goal.returns-in_err-refusal_shape
returns-in_err-refusal_shape c =
    let h = c.in_err-refusal_shape in
    rw (stopped-says _ _ _ h.was c.from_residual.ensures.1) (let g = gated (goal.at.returns-in_err-refusal_shape c).After-refusal_shape in
    rw g (answer-refused _ _ _ _ (rw g at (stopped-some _ _ h.was))))
