-- `vq::root::sqrt`: the quotient is the nearest f32, and so the definition's. Assumes nothing.
use Prim.Native.Nat.{◌^◌}
use mathlib.Core.Path.{◌∙◌}
use native.Mathlib.Nat.{lt_of_lt_of_le}
use native.Mathlib.Omega.{arith}
use lib.Dec.{lit<}
use lib.IntN.{pos}
use lib.Ieee.{binary32, round}
use Rattle.laws.proofs.Powers.{shl_one}
use Rattle.laws.proofs.Floats.{whole_float}
use Rattle.vq.proofs.Quotient.{pow_most, quotient}
use Rattle.vq.proofs.Nearer.{nearest_of}
use Rattle.vq.proofs.Only.{root_only}
use Rattle.vq.proofs.root.sqrt.Goals as goal

pub int_to_float-result-2 : goal.int_to_float-result-2
int_to_float-result-2 c =
    let s = c.scale-s in
    let h = s.ensures.small in
    rw (shl_one 64 s.result.j (omega arith)) (whole_float (pos (2 ^ s.result.j)) (pow_most s.result.j h))

pub returns : goal.returns
returns c =
    let s = c.scale-s in
    let m = c.near_root-m in
    let n = c.args.n in
    let j = s.result.j in
    let h = s.ensures.small in
    rw (shl_one 64 j (omega arith))
    (quotient m.result j (lt_of_lt_of_le (lit< tt) m.ensures.least) m.ensures.most h
    ∙ root_only n (round binary32 _ m.result (2 ^ j)) c.requires (omega arith)
    (nearest_of n s.result.v j m.result s.ensures m.ensures))
