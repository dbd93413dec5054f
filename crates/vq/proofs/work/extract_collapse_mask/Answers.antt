-- `vq::work::extract_collapse_mask`: the bits of the parts so far. Assumes nothing.
use Prim.Native.Nat.{◌+◌, ◌/◌, ◌^◌, ◌≤◌}
use mathlib.Core.Path.{◌≡◌}
use native.Mathlib.Omega.{arith}
use lib.ListN.{length}
use lib.Pow.{pow_mono}
use Rattle.vq.specs.Mask.{mask_bits}
use Rattle.vq.proofs.Masks.{bits_none, bits-next, bits-lt}
use Rattle.vq.proofs.work.extract_collapse_mask.Goals as goal
use Rattle.vq.proofs.work.extract_collapse_mask.Goals.{After-bit_of-mask}

-- the mask with the next part
grown : (c : After-bit_of-mask) → let l = c.loop-i in let a = c.args in
    l.mask + c.bit_of-mask.result ≡ mask_bits (length a.iy.now / a.b) (l.i + 1) a.iy.now
grown c =
    let l = c.loop-i in
    let a = c.args in
    rw (l.invariant, c.bit_of-mask.ensures) (bits-next (length a.iy.now / a.b) a.iy.now l.i)

pub loop-i-init : goal.loop-i-init
loop-i-init c = bits_none _ _

pub overflow_add-mask : goal.overflow_add-mask
overflow_add-mask c =
    let l = c.loop-i in
    let a = c.args in
    let p : 2 ^ (l.i + 1) ≤ 2 ^ 16 = pow_mono {i = l.i + 1} {j = 16} (omega arith) in
    omega (arith, grown (goal.at.overflow_add-mask c).After-bit_of-mask, bits-lt (length a.iy.now / a.b) a.iy.now (l.i + 1))

pub loop-i-preserved : goal.loop-i-preserved
loop-i-preserved c = grown (goal.at.loop-i-preserved c).After-bit_of-mask
