-- `vq::work::extract_collapse_mask`: the bits of the parts so far. Assumes nothing.
use mathlib.Core.Path.{◌≡◌}
use Rattle.vq.specs.Mask.{mask_bits}
use Rattle.vq.proofs.work.extract_collapse_mask.Given as goal

abbrev pub invariant-loop-i : goal.invariant-loop-i
invariant-loop-i l = l.mask ≡ mask_bits l.m l.i l.iy
