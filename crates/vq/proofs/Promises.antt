-- The promises of specs/Promises.antt. Assumes nothing.
use Prim.Native.Nat.{◌/◌}
use lib.ListN.{length}
use borrow.Author.Tests.{lt-leb}
use Rattle.laws.proofs.Within.{within-finite}
use Rattle.vq.specs.Promises.{RootNearest, RootOnly, GainFinite, ShapeFinite, MaskShowsParts}
use Rattle.vq.proofs.Nearer as nearer
use Rattle.vq.proofs.Only as only
use Rattle.vq.proofs.Finite.{unit_within, accepted_finite}
use Rattle.vq.proofs.Masks.{bits-lt, mask_bit}

-- the whole number nearest to a scaled root, over the power of two
pub root_nearest : RootNearest
root_nearest = nearer.root_nearest

-- two nearest would lie on both sides of their middle
pub root_only : RootOnly
root_only = only.root_only

-- it is within 1
pub gain-finite : GainFinite
gain-finite g h = within-finite g 1 1 (unit_within g h)

-- 128 pulses, each times a factor of at most 1
pub shape-finite : ShapeFinite
shape-finite = accepted_finite

-- a part adds its own bit
pub mask_shows_parts : MaskShowsParts
mask_shows_parts b v h = rw (lt-leb b 1 h) (bits-lt (length v / b) v b, λ i l. mask_bit (length v / b) b v i l)
