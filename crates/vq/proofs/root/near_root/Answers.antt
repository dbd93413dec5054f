-- `vq::root::near_root`: on which side of the middle the root lies. Assumes nothing.
use native.Mathlib.Omega.{arith}
use Rattle.vq.proofs.Squares.{near_up}
use Rattle.vq.proofs.root.near_root.Goals as goal

-- found without it too: it stands so that a wrong edit fails by this fact, and not by a limit of the search
pub returns-else-v-s : goal.returns-else-v-s
returns-else-v-s c = let f = c.floor_root-s.ensures in near_up _ _ f (omega (arith, f.least, c.if-v-s.false))
