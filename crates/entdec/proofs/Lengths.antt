-- A wrong length is refused as 2, whatever the entries are: no list needs to be read before. Assumes nothing.
use Prim.Native.Nat.{ℕ}
use mathlib.Core.Path.{◌≡◌}
use mathlib.Core.Bool.{Bool, false, ◌&&◌}
use lib.Dec.{eqb}
use Rattle.entcode.specs.Refusal.{refusal}
use Rattle.entdec.specs.declared.Reader.{Reader}
use Rattle.entdec.specs.Rule.{read_refusal}

-- the test of the lengths comes first
pub wrong_lengths : (n : ℕ) (d : Reader) (lengths numbers lists : Bool) (special : ℕ) → (eqb d.storage n && lengths) ≡ false
    → read_refusal n d lengths numbers lists special ≡ 2
unfolding read_refusal refusal
wrong_lengths n d lengths numbers lists special e = rw e
