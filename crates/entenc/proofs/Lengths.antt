-- A wrong length is refused as 2, whatever the entries are: no list needs to be read before. Assumes nothing.
use Prim.Native.Nat.{ℕ}
use mathlib.Core.Path.{◌≡◌}
use mathlib.Core.Bool.{Bool, false, ◌&&◌}
use lib.Dec.{eqb}
use Rattle.entcode.specs.Refusal.{refusal}
use Rattle.entenc.specs.declared.Writer.{Writer}
use Rattle.entenc.specs.Rule.{write_refusal}

-- the test of the lengths comes first
pub wrong_lengths : (n : ℕ) (w : Writer) (lengths numbers lists : Bool) (special : ℕ) → (eqb w.sink.storage n && lengths) ≡ false
    → write_refusal n w lengths numbers lists special ≡ 2
unfolding write_refusal refusal
wrong_lengths n w lengths numbers lists special e = rw e
