-- The lent length, which stays whatever is answered. Assumes nothing.
use Prim.Native.Nat.{ℕ, zero, suc}
use mathlib.Core.Path.{◌≡◌, refl}
use mathlib.Core.List.{List}
use lib.ListN.{length}
use Rattle.entcode.specs.Said.{lent_after}
use Rattle.entcode.specs.Sym.{Shape}
use Rattle.entenc.specs.Write.{Wr}
use Rattle.entenc.specs.Close.{close_w}
use Rattle.entenc.specs.Symbols.{write_sym}
use Rattle.entenc.specs.Rule.{refusal_w, refusal_close}
use Rattle.entenc.specs.Answer.{writing, closing}
use Rattle.entenc.proofs.Sticky.{write-long, close-long}

-- what was written, or what was there before: both as long
long-said : (n : ℕ) (written before : List ℕ) → length written ≡ length before → length (lent_after n written before) ≡ length before
unfolding lent_after
long-said zero written before h = h
long-said (suc n) written before h = refl

-- refused or not, a write leaves the lent length
pub writing-long : (h : Shape) (v : ℕ) (w : Wr) → length (writing h v w).bytes ≡ length w.bytes
writing-long h v w = long-said (refusal_w h v w) (write_sym h v w).bytes w.bytes (write-long h v w)

-- so does a close
pub closing-long : (w : Wr) → length (closing w).bytes ≡ length w.bytes
closing-long w = long-said (refusal_close w) (close_w w).bytes w.bytes (close-long w)
