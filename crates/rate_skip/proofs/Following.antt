-- Each symbol leaves the coder ready for one less. Assumes nothing.
use Prim.Native.Nat.{ℕ, suc, ◌≤◌, ◌<◌}
use mathlib.Core.Bool.{Bool, true, false, cond}
use mathlib.Core.List.{List}
use mathlib.Core.Path.{◌≡◌, refl}
use mir.Val.{bool_byte}
use borrow.Author.Tests.{le-leb, lt-ltb}
use Rattle.entcode.specs.Sym.{length_ok, list_ok, shape_ok, value_ok}
use Rattle.entcode.specs.Sym.Shape.{bit, uint}
use Rattle.entcode.proofs.Pieces.{pieces_ok}
use Rattle.entdec.specs.declared.Reader.{Reader}
use Rattle.entdec.specs.Ready as dec
use Rattle.entdec.specs.Symbols.{read_sym}
use Rattle.entdec.proofs.Chain as reader
use Rattle.entenc.specs.Ready as enc
use Rattle.entenc.specs.Symbols.{write_sym}
use Rattle.entenc.specs.Write.{Wr}
use Rattle.entenc.proofs.Chain as writer
use Rattle.rate_skip.specs.Asks.{write_bit}

-- ---- a reader

-- a flag
pub bit-read : (k : ℕ) (s : List ℕ) (d : Reader) → dec.Ready (suc k) d → dec.Ready k (read_sym (bit 1) s d).next
unfolding length_ok shape_ok list_ok
bit-read k s d r = reader.ready_after k (bit 1) s d r refl refl refl tt

-- one of n values
pub below-read : (k n : ℕ) (s : List ℕ) (d : Reader) → 2 ≤ n → n ≤ 4294967295 → dec.Ready (suc k) d → dec.Ready k (read_sym (uint n) s d).next
unfolding length_ok shape_ok list_ok
below-read k n s d h g r = reader.ready_after k (uint n) s d r refl (rw (le-leb 2 n h, le-leb n 4294967295 g)) refl tt

-- ---- a writer

bit-fits : (b : Bool) → value_ok (bit 1) (cond b 1 0) ≡ true
unfolding value_ok
bit-fits true = refl
bit-fits false = refl

-- a flag as a number
pub flag-number : (b : Bool) → bool_byte b ≡ cond b 1 0
flag-number true = refl
flag-number false = refl

-- a flag
pub bit-write : (k : ℕ) (b : Bool) (w : Wr) → enc.Ready (suc k) w → enc.Ready k (write_bit b w)
unfolding shape_ok list_ok
bit-write k b w r = writer.ready_after k (bit 1) (cond b 1 0) w (pieces_ok (bit 1) (cond b 1 0) refl (bit-fits b) refl tt) r

-- one of n values
pub below-write : (k n v : ℕ) (w : Wr) → 2 ≤ n → n ≤ 4294967295 → v < n → enc.Ready (suc k) w → enc.Ready k (write_sym (uint n) v w)
unfolding shape_ok value_ok list_ok
below-write k n v w h g l r =
    writer.ready_after k (uint n) v w (pieces_ok (uint n) v (rw (le-leb 2 n h, le-leb n 4294967295 g)) (lt-ltb v n l) refl tt) r
