-- What every write and close keeps, whatever the state: the error mark once it is set, and the lent length. Assumes nothing.
use Prim.Native.Nat.{ℕ, zero, suc, ◌+◌, ◌-◌, ◌/◌, ◌^◌}
use mathlib.Core.Path.{◌≡◌}
use mathlib.Core.Bool.{cond}
use mathlib.Core.List.{List, [], ◌∷◌}
use lib.ListN.{length}
use lib.Dec.{leb}
use Rattle.entcode.specs.Range.{renorm_steps, cut_start, cut_width}
use Rattle.entcode.specs.Sym.{Piece, Shape, pieces_of, adjust}
use Rattle.entcode.specs.Sym.Piece.{cut, bits}
use Rattle.entenc_sink.specs.Carry.{settled}
use Rattle.entenc_sink.proofs.Keeping.{Keeps, keeps_same, keeps_then, emit-keeps, flush-keeps, finish-keeps}
use Rattle.entenc.specs.Write.{Wr, out_of, shift_w, shifts_w, narrowed, cut_w, bits_w}
use Rattle.entenc.specs.Close.{tail_bits, tail_end, byte_count, ending_at, end_w, rest_out, close_out, close_w}
use Rattle.entenc.specs.Symbols.{write_piece, write_pieces, write_sym}

-- ---- a symbol

-- one step
shift-keeps : (w : Wr) → Keeps (out_of w) (out_of (shift_w w))
unfolding shift_w
shift-keeps w = emit-keeps (settled w.st.rem w.st.ext (w.st.val / 8388608)) (out_of w)

-- k steps
shifts_keep : (k : ℕ) (w : Wr) → Keeps (out_of w) (out_of (shifts_w k w))
unfolding shifts_w
shifts_keep zero w = keeps_same (out_of w)
shifts_keep (suc k) w = keeps_then (shift-keeps w) (shifts_keep k (shift_w w))

-- a piece
piece_keeps : (p : Piece) (w : Wr) → Keeps (out_of w) (out_of (write_piece p w))
unfolding cut_w bits_w
piece_keeps (cut fl fh ft) w =
    shifts_keep (renorm_steps (cut_width w.st.rng fl fh ft)) (narrowed (cut_start w.st.rng fl ft) (cut_width w.st.rng fl fh ft) w)
piece_keeps (bits b v) w = flush-keeps (cond (leb (w.st.waiting + b) 32) 0 (w.st.waiting / 8)) w.st.window (out_of w)

-- pieces
pieces_keep : (ps : List Piece) (w : Wr) → Keeps (out_of w) (out_of (write_pieces ps w))
unfolding write_pieces
pieces_keep [] w = keeps_same (out_of w)
pieces_keep (p ∷ ps) w = keeps_then (piece_keeps p w) (pieces_keep ps (write_piece p w))

-- a symbol of any kind
pub sym-keeps : (h : Shape) (v : ℕ) (w : Wr) → Keeps (out_of w) (out_of (write_sym h v w))
sym-keeps h v w = pieces_keep (pieces_of h (adjust h v)) w

-- ---- a close

-- the last bytes, the held ones, the raw ones and the gap
close-out : (w : Wr) → Keeps (out_of w) (close_out w)
unfolding close_out end_w
close-out w =
    keeps_then
    (shifts_keep (byte_count (tail_bits w.st.val w.st.rng))
    (ending_at (tail_end w.st.val w.st.rng) (2 ^ (31 - tail_bits w.st.val w.st.rng)) w))
    (keeps_then (emit-keeps (settled (end_w w).st.rem (end_w w).st.ext 0) (out_of (end_w w)))
    (keeps_then (flush-keeps (w.st.waiting / 8) w.st.window (rest_out (end_w w))) (finish-keeps _ _ _ _)))

-- a close
pub close-keeps : (w : Wr) → Keeps (out_of w) (out_of (close_w w))
unfolding close_w
close-keeps w = close-out w

-- ---- the length

-- a write keeps the lent length, for any state and any value
pub write-long : (h : Shape) (v : ℕ) (w : Wr) → length (write_sym h v w).bytes ≡ length w.bytes
write-long h v w = (sym-keeps h v w).long

-- so does a close
pub close-long : (w : Wr) → length (close_w w).bytes ≡ length w.bytes
close-long w = (close-keeps w).long
