-- The range and the bit count after a symbol depend on the range and the bit count before it alone: not on the bytes, nor on where they
-- went, nor on what is held. Assumes nothing.
use Prim.Native.Nat.{ℕ, zero, suc, ◌+◌, ◌*◌}
use mathlib.Core.Path.{◌≡◌, refl, ap}
use mathlib.Core.List.{List, [], ◌∷◌}
use Rattle.entcode.specs.Range.{renorm_steps, cut_start, cut_width}
use Rattle.entcode.specs.Sym.{Piece, Shape, pieces_of, adjust}
use Rattle.entcode.specs.Sym.Piece.{cut, bits}
use Rattle.entenc.specs.Write.{Wr, shift_w, shifts_w, narrowed, cut_w, bits_w}
use Rattle.entenc.specs.Symbols.{write_piece, write_pieces, write_sym}

-- two writers with the range and the bit count in common
pub record Alike (w x : Wr) : Type 0 where
  pub rng : w.st.rng ≡ x.st.rng
  pub total : w.st.total ≡ x.st.total

-- one step
shift-alike : (w x : Wr) → Alike w x → Alike (shift_w w) (shift_w x)
unfolding shift_w
shift-alike w x a = record { rng = ap (λ (n : ℕ). n * 256) a.rng; total = ap (λ (n : ℕ). n + 8) a.total }

-- k steps
shifts_alike : (k : ℕ) (w x : Wr) → Alike w x → Alike (shifts_w k w) (shifts_w k x)
unfolding shifts_w
shifts_alike zero w x a = a
shifts_alike (suc k) w x a = shifts_alike k (shift_w w) (shift_w x) (shift-alike w x a)

-- a piece
piece_alike : (p : Piece) (w x : Wr) → Alike w x → Alike (write_piece p w) (write_piece p x)
unfolding cut_w bits_w
piece_alike (cut fl fh ft) w x a =
    rw a.rng
    (shifts_alike (renorm_steps (cut_width x.st.rng fl fh ft)) (narrowed (cut_start x.st.rng fl ft) (cut_width x.st.rng fl fh ft) w)
    (narrowed (cut_start x.st.rng fl ft) (cut_width x.st.rng fl fh ft) x)
    (record { rng = refl; total = a.total }))
piece_alike (bits b v) w x a = record { rng = a.rng; total = ap (λ (n : ℕ). n + b) a.total }

-- pieces
pieces_alike : (ps : List Piece) (w x : Wr) → Alike w x → Alike (write_pieces ps w) (write_pieces ps x)
unfolding write_pieces
pieces_alike [] w x a = a
pieces_alike (p ∷ ps) w x a = pieces_alike ps (write_piece p w) (write_piece p x) (piece_alike p w x a)

-- a symbol of any kind
pub sym-alike : (h : Shape) (v : ℕ) (w x : Wr) → w.st.rng ≡ x.st.rng → w.st.total ≡ x.st.total → Alike (write_sym h v w) (write_sym h v x)
sym-alike h v w x r t = pieces_alike (pieces_of h (adjust h v)) w x (record { rng = r; total = t })
