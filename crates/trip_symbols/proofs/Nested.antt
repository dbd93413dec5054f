-- The ideal coder's ranges are nested: bytes whose number lies in the range after some pieces lie in the range before them.
use Prim.Native.Nat.{ℕ, zero, suc, ◌+◌, ◌≤◌, ◌<◌}
use mathlib.Core.List.{List, [], ◌∷◌}
use native.Mathlib.Omega.{arith}
use Rattle.laws.specs.Lists.{Bytes}
use Rattle.entcode.specs.Range.{renorm_steps, cut_width}
use Rattle.entcode.specs.Sym.{Piece}
use Rattle.entcode.specs.Sym.Piece.{cut, bits}
use Rattle.entcode.proofs.Cuts.{CutOk, cut_in}
use Rattle.trip_symbols.proofs.Front.{seen, seen_next, next-lt}
use Rattle.entcode.proofs.Pieces.{PieceOk, PiecesOk}
use Rattle.trip_symbols.proofs.Ideal.{Ideal, shift_i, shifts_i, cut_i, piece_i, pieces_i, Ready, piece_ready}

-- what a reader of s has seen lies in the range of g
pub record Inside (s : List ℕ) (g : Ideal) : Type 0 where
  pub from : g.low ≤ seen s g.at
  pub to : seen s g.at < g.low + g.rng

-- one step
inside-shift : (s : List ℕ) (g : Ideal) → Bytes s → Inside s (shift_i g) → Inside s g
inside-shift s g b h =
    let a = seen_next s g.at in
    let c = next-lt s g.at b in
    record { from = omega arith; to = omega arith }

-- k steps
pub inside_shifts : (k : ℕ) (s : List ℕ) (g : Ideal) → Bytes s → Inside s (shifts_i k g) → Inside s g
unfolding shifts_i
inside_shifts zero s g b h = h
inside_shifts (suc k) s g b h = inside-shift s g b (inside_shifts k s (shift_i g) b h)

-- a cut
inside-cut : (s : List ℕ) (g : Ideal) (fl fh ft : ℕ) → Bytes s → Ready g → CutOk fl fh ft → Inside s (cut_i fl fh ft g) → Inside s g
unfolding cut_i
inside-cut s g fl fh ft b r ok h =
    let c = cut_in g.rng fl fh ft ok r.range_gt in
    let k = inside_shifts (renorm_steps (cut_width g.rng fl fh ft)) s _ b h in
    record { from = omega arith; to = omega arith }

-- a piece
inside_piece : (p : Piece) (s : List ℕ) (g : Ideal) → Bytes s → Ready g → PieceOk p → Inside s (piece_i p g) → Inside s g
inside_piece (cut fl fh ft) s g b r ok h = inside-cut s g fl fh ft b r ok h
inside_piece (bits n v) s g b r ok h = record { from = h.from; to = h.to }

-- pieces
pub inside_pieces : (ps : List Piece) (s : List ℕ) (g : Ideal) → Bytes s → Ready g → PiecesOk ps → Inside s (pieces_i ps g) → Inside s g
unfolding pieces_i
inside_pieces [] s g b r ok h = h
inside_pieces (p ∷ ps) s g b r ok h =
    inside_piece p s g b r ok.0 (inside_pieces ps s (piece_i p g) b (piece_ready p g r ok.0) ok.1 h)
