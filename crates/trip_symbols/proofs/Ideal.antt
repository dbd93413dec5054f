-- The ideal coder, which writer and reader both follow: how many bytes a reader has taken, less one; the low end and the size of the range, in
-- numbers as long as the message; how many raw bits. It has no carry and no bytes.
use Prim.Native.Nat.{ℕ, zero, suc, ◌+◌, ◌*◌, ◌^◌}
use mathlib.Core.Path.{◌≡◌, refl, subst, sym}
use mathlib.Core.List.{List, [], ◌∷◌}
use native.Mathlib.Omega.{arith}
use Rattle.entcode.specs.Range.{renorm_steps, cut_start, cut_width}
use Rattle.entcode.specs.Sym.{Piece}
use Rattle.entcode.specs.Sym.Piece.{cut, bits}
use Rattle.entcode.proofs.RenormSteps.{Scaled, scaled, steps_scaled}
use Rattle.entcode.proofs.Cuts.{CutOk, cut_in}
use Rattle.entcode.proofs.Pieces.{PieceOk, PiecesOk}

-- at: bytes taken, less one. low, rng: the range. raws: raw bits
pub record Ideal : Type 0 where
  pub at : ℕ
  pub low : ℕ
  pub rng : ℕ
  pub raws : ℕ

-- the state of these numbers
abbrev pub ideal : ℕ → ℕ → ℕ → ℕ → Ideal
ideal at low rng raws = record { at = at; low = low; rng = rng; raws = raws }

-- before the first symbol
abbrev pub fresh_i : Ideal
fresh_i = ideal 3 0 2147483648 0

-- ---- its steps

-- one step: a byte more, and everything 256 times as large
abbrev pub shift_i : Ideal → Ideal
shift_i g = ideal (suc g.at) (g.low * 256) (g.rng * 256) g.raws

-- k steps
unfoldable pub shifts_i : ℕ → Ideal → Ideal
shifts_i zero g = g
shifts_i (suc k) g = shifts_i k (shift_i g)

-- the low end raised by add, the range size
abbrev pub narrowed_i : ℕ → ℕ → Ideal → Ideal
narrowed_i add size g = ideal g.at (g.low + add) size g.raws

-- the places fl up to fh of ft
unfoldable pub cut_i : ℕ → ℕ → ℕ → Ideal → Ideal
cut_i fl fh ft g = shifts_i (renorm_steps (cut_width g.rng fl fh ft)) (narrowed_i (cut_start g.rng fl ft) (cut_width g.rng fl fh ft) g)

-- b raw bits
abbrev pub bits_i : ℕ → Ideal → Ideal
bits_i b g = ideal g.at g.low g.rng (g.raws + b)

-- a piece
abbrev pub piece_i : Piece → Ideal → Ideal
piece_i (cut fl fh ft) g = cut_i fl fh ft g
piece_i (bits b v) g = bits_i b g

-- pieces, one after the other
unfoldable pub pieces_i : List Piece → Ideal → Ideal
pieces_i [] g = g
pieces_i (p ∷ ps) g = pieces_i ps (piece_i p g)

-- the raw bits of pieces as a number, and q above them
unfoldable pub raw_of : List Piece → ℕ → ℕ
raw_of [] q = q
raw_of (cut fl fh ft ∷ ps) q = raw_of ps q
raw_of (bits b v ∷ ps) q = v + 2 ^ b * raw_of ps q

-- ---- ready for a piece

-- the range is above 2^23 and at most 2^31
abbrev pub Ready : Ideal → Type 0
Ready g = Scaled g.rng

-- before the first symbol
pub fresh_ready : Ready fresh_i
fresh_ready = record { range_gt = omega arith; range_le = omega arith }

-- the range after k steps
shifts_range : (k : ℕ) (g : Ideal) → (shifts_i k g).rng ≡ scaled k g.rng
unfolding shifts_i scaled
shifts_range zero g = refl
shifts_range (suc k) g = shifts_range k (shift_i g)

-- a cut
pub cut_ready : (g : Ideal) (fl fh ft : ℕ) → Ready g → CutOk fl fh ft → Ready (cut_i fl fh ft g)
unfolding cut_i
cut_ready g fl fh ft r ok =
    let w = cut_width g.rng fl fh ft in
    let c = cut_in g.rng fl fh ft ok r.range_gt in
    subst Scaled (sym (shifts_range (renorm_steps w) (narrowed_i (cut_start g.rng fl ft) w g)))
    (steps_scaled w c.width-pos (omega (arith, c.sum, r.range_le)))

-- a piece
pub piece_ready : (p : Piece) (g : Ideal) → Ready g → PieceOk p → Ready (piece_i p g)
piece_ready (cut fl fh ft) g r ok = cut_ready g fl fh ft r ok
piece_ready (bits b v) g r ok = r

-- pieces
pub pieces_ready : (ps : List Piece) (g : Ideal) → Ready g → PiecesOk ps → Ready (pieces_i ps g)
unfolding pieces_i
pieces_ready [] g r ok = r
pieces_ready (p ∷ ps) g r ok = pieces_ready ps (piece_i p g) (piece_ready p g r ok.0) ok.1
