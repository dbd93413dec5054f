-- Writing a symbol of each kind, piece by piece. RFC 6716, sections 5.1.1 to 5.1.4.
use Rattle.std.specs.Prelude.{ℕ, List, [], ◌∷◌}
use Rattle.entcode.specs.Sym.{Piece, Shape, Sym, pieces_of, adjust}
use Rattle.entcode.specs.Sym.Piece.{cut, bits}
use Rattle.entenc.specs.Write.{Wr, cut_w, bits_w}

-- a piece: places of the range, or raw bits
abbrev pub write_piece : Piece → Wr → Wr
write_piece (cut fl fh ft) w = cut_w fl fh ft w
write_piece (bits b v) w = bits_w b v w

-- pieces, one after the other
unfoldable pub write_pieces : List Piece → Wr → Wr
write_pieces [] w = w
write_pieces (p ∷ ps) w = write_pieces ps (write_piece p w)

-- a value of a kind, as it is adjusted: ec_enc_bit_logp, ec_enc_icdf, ec_enc_uint, ec_enc_bits, or a model's
abbrev pub write_sym : Shape → ℕ → Wr → Wr
write_sym h v w = write_pieces (pieces_of h (adjust h v)) w

-- a row of symbols, one after the other
unfoldable pub write_syms : List Sym → Wr → Wr
write_syms [] w = w
write_syms (y ∷ ys) w = write_syms ys (write_sym y.shape y.value w)
