-- The numbers that writer and reader share: how often a range is scaled, and what a symbol takes of it. RFC 6716, sections 4.1.2 and 5.1.1.
use Rattle.std.specs.Prelude.{ℕ, ◌-◌, ◌*◌, ◌/◌, cond, ltb, eqb}
use Rattle.std.specs.Int.Count.{count_leading_zeros}

-- EC_ILOG: how many binary digits a number below 2^32 has
abbrev pub ilog : ℕ → ℕ
ilog n = 32 - count_leading_zeros 32 n

-- sections 4.1.2.1 and 5.1.1.1, the loops of ec_dec_normalize and ec_enc_normalize: how many times 256 brings a range above 2^23
unfoldable pub renorm_steps : ℕ → ℕ
renorm_steps r = cond (ltb 8388608 r) 0 (cond (ltb 32768 r) 1 (cond (ltb 128 r) 2 3))

-- ec_encode, the places fl up to fh of ft: how far the low end of their part lies above that of the range r
unfoldable pub cut_start : ℕ → ℕ → ℕ → ℕ
cut_start r fl ft = cond (eqb fl 0) 0 (r - r / ft * (ft - fl))

-- ec_encode and ec_dec_update: how large their part of the range r is; the first symbol has what the division leaves over
unfoldable pub cut_width : ℕ → ℕ → ℕ → ℕ → ℕ
cut_width r fl fh ft = cond (eqb fl 0) (r - r / ft * (ft - fh)) (r / ft * (fh - fl))
