-- The range decoder of RFC 6716, section 4.1, as functions of a reader's state and the packet's bytes s. Exact for every accepted state.
use Rattle.std.specs.Prelude.{ℕ, zero, suc, ◌+◌, ◌-◌, ◌*◌, ◌/◌, ◌%◌, ◌^◌, min, List, Bool, false, cond, length, get_or, ltb}
use Rattle.std.specs.Int.Bits.{bit_or}
use Rattle.entcode.specs.Range.{renorm_steps, cut_width}
use Rattle.entdec.specs.declared.Reader.{Reader}
use Rattle.entdec.specs.Coded.{ReadSymbol}

-- the state with other numbers of the range coder
abbrev pub with_range : Reader → ℕ → ℕ → ℕ → ℕ → ℕ → ℕ → Reader
with_range d offs rng val ext rem total =
    record {
      storage = d.storage;
      offs = offs;
      ends = d.ends;
      window = d.window;
      waiting = d.waiting;
      total = total;
      rng = rng;
      val = val;
      ext = ext;
      rem = rem;
      error = d.error;
    }

-- the state with other numbers of the raw bits, and another mark
abbrev pub with_raw : Reader → ℕ → ℕ → ℕ → ℕ → Bool → Reader
with_raw d ends window waiting total error =
    record {
      storage = d.storage;
      offs = d.offs;
      ends = ends;
      window = window;
      waiting = waiting;
      total = total;
      rng = d.rng;
      val = d.val;
      ext = d.ext;
      rem = d.rem;
      error = error;
    }

-- a value read, and the state after it
abbrev pub read_of : ℕ → Reader → ReadSymbol
read_of v d = record { value = v; next = d }

-- ec_read_byte and ec_read_byte_from_end: the place after this one of n places, which stays at the end
abbrev pub advanced : ℕ → ℕ → ℕ
advanced at n = cond (ltb at n) (at + 1) at

-- ---- section 4.1.2.1: renormalization

-- the bit left over from the last byte, and the top seven bits of the next
abbrev pub shifted_byte : ℕ → ℕ → ℕ
shifted_byte rem b = rem % 2 * 128 + b / 2

-- one step of ec_dec_normalize: the range is 256 times as large, and the value takes in eight bits. Past the end the bytes are zero
unfoldable pub pull : List ℕ → Reader → Reader
pull s d =
    with_range d (advanced d.offs (length s)) (d.rng * 256) (d.val * 256 + (255 - shifted_byte d.rem (get_or s d.offs 0))) d.ext
    (get_or s d.offs 0) (d.total + 8)

-- k steps
unfoldable pub pulls : ℕ → List ℕ → Reader → Reader
pulls zero s d = d
pulls (suc k) s d = pulls k s (pull s d)

-- ---- section 4.1.2: a symbol of the range

-- ec_decode, and ec_decode_bin where ft is a power of 2: the place in 0..ft - 1 that the value shows
unfoldable pub decoded_place : ℕ → Reader → ℕ
decoded_place ft d = ft - min (d.val / (d.rng / ft) + 1) ft

-- ec_dec_update: the symbol of the places fl up to fh of ft is taken; ext is what the crate keeps beside the range
abbrev pub taken : ℕ → ℕ → ℕ → ℕ → Reader → Reader
taken fl fh ft ext d = with_range d d.offs (cut_width d.rng fl fh ft) (d.val - d.rng / ft * (ft - fh)) ext d.rem d.total

-- and the range is brought above 2^23
unfoldable pub update : ℕ → ℕ → ℕ → ℕ → List ℕ → Reader → Reader
update fl fh ft ext s d = pulls (renorm_steps (cut_width d.rng fl fh ft)) s (taken fl fh ft ext d)

-- ---- section 4.1.4: raw bits

-- ec_read_byte_from_end: the byte at a place from the end, zero where there is none
unfoldable pub byte_back : List ℕ → ℕ → ℕ
byte_back s i = cond (ltb i (length s)) (get_or s (length s - 1 - i) 0) 0

-- a byte from the end goes above the bits that wait
unfoldable pub fetch : List ℕ → Reader → Reader
fetch s d =
    with_raw d (advanced d.ends (length s)) (bit_or d.window (byte_back s d.ends * 2 ^ d.waiting)) (d.waiting + 8) d.total
    d.error

-- k bytes
unfoldable pub fetches : ℕ → List ℕ → Reader → Reader
fetches zero s d = d
fetches (suc k) s d = fetches k s (fetch s d)

-- the lowest b bits of the window
abbrev pub shed : ℕ → Reader → ReadSymbol
shed b d = read_of (d.window % 2 ^ b) (with_raw d d.ends (d.window / 2 ^ b) (d.waiting - b) (d.total + b) d.error)

-- ec_dec_bits, b raw bits: where fewer wait, bytes are fetched as long as the window of 32 bits has room
unfoldable pub read_bits : ℕ → List ℕ → Reader → ReadSymbol
read_bits b s d = shed b (fetches (cond (ltb d.waiting b) ((32 - d.waiting) / 8) 0) s d)

-- ---- section 4.1.1: initialization

-- ec_dec_init before it normalizes: the top seven bits of the first byte
abbrev pub begun_reader : List ℕ → Reader
begun_reader s =
    record {
      storage = length s;
      offs = advanced 0 (length s);
      ends = 0;
      window = 0;
      waiting = 0;
      total = 9;
      rng = 128;
      val = 127 - get_or s 0 0 / 2;
      ext = 0;
      rem = get_or s 0 0;
      error = false;
    }

-- ec_dec_init: the same after three steps
unfoldable pub fresh_reader : List ℕ → Reader
fresh_reader s = pulls 3 s (begun_reader s)
