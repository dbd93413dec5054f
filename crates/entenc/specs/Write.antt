-- The range encoder of RFC 6716, section 5.1, as functions of a writer's state and the lent bytes together. Exact for every accepted state.
use Rattle.std.specs.Prelude.{ℕ, suc, zero, ◌+◌, ◌-◌, ◌*◌, ◌/◌, ◌%◌, ◌^◌, false, cond, List, leb}
use Rattle.std.specs.Int.Bits.{bit_or}
use Rattle.entcode.specs.Range.{renorm_steps, cut_start, cut_width}
use Rattle.entenc_sink.specs.Out.{Out, out, sink_of, emit, flushed, left_of}
use Rattle.entenc_sink.specs.Carry.{settled, held_by, run_by}
use Rattle.entenc.specs.declared.Writer.{Writer}

-- a writer and its bytes, which change together
pub record Wr : Type 0 where
  pub st : Writer
  pub bytes : List ℕ

-- the writer s over the bytes l
abbrev pub wr : Writer → List ℕ → Wr
wr s l = record { st = s; bytes = l }

-- where its bytes go
abbrev pub out_of : Wr → Out
out_of w = out w.st.sink w.bytes

-- the writer with another sink and other numbers of the range coder
abbrev pub with_range : Wr → Out → ℕ → ℕ → ℕ → ℕ → ℕ → Wr
with_range w o rem ext val rng total =
    wr
    (record {
      sink = o.sink;
      rem = rem;
      ext = ext;
      val = val;
      rng = rng;
      total = total;
      window = w.st.window;
      waiting = w.st.waiting;
      closed = w.st.closed;
    })
    o.bytes

-- the writer with another sink and other numbers of the raw bits
abbrev pub with_raw : Wr → Out → ℕ → ℕ → ℕ → Wr
with_raw w o window waiting total =
    wr
    (record {
      sink = o.sink;
      rem = w.st.rem;
      ext = w.st.ext;
      val = w.st.val;
      rng = w.st.rng;
      total = total;
      window = window;
      waiting = waiting;
      closed = w.st.closed;
    })
    o.bytes

-- ---- section 5.1.1.1: renormalization

-- one step of ec_enc_normalize: the top nine bits of the low end go to ec_enc_carry_out, and the range is 256 times as large
unfoldable pub shift_w : Wr → Wr
shift_w w =
    with_range w
    (emit (settled w.st.rem w.st.ext (w.st.val / 8388608)) (out_of w))
    (held_by w.st.rem (w.st.val / 8388608))
    (run_by w.st.ext (w.st.val / 8388608))
    (w.st.val % 8388608 * 256)
    (w.st.rng * 256)
    (w.st.total + 8)

-- k steps
unfoldable pub shifts_w : ℕ → Wr → Wr
shifts_w zero w = w
shifts_w (suc k) w = shifts_w k (shift_w w)

-- ---- section 5.1.1: a symbol of the range

-- the low end raised by add, the range rng
abbrev pub narrowed : ℕ → ℕ → Wr → Wr
narrowed add rng w = with_range w (out_of w) w.st.rem w.st.ext (w.st.val + add) rng w.st.total

-- ec_encode, and ec_encode_bin where ft is a power of 2: the places fl up to fh of ft
unfoldable pub cut_w : ℕ → ℕ → ℕ → Wr → Wr
cut_w fl fh ft w = shifts_w (renorm_steps (cut_width w.st.rng fl fh ft)) (narrowed (cut_start w.st.rng fl ft) (cut_width w.st.rng fl fh ft) w)

-- ---- section 5.1.3: raw bits

-- k whole bytes of the window go out
abbrev pub flush_w : ℕ → Wr → Wr
flush_w k w =
    with_raw w (flushed k w.st.window (out_of w)) (left_of k w.st.window) (w.st.waiting - 8 * k) w.st.total

-- b bits of v on top of the window
abbrev pub topped_w : ℕ → ℕ → Wr → Wr
topped_w b v w =
    with_raw w (out_of w) (bit_or w.st.window (v * 2 ^ w.st.waiting)) (w.st.waiting + b) (w.st.total + b)

-- ec_enc_bits, b raw bits: where they do not fit beside those that wait, whole bytes go out first
unfoldable pub bits_w : ℕ → ℕ → Wr → Wr
bits_w b v w = topped_w b v (flush_w (cond (leb (w.st.waiting + b) 32) 0 (w.st.waiting / 8)) w)

-- ---- a new writer

-- ec_enc_init, over n bytes
abbrev pub fresh_writer : ℕ → Writer
fresh_writer n =
    record {
      sink = sink_of n 0 0 false;
      rem = 256;
      ext = 0;
      val = 0;
      rng = 2147483648;
      total = 33;
      window = 0;
      waiting = 0;
      closed = false;
    }
