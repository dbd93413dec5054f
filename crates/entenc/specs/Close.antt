-- Closing a writer: the last bytes, the gap cleared, the last raw bits. RFC 6716, section 5.1.5.
use Rattle.std.specs.Prelude.{ℕ, ◌+◌, ◌-◌, ◌*◌, ◌/◌, ◌%◌, ◌^◌, true, cond, ◌&&◌, ltb, leb}
use Rattle.std.specs.Int.Count.{count_leading_zeros}
use Rattle.entenc_sink.specs.Out.{Out, emit, flushed, left_of}
use Rattle.entenc_sink.specs.Carry.{settled}
use Rattle.entenc_sink.specs.Gap.{finished}
use Rattle.entenc.specs.Write.{Wr, wr, out_of, with_range, shifts_w}

-- ---- ec_enc_done: the shortest number such that whatever bits may follow it stay in the range

-- val rounded up to a multiple of 2^m
unfoldable pub rounded : ℕ → ℕ → ℕ
rounded m val = (val + (2 ^ m - 1)) / 2 ^ m * 2 ^ m

-- how many bits it has (l): as many as the range has leading zeros, or one more
unfoldable pub tail_bits : ℕ → ℕ → ℕ
tail_bits val rng =
    cond (ltb (val + rng - rounded (31 - count_leading_zeros 32 rng) val) (2 ^ (31 - count_leading_zeros 32 rng)))
    (count_leading_zeros 32 rng + 1)
    (count_leading_zeros 32 rng)

-- the number itself (end)
unfoldable pub tail_end : ℕ → ℕ → ℕ
tail_end val rng = rounded (31 - tail_bits val rng) val

-- how many bytes its bits take
abbrev pub byte_count : ℕ → ℕ
byte_count bits = (bits + 7) / 8

-- the writer with end as its low end, and a range of the given size
abbrev pub ending_at : ℕ → ℕ → Wr → Wr
ending_at end size w = with_range w (out_of w) w.st.rem w.st.ext end size w.st.total

-- the bytes of that number
unfoldable pub end_w : Wr → Wr
end_w w =
    shifts_w (byte_count (tail_bits w.st.val w.st.rng))
    (ending_at (tail_end w.st.val w.st.rng) (2 ^ (31 - tail_bits w.st.val w.st.rng)) w)

-- the held byte and its run go out
abbrev pub rest_out : Wr → Out
rest_out w = emit (settled w.st.rem w.st.ext 0) (out_of w)

-- what is held then: nothing came, or a zero
abbrev pub rest_rem : ℕ → ℕ → ℕ
rest_rem rem ext = cond (leb 256 rem && leb ext 0) rem 0

-- ---- close, whole

-- where the bytes go: the last number's, then the whole bytes of the raw bits, then the gap and the last raw bits
unfoldable pub close_out : Wr → Out
close_out w =
    finished (left_of (w.st.waiting / 8) w.st.window) (w.st.waiting % 8)
    (8 * byte_count (tail_bits w.st.val w.st.rng) - tail_bits w.st.val w.st.rng)
    (flushed (w.st.waiting / 8) w.st.window (rest_out (end_w w)))

-- ec_enc_done: val, rng, total and the raw bits' window stay as the crate leaves them
unfoldable pub close_w : Wr → Wr
close_w w =
    wr
    (record {
      sink = (close_out w).sink;
      rem = rest_rem (end_w w).st.rem (end_w w).st.ext;
      ext = 0;
      val = w.st.val;
      rng = w.st.rng;
      total = w.st.total;
      window = w.st.window;
      waiting = w.st.waiting;
      closed = true;
    })
    (close_out w).bytes
