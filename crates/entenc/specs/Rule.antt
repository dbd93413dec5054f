-- What a writer that is handed in must meet, and what a write or a close is refused with. Document 01, "When the answer is no".
use Rattle.std.specs.Prelude.{ℕ, ◌+◌, Bool, true, not, ◌&&◌, length, ltb, leb, eqb}
use Rattle.entcode.specs.Counts.{counts_ok, tell_ok}
use Rattle.entcode.specs.Refusal.{refusal}
use Rattle.entcode.specs.Sym.{Shape, length_ok, shape_ok, list_ok, value_ok}
use Rattle.entenc.specs.declared.Writer.{Writer}
use Rattle.entenc.specs.Write.{Wr}

-- the rule of a writer: what a reader's counts must meet too; the places at the front and at the end have not passed each other; the upper end of
-- the range fits 32 bits; rem is a byte, or 256 for none; the run ext is at most 65,535
unfoldable pub writer_ok : Writer → Bool
writer_ok w =
    counts_ok w.sink.storage w.rng w.waiting w.total && leb (w.sink.offs + w.sink.ends) w.sink.storage
    && ltb (w.val + w.rng) 4294967296 && leb w.rem 256 && leb w.ext 65535

-- a writer that is not closed: nothing may be written after close
abbrev pub is_open : Writer → Bool
is_open w = not w.closed

-- The refusal of a call that can write symbols, 0 for none. n bytes are lent. The call says whether its other lengths, its numbers and its
-- lists are right, and its special refusal from 5 to 11, 0 for none
unfoldable pub write_refusal : ℕ → Writer → Bool → Bool → Bool → ℕ → ℕ
write_refusal n w lengths numbers lists special =
    refusal (eqb w.sink.storage n && lengths) (writer_ok w && numbers) lists special (is_open w)
    (tell_ok w.sink.storage w.total w.rng)

-- the refusal of writing one symbol of a kind
unfoldable pub refusal_w : Shape → ℕ → Wr → ℕ
refusal_w h v w = write_refusal (length w.bytes) w.st (length_ok h) (shape_ok h && value_ok h v) (list_ok h) 0

-- the refusal of a close, which is never 4
unfoldable pub refusal_close : Wr → ℕ
refusal_close w = refusal (eqb w.st.sink.storage (length w.bytes)) (writer_ok w.st) true 0 (is_open w.st) true
