-- The gap between the two places, and the last raw bits: what a close leaves there. RFC 6716, section 5.1.5.
use Rattle.std.specs.Prelude.{ℕ, suc, zero, ◌+◌, ◌-◌, ◌%◌, ◌^◌, Bool, cond, ◌&&◌, List, set, get_or, ltb, leb, eqb}
use Rattle.std.specs.Int.Bits.{bit_or}
use Rattle.entenc_sink.specs.declared.Sink.{Sink}
use Rattle.entenc_sink.specs.Out.{Out, out, marked}

-- n zeros from a on
unfoldable pub zeroed : ℕ → ℕ → List ℕ → List ℕ
zeroed zero a l = l
zeroed (suc n) a l = zeroed n (a + 1) (set l a 0)

-- the gap between the two places cleared
abbrev pub cleared : Out → List ℕ
cleared o = zeroed (o.sink.storage - o.sink.ends - o.sink.offs) o.sink.offs o.bytes

-- b's bits set in the byte at a place
abbrev pub merged_byte : ℕ → List ℕ → ℕ → List ℕ
merged_byte at l b = set l at (bit_or (get_or l at 0) b)

-- the range coder's bytes leave the raw bits no byte of their own, and not enough spare bits
abbrev pub busts : Sink → ℕ → ℕ → Bool
busts s used spare = leb s.storage (s.offs + s.ends) && ltb spare used

-- the end of ec_enc_done: the last raw bits, fewer than 8, go into the last free byte, of which spare bits are free
unfoldable pub finished : ℕ → ℕ → ℕ → Out → Out
finished window used spare o =
    cond o.sink.error o
    (cond (eqb used 0) (out o.sink (cleared o))
    (cond (leb o.sink.storage o.sink.ends) (out (marked o.sink) (cleared o))
    (cond (busts o.sink used spare)
    (out (marked o.sink) (merged_byte (o.sink.storage - o.sink.ends - 1) (cleared o) (window % 2 ^ spare % 256)))
    (out o.sink (merged_byte (o.sink.storage - o.sink.ends - 1) (cleared o) (window % 256))))))
