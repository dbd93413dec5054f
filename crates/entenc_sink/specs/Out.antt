-- Where a writer's bytes go: a sink and the lent bytes, which change together. RFC 6716, sections 5.1.1.2 and 5.1.3.
use Rattle.std.specs.Prelude.{ℕ, suc, zero, ◌+◌, ◌-◌, ◌/◌, ◌%◌, Bool, true, cond, List, [], ◌∷◌, set, ltb}
use Rattle.entenc_sink.specs.declared.Sink.{Sink}

-- a sink and the bytes that it was lent
pub record Out : Type 0 where
  pub sink : Sink
  pub bytes : List ℕ

-- the sink s over the bytes l
abbrev pub out : Sink → List ℕ → Out
out s l = record { sink = s; bytes = l }

-- the sink of these numbers
abbrev pub sink_of : ℕ → ℕ → ℕ → Bool → Sink
sink_of storage offs ends error = record { storage = storage; offs = offs; ends = ends; error = error }

-- the error mark set
abbrev pub marked : Sink → Sink
marked s = sink_of s.storage s.offs s.ends true

-- the byte b at the next place of the front
abbrev pub stored : ℕ → Out → Out
stored b o =
    out (sink_of o.sink.storage (o.sink.offs + 1) o.sink.ends o.sink.error) (set o.bytes o.sink.offs b)

-- the byte b at the next place from the end
abbrev pub stored_end : ℕ → Out → Out
stored_end b o =
    out (sink_of o.sink.storage o.sink.offs (o.sink.ends + 1) o.sink.error)
    (set o.bytes (o.sink.storage - (o.sink.ends + 1)) b)

-- a byte for which there is no room
abbrev pub missed : Out → Out
missed o = out (marked o.sink) o.bytes

-- the two places have not met
abbrev pub is_room : Sink → Bool
is_room s = ltb (s.offs + s.ends) s.storage

-- ec_write_byte: one byte at the front, or the error mark
unfoldable pub put_front : ℕ → Out → Out
put_front b o = cond (is_room o.sink) (stored b o) (missed o)

-- ec_write_byte_at_end: one byte at the end, or the error mark
unfoldable pub put_end : ℕ → Out → Out
put_end b o = cond (is_room o.sink) (stored_end b o) (missed o)

-- bytes at the front, one after the other
unfoldable pub emit : List ℕ → Out → Out
emit [] o = o
emit (b ∷ bs) o = emit bs (put_front b o)

-- k bytes of a window at the end, the lowest first
unfoldable pub flushed : ℕ → ℕ → Out → Out
flushed zero window o = o
flushed (suc k) window o = flushed k (window / 256) (put_end (window % 256) o)

-- what is left of the window
unfoldable pub left_of : ℕ → ℕ → ℕ
left_of zero window = window
left_of (suc k) window = left_of k (window / 256)
