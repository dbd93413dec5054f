-- What every step keeps, errors or not: bytes are bytes, and the storage is their number.
use Prim.Native.Nat.{ℕ, zero, suc, ◌+◌, ◌-◌, ◌/◌, ◌%◌, ◌^◌, ◌<◌}
use mathlib.Core.Path.{◌≡◌, ◌∙◌}
use mathlib.Core.Bool.{cond}
use mathlib.Core.List.{List, [], ◌∷◌}
use native.Mathlib.Omega.{arith}
use lib.ListN.{length, get_or, set, replicate, length-set}
use lib.Dec.{ltb, leb, eqb}
use lib.Bits.{or_lt}
use Rattle.laws.specs.Lists.{Bytes}
use Rattle.laws.proofs.Tests.{split_on, cond-by}
use Rattle.laws.proofs.Lists.{set_keeps}
use Rattle.entcode.specs.Range.{renorm_steps, cut_width}
use Rattle.entcode.specs.Sym.{Piece}
use Rattle.entcode.specs.Sym.Piece.{cut, bits}
use Rattle.entenc_sink.specs.declared.Sink.{Sink}
use Rattle.entenc_sink.specs.Out.{Out, out, sink_of, marked, missed, is_room, put_front, put_end, emit, flushed}
use Rattle.entenc_sink.specs.Carry.{settled}
use Rattle.entenc.specs.Write.{Wr, out_of, shift_w, shifts_w, cut_w, bits_w}
use Rattle.entenc.specs.Symbols.{write_piece, write_pieces}
use Rattle.entenc_sink.specs.Gap.{cleared, merged_byte, busts, finished}
use Rattle.entenc_sink.proofs.Keeping.{cleared-length}
use Rattle.entenc.specs.Close.{tail_bits, tail_end, byte_count, ending_at, end_w, rest_out, close_out}
use Rattle.trip_symbols.proofs.Gap.{zeroed-bytes}

-- bytes, n of them, and n is the storage
pub record Sized (n : ℕ) (o : Out) : Type 0 where
  pub bytes : Bytes o.bytes
  pub len : length o.bytes ≡ n
  pub storage : o.sink.storage ≡ n

-- a byte put anywhere
bytes-set : (s : List ℕ) (i b : ℕ) → Bytes s → b < 256 → Bytes (set s i b)
bytes-set s i b h l j = set_keeps (λ x. x < 256) s i b 0 l j (h j)

-- every entry is a byte, of a list that goes out
abbrev AreBytes : List ℕ → Type 0
AreBytes [] = Unit {0}
AreBytes (b ∷ bs) = (b < 256) × AreBytes bs

-- a byte put
set-sized : (n offs ends i b : ℕ) (o : Out) → b < 256 → Sized n o
    → Sized n (out (sink_of o.sink.storage offs ends o.sink.error) (set o.bytes i b))
set-sized n offs ends i b o h z =
    record { bytes = bytes-set o.bytes i b z.bytes h; len = length-set o.bytes i b ∙ z.len; storage = z.storage }

-- a byte for which there is no room
missed-sized : (n : ℕ) (o : Out) → Sized n o → Sized n (missed o)
missed-sized n o z = record { bytes = z.bytes; len = z.len; storage = z.storage }

-- a byte at the front
put-sized : (n b : ℕ) (o : Out) → b < 256 → Sized n o → Sized n (put_front b o)
unfolding put_front
put-sized n b o h z = cond-by (Sized n) (is_room o.sink) (λ t. set-sized n _ _ o.sink.offs b o h z) (λ t. missed-sized n o z)

-- a byte at the end
end-sized : (n b : ℕ) (o : Out) → b < 256 → Sized n o → Sized n (put_end b o)
unfolding put_end
end-sized n b o h z = cond-by (Sized n) (is_room o.sink) (λ t. set-sized n _ _ _ b o h z) (λ t. missed-sized n o z)

-- bytes at the front
emit-sized : (ds : List ℕ) (n : ℕ) (o : Out) → AreBytes ds → Sized n o → Sized n (emit ds o)
unfolding emit
emit-sized [] n o h z = z
emit-sized (b ∷ ds) n o h z = emit-sized ds n (put_front b o) h.1 (put-sized n b o h.0 z)

-- bytes at the end
flush-sized : (k window n : ℕ) (o : Out) → Sized n o → Sized n (flushed k window o)
unfolding flushed
flush-sized zero window n o z = z
flush-sized (suc k) window n o z = flush-sized k (window / 256) n (put_end (window % 256) o) (end-sized n (window % 256) o (omega arith) z)

-- a run of one byte
rep_bytes : (n b : ℕ) → b < 256 → AreBytes (replicate n b)
rep_bytes zero b h = tt
rep_bytes (suc n) b h = (h, rep_bytes n b h)

-- what settles is bytes
settled-bytes : (rem ext c : ℕ) → AreBytes (settled rem ext c)
settled-bytes rem ext c =
    split_on (eqb c 255)
    (λ t. simp t tt)
    (λ t.
    split_on (ltb rem 256)
    (λ u. simp (t, u) (omega arith, rep_bytes ext ((255 + c / 256) % 256) (omega arith)))
    (λ u. simp (t, u) (rep_bytes ext ((255 + c / 256) % 256) (omega arith))))

-- k steps
shifts_sized : (k n : ℕ) (w : Wr) → Sized n (out_of w) → Sized n (out_of (shifts_w k w))
unfolding shifts_w shift_w
shifts_sized zero n w z = z
shifts_sized (suc k) n w z =
    shifts_sized k n (shift_w w)
    (emit-sized (settled w.st.rem w.st.ext (w.st.val / 8388608)) n (out_of w) (settled-bytes w.st.rem w.st.ext (w.st.val / 8388608)) z)

-- a piece
piece_sized : (p : Piece) (n : ℕ) (w : Wr) → Sized n (out_of w) → Sized n (out_of (write_piece p w))
unfolding cut_w bits_w
piece_sized (cut fl fh ft) n w z = shifts_sized (renorm_steps (cut_width w.st.rng fl fh ft)) n _ z
piece_sized (bits b v) n w z = flush-sized (cond (leb (w.st.waiting + b) 32) 0 (w.st.waiting / 8)) w.st.window n (out_of w) z

-- pieces
pub pieces_sized : (ps : List Piece) (n : ℕ) (w : Wr) → Sized n (out_of w) → Sized n (out_of (write_pieces ps w))
unfolding write_pieces
pieces_sized [] n w z = z
pieces_sized (p ∷ ps) n w z = pieces_sized ps n (write_piece p w) (piece_sized p n w z)

-- ---- a close

module _ (n : ℕ) (o : Out) (z : Sized n o) where
  -- the gap cleared: bytes
  clear-bytes : Bytes (cleared o)
  clear-bytes = zeroed-bytes (o.sink.storage - o.sink.ends - o.sink.offs) o.sink.offs o.bytes z.bytes

  -- as many
  clear-len : length (cleared o) ≡ n
  clear-len = cleared-length o ∙ z.len

  -- under the same storage
  clear-sized : (k : Sink) → k.storage ≡ n → Sized n (out k (cleared o))
  clear-sized k e = record { bytes = clear-bytes; len = clear-len; storage = e }

  -- a byte joined
  join-sized : (k : Sink) (i x : ℕ) → k.storage ≡ n → Sized n (out k (merged_byte i (cleared o) (x % 256)))
  join-sized k i x e =
      record {
        bytes = bytes-set (cleared o) i _ clear-bytes (or_lt 8 (get_or (cleared o) i 0) (x % 256) (clear-bytes i) (omega arith));
        len = length-set (cleared o) i _ ∙ clear-len;
        storage = e;
      }

  -- by the cases of the definition
  finish-sized : (window used spare : ℕ) → Sized n (finished window used spare o)
  unfolding finished
  finish-sized window used spare =
      cond-by (Sized n) o.sink.error (λ t. z)
      (λ t. cond-by (Sized n) (eqb used 0) (λ u. clear-sized o.sink z.storage)
      (λ u. cond-by (Sized n) (leb o.sink.storage o.sink.ends) (λ v. clear-sized (marked o.sink) z.storage)
      (λ v. cond-by (Sized n) (busts o.sink used spare) (λ x. join-sized (marked o.sink) _ (window % 2 ^ spare) z.storage)
      (λ x. join-sized o.sink _ window z.storage))))

-- a close
pub close_out-sized : (n : ℕ) (w : Wr) → Sized n (out_of w) → Sized n (close_out w)
unfolding close_out end_w
close_out-sized n w z =
    let a = shifts_sized (byte_count (tail_bits w.st.val w.st.rng)) n
    (ending_at (tail_end w.st.val w.st.rng) (2 ^ (31 - tail_bits w.st.val w.st.rng)) w) z in
    let b = emit-sized (settled (end_w w).st.rem (end_w w).st.ext 0) n (out_of (end_w w)) (settled-bytes (end_w w).st.rem (end_w w).st.ext 0) a in
    finish-sized n _ (flush-sized (w.st.waiting / 8) w.st.window n (rest_out (end_w w)) b) _ _ _
