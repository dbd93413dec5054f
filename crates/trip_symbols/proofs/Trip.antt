-- What a row of symbols wrote and close left without error is read back: a new reader of the bytes goes along with the writer.
use Prim.Native.Nat.{ℕ}
use mathlib.Core.Path.{◌≡◌, refl}
use mathlib.Core.Bool.{false}
use mathlib.Core.List.{List}
use lib.ListN.{length}
use Rattle.laws.specs.Lists.{Bytes}
use Rattle.entcode.specs.Sym.{Sym}
use Rattle.entdec.specs.Read.{fresh_reader}
use Rattle.entenc.specs.Write.{Wr, wr, fresh_writer}
use Rattle.entenc.specs.Close.{close_out, close_w}
use Rattle.entenc.specs.Symbols.{write_syms}
use Rattle.trip_symbols.specs.Along.{Along}
use Rattle.trip_symbols.proofs.Ideal.{fresh_i, fresh_ready}
use Rattle.trip_symbols.proofs.WriterFollows.{fresh_writer-at}
use Rattle.trip_symbols.proofs.Sized.{close_out-sized}
use Rattle.trip_symbols.proofs.Closing.{close_leaves}
use Rattle.trip_symbols.proofs.ReaderFollows.{ReaderAt, fresh_reader-at}
use Rattle.trip_symbols.proofs.Rows.{syms_i, raw_syms, AllSymsOk, Stands, write_syms-at, along_at}

-- s is what a close leaves of n bytes, of a new writer w that wrote ys: n bytes, along which a new reader reads them back
pub record Back (ys : List Sym) (n : ℕ) (w : Wr) (s : List ℕ) : Type 0 where
  pub length-is : length s ≡ n
  pub bytes : Bytes s
  pub goes : Along ys s w (fresh_reader s)

-- both follow the ideal coder, which a close leaves bytes for
pub along : (bytes : List ℕ) (ys : List Sym) → Bytes bytes → AllSymsOk ys
    → (close_w (write_syms ys (wr (fresh_writer (length bytes)) bytes))).st.sink.error ≡ false
    → Back ys (length bytes) (wr (fresh_writer (length bytes)) bytes) (close_w (write_syms ys (wr (fresh_writer (length bytes)) bytes))).bytes
unfolding close_w
along bytes ys b f ok =
    let n = length bytes in
    let w = wr (fresh_writer (length bytes)) bytes in
    let v = write_syms ys (wr (fresh_writer (length bytes)) bytes) in
    let s = (close_out (write_syms ys (wr (fresh_writer (length bytes)) bytes))).bytes in
    let a : Stands (length bytes) (wr (fresh_writer (length bytes)) bytes) fresh_i (λ q. q)
    = record { inv = fresh_writer-at bytes (length bytes) refl; ready = fresh_ready; sized = record { bytes = b; len = refl; storage = refl } } in
    let o = write_syms-at ys n w fresh_i (λ q. q) f a in
    let z = close_out-sized n v o.sized in
    let k = close_leaves v (syms_i ys fresh_i) (λ q. raw_syms ys q) o.inv o.ready ok z.bytes in
    let r : ReaderAt (close_out (write_syms ys (wr (fresh_writer (length bytes)) bytes))).bytes
    (fresh_reader (close_out (write_syms ys (wr (fresh_writer (length bytes)) bytes))).bytes) fresh_i (raw_syms ys k.above)
    = rw k.raw at (fresh_reader-at s z.bytes) in
    record { length-is = z.len; bytes = z.bytes; goes = along_at ys n w fresh_i (λ q. q) s (fresh_reader s) k.above f a z.len z.bytes r k.has }
