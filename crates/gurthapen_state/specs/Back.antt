-- What crossing as a list promises. The theorems stand here as statements; their proofs are in proofs/Back.antt.
use Rattle.std.specs.Prelude.{ℕ, ◌≤◌, ◌<◌, ◌≡◌, Bool, false, cond, ◌&&◌, List, eqb, ℤ, length}
use Rattle.entdec.specs.declared.Reader.{Reader}
use Rattle.entdec.specs.Rule.{read_refusal}
use Rattle.entenc.specs.declared.Writer.{Writer}
use Rattle.entenc.specs.Rule.{write_refusal, refusal_close}
use Rattle.entenc.specs.Write.{wr}
use Rattle.gurthapen_state.specs.State.{reader_fits, writer_fits, reader_of, list_of_reader, writer_of, list_of_writer}

-- ---- a state comes back

-- a number of 32 bits, as every count of a state is in the code
abbrev pub Count : ℕ → Type 0
Count n = n < 4294967296

-- every number of a reader is one
pub record ReaderCounts (d : Reader) : Type 0 where
  pub storage : Count d.storage
  pub offs : Count d.offs
  pub ends : Count d.ends
  pub window : Count d.window
  pub waiting : Count d.waiting
  pub total : Count d.total
  pub rng : Count d.rng
  pub val : Count d.val
  pub ext : Count d.ext
  pub rem : Count d.rem

-- what is loaded from the list of a reader is that reader
abbrev pub ReaderBack : Type 0
ReaderBack = (d : Reader) → ReaderCounts d → reader_of (list_of_reader d) ≡ d

-- every number of a writer is one, and the held byte is a byte, or 256 for none
pub record WriterCounts (w : Writer) : Type 0 where
  pub storage : Count w.sink.storage
  pub offs : Count w.sink.offs
  pub ends : Count w.sink.ends
  pub rem : w.rem ≤ 256
  pub ext : Count w.ext
  pub val : Count w.val
  pub rng : Count w.rng
  pub total : Count w.total
  pub window : Count w.window
  pub waiting : Count w.waiting

-- what is loaded from the list of a writer is that writer
abbrev pub WriterBack : Type 0
WriterBack = (w : Writer) → WriterCounts w → writer_of (list_of_writer w) ≡ w

-- ---- a list with a number that does not fit

-- no call that reads accepts it: 2 where a length is wrong, else 1, whatever else the call is handed
abbrev pub DamagedNotRead : Type 0
DamagedNotRead =
    (l : List ℤ) → reader_fits l ≡ false → (n : ℕ) (lengths numbers lists : Bool) (special : ℕ)
    → read_refusal n (reader_of l) lengths numbers lists special ≡ cond (eqb (reader_of l).storage n && lengths) 1 2

-- nor does one that writes
abbrev pub DamagedNotWritten : Type 0
DamagedNotWritten =
    (l : List ℤ) → writer_fits l ≡ false → (n : ℕ) (lengths numbers lists : Bool) (special : ℕ)
    → write_refusal n (writer_of l) lengths numbers lists special ≡ cond (eqb (writer_of l).sink.storage n && lengths) 1 2

-- nor does close
abbrev pub DamagedNotClosed : Type 0
DamagedNotClosed =
    (l : List ℤ) → writer_fits l ≡ false → (b : List ℕ)
    → refusal_close (wr (writer_of l) b) ≡ cond (eqb (writer_of l).sink.storage (length b)) 1 2
