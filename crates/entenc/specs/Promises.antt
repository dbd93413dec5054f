-- What holds of every writer and every write or close: the theorems stand here as statements; their proofs are in proofs/Promises.antt.
use Rattle.std.specs.Prelude.{ℕ, ◌≤◌, ◌<◌, ◌≡◌, true, List, [], ◌∷◌, length}
use Rattle.entcode.specs.Said.Said.{refused}
use Rattle.entcode.specs.Sym.{Shape, Sym}
use Rattle.entcode.specs.Sym.Shape.{bit, table, uint, raw, modelled}
use Rattle.entcode.specs.Tell.{tell_of, tell_frac_of}
use Rattle.entenc.specs.Write.{Wr, wr, fresh_writer}
use Rattle.entenc.specs.Symbols.{write_sym, write_syms}
use Rattle.entenc.specs.Close.{close_w}
use Rattle.entenc.specs.Rule.{writer_ok, refusal_w, refusal_close}
use Rattle.entenc.specs.Answer.{After, writing, closing}

-- a call that says no: this refusal, and the bytes as they were
abbrev pub says_no : ℕ → Wr → After
says_no n w = record { said = refused n; bytes = w.bytes }

-- ---- a refused call

-- a refused write or close says its number and nothing else, and leaves the lent bytes
abbrev pub RefusedChangesNothing : Type 0
RefusedChangesNothing =
    ((h : Shape) (v : ℕ) (w : Wr) → (refusal_w h v w ≡ 0 → ⊥) → writing h v w ≡ says_no (refusal_w h v w) w)
    × ((w : Wr) → (refusal_close w ≡ 0 → ⊥) → closing w ≡ says_no (refusal_close w) w)

-- refused or not, a call leaves as many bytes as it was lent
abbrev pub LengthStays : Type 0
LengthStays =
    ((h : Shape) (v : ℕ) (w : Wr) → length (writing h v w).bytes ≡ length w.bytes) × ((w : Wr) → length (closing w).bytes ≡ length w.bytes)

-- ---- an accepted state stays accepted

-- a new writer is accepted
abbrev pub NewAccepted : Type 0
NewAccepted = (n : ℕ) → n ≤ 1275 → writer_ok (fresh_writer n) ≡ true

-- what is asked of a model of another section: what counts as written has places, of at most 2^15. Other kinds need nothing
abbrev pub HasPlaces : Shape → ℕ → Type 0
HasPlaces (bit k) v = Unit {0}
HasPlaces (table t k) v = Unit {0}
HasPlaces (uint ft) v = Unit {0}
HasPlaces (raw b) v = Unit {0}
HasPlaces (modelled m) v = (m.lo (m.adjust v) < m.hi (m.adjust v)) × (m.hi (m.adjust v) ≤ m.ft) × (m.ft ≤ 32768)

-- a writer that was accepted is accepted after a write that is not refused, if the held run is then at most 65,535 bytes
abbrev pub StaysAccepted : Type 0
StaysAccepted =
    (h : Shape) (v : ℕ) (w : Wr) → HasPlaces h v → refusal_w h v w ≡ 0 → (write_sym h v w).st.ext ≤ 65535 → writer_ok (write_sym h v w).st ≡ true

-- no write of a row is refused when it comes
abbrev pub AllTaken : List Sym → Wr → Type 0
AllTaken [] w = Unit {0}
AllTaken (y ∷ ys) w = HasPlaces y.shape y.value × (refusal_w y.shape y.value w ≡ 0) × AllTaken ys (write_sym y.shape y.value w)

-- no row of accepted writes makes a longer run from a new writer: every writer that began as a new one is accepted
abbrev pub AcceptedFromNew : Type 0
AcceptedFromNew =
    (bytes : List ℕ) (ys : List Sym) → length bytes ≤ 1275 → AllTaken ys (wr (fresh_writer (length bytes)) bytes)
    → writer_ok (write_syms ys (wr (fresh_writer (length bytes)) bytes)).st ≡ true

-- a writer is accepted after a close that is not refused
abbrev pub ClosedAccepted : Type 0
ClosedAccepted = (w : Wr) → refusal_close w ≡ 0 → writer_ok (close_w w).st ≡ true

-- ---- the error mark, and tell

-- the error mark is never lost, by a write or by close
abbrev pub MarkStays : Type 0
MarkStays =
    ((h : Shape) (v : ℕ) (w : Wr) → w.st.sink.error ≡ true → (write_sym h v w).st.sink.error ≡ true)
    × ((w : Wr) → w.st.sink.error ≡ true → (close_w w).st.sink.error ≡ true)

-- what tell and tell_frac say after a symbol depends on the bit count and the range before it alone: not on the bytes, nor on what is held
abbrev pub TellsAlike : Type 0
TellsAlike =
    (h : Shape) (v : ℕ) (w x : Wr) → w.st.rng ≡ x.st.rng → w.st.total ≡ x.st.total
    → (tell_of (write_sym h v w).st.total (write_sym h v w).st.rng ≡ tell_of (write_sym h v x).st.total (write_sym h v x).st.rng)
    × (tell_frac_of (write_sym h v w).st.total (write_sym h v w).st.rng ≡ tell_frac_of (write_sym h v x).st.total (write_sym h v x).st.rng)
