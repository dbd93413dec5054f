-- What holds of every reader and every read: the theorems stand here as statements; their proofs are in proofs/Promises.antt.
use Rattle.std.specs.Prelude.{ℕ, ◌≤◌, ◌<◌, ◌≡◌, true, List, length}
use Rattle.laws.specs.Lists.{Bytes}
use Rattle.entcode.specs.Sym.{Shape}
use Rattle.entcode.specs.Sym.Shape.{bit, table, uint, raw, modelled}
use Rattle.entcode.specs.Tell.{tell_of, tell_frac_of}
use Rattle.entdec.specs.declared.Reader.{Reader}
use Rattle.entdec.specs.Read.{decoded_place, fresh_reader}
use Rattle.entdec.specs.Rule.{reader_ok, refusal_r}
use Rattle.entdec.specs.Symbols.{read_sym}

-- a new reader is accepted
abbrev pub NewAccepted : Type 0
NewAccepted = (s : List ℕ) → Bytes s → length s ≤ 1275 → reader_ok (fresh_reader s) ≡ true

-- what is asked of a model of another section: the value that it locates has the place shown, among at most 2^15. Other kinds need nothing
abbrev pub Locates : Shape → Reader → Type 0
Locates (bit k) d = Unit {0}
Locates (table t k) d = Unit {0}
Locates (uint ft) d = Unit {0}
Locates (raw b) d = Unit {0}
Locates (modelled m) d =
    let f = decoded_place m.ft d in
    let v = m.locate f in
    (m.lo v ≤ f) × (f < m.hi v) × (m.hi v ≤ m.ft) × (m.ft ≤ 32768)

-- a reader that was accepted is accepted after every read that is not refused
abbrev pub StaysAccepted : Type 0
StaysAccepted = (h : Shape) (s : List ℕ) (d : Reader) → Bytes s → Locates h d → refusal_r h s d ≡ 0 → reader_ok (read_sym h s d).next ≡ true

-- what tell and tell_frac say after a symbol does not depend on the bytes
abbrev pub TellsAlike : Type 0
TellsAlike =
    (h : Shape) (s t : List ℕ) (d : Reader)
    → (tell_of (read_sym h s d).next.total (read_sym h s d).next.rng ≡ tell_of (read_sym h t d).next.total (read_sym h t d).next.rng)
    × (tell_frac_of (read_sym h s d).next.total (read_sym h s d).next.rng ≡ tell_frac_of (read_sym h t d).next.total (read_sym h t d).next.rng)
