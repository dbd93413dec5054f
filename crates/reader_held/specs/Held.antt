-- What a reader that holds its packet says, and how it moves: what is said by the calls by value, of its packet and its numbers.
use Rattle.std.specs.Prelude.{ℕ, true, List, ℤ, Float}
use Rattle.std.specs.Borrow.{Bor}
use Rattle.entcode.specs.Said.{Said, answer, said}
use Rattle.entcode.specs.Said.Said.{done, refused}
use Rattle.entcode.specs.Sym.{Shape}
use Rattle.entdec.specs.declared.Reader.{Reader}
use Rattle.entdec.specs.Coded.{ReadSymbol}
use Rattle.entdec.specs.Answer.{start_of}
use Rattle.entdec.specs.Rule.{refusal_r}
use Rattle.entdec.specs.Symbols.{read_sym}
use Rattle.laplace.specs.Coded.{LapSym}
use Rattle.laplace.specs.Answer.{reading}
use Rattle.rate.specs.declared.AllocNumbers.{AllocNumbers}
use Rattle.rate.specs.Allocations.{ReadAllocation}
use Rattle.rate.specs.Question.{Lists}
use Rattle.rate.specs.Answer.{AfterRead as AllocAnswer, reading as allocating}
use Rattle.quant_bands.specs.Answer.{After as EnergyAnswer, coarse_reading}
use Rattle.reader_held.specs.declared.EcDec.{EcDec}
use Rattle.reader_held.specs.declared.Opened.{Opened}
use Rattle.reader_held.specs.declared.Step.{Step}
use Rattle.reader_held.specs.declared.Allocation.{Allocation}

-- the reader after a call: the same packet, other numbers
abbrev pub moved : EcDec → Reader → EcDec
moved h d = record { buf = h.buf; num = d }

-- the numbers of a reader whose packet was refused; they break the rule of a reader: their range is 0
unfoldable pub no_reader : Reader
no_reader =
    record { storage = 0; offs = 0; ends = 0; window = 0; waiting = 0; total = 0; rng = 0; val = 0; ext = 0; rem = 0; error = true }

-- ---- what is said, apart from the numbers

-- what is said, and the numbers after it
pub record Stepped (A : Type 0) : Type 0 where
  pub said : Said A
  pub next : Reader

-- the two as one
abbrev pub stepped : {A : Type 0} → Said A → Reader → Stepped A
stepped a d = record { said = a; next = d }

-- what is said to d by value, apart: the value or the refusal, and the numbers after it, which a refusal leaves
abbrev pub apart : {A B : Type 0} → (A → B) → (A → Reader) → Reader → Said A → Stepped B
apart value next d (done y) = stepped (done (value y)) (next y)
apart value next d (refused n) = stepped (refused n) d

-- that, and what was lent for writing after the call
pub record After (A L : Type 0) : Type 0 where
  pub step : Stepped A
  pub lent : L

-- the two as one
abbrev pub both : {A L : Type 0} → Stepped A → L → After A L
both r l = record { step = r; lent = l }

-- what an answer says, with the numbers after it
abbrev pub said_step : {A : Type 0} → Step A → Stepped A
said_step r = stepped (said r.answer) r.next

-- ---- a new reader

-- the numbers of a new reader; or those and the number of the refusal
abbrev pub begun_of : Said Reader → Stepped Unit
begun_of (done d) = stepped (done tt) d
begun_of (refused n) = stepped (refused n) no_reader

-- a reader, and what is said of its packet
pub record Opening : Type 0 where
  pub said : Said Unit
  pub dec : EcDec

-- what an opened reader says
abbrev pub said_opening : Opened → Opening
said_opening r = record { said = said r.answer; dec = r.dec }

-- a reader of the packet s; a refused one holds the packet and the numbers that break the rule
abbrev pub opened_of : Bor (List ℕ) → Opening
opened_of s = record { said = (begun_of (start_of s.now)).said; dec = record { buf = s; num = (begun_of (start_of s.now)).next } }

-- ---- a symbol

-- what the call by value says of a symbol, apart
abbrev pub step_of : Reader → Said ReadSymbol → Stepped ℕ
step_of d a = apart (λ (y : ReadSymbol). y.value) (λ (y : ReadSymbol). y.next) d a

-- the read of a symbol by value, apart
abbrev pub symbol_step : Shape → List ℕ → Reader → Stepped ℕ
symbol_step h s d = step_of d (answer (refusal_r h s d) (read_sym h s d))

-- the same, of what a reader holds
abbrev pub read_held : Shape → EcDec → Stepped ℕ
read_held h r = symbol_step h r.buf.now r.num

-- ---- a Laplace value

-- what the call by value says of a Laplace value, apart
abbrev pub lap_of : Reader → Said LapSym → Stepped ℤ
lap_of d a = apart (λ (y : LapSym). y.value) (λ (y : LapSym). y.next) d a

-- the same, of what a reader holds
abbrev pub lap_held : ℕ → ℕ → EcDec → Stepped ℤ
lap_held fs decay r = lap_of r.num (reading fs decay r.buf.now r.num)

-- ---- an allocation

-- what an answer says, with the numbers and the lent lists after it
abbrev pub alloc_after : Step Allocation → Lists → After Allocation Lists
alloc_after r l = record { step = said_step r; lent = l }

-- an allocation without the reader after it
abbrev pub shares_of : ReadAllocation → Allocation
shares_of y = record { coded = y.coded; balance = y.balance; intensity = y.intensity; dual = y.dual }

-- what the call by value says of an allocation, apart, with its lists
abbrev pub alloc_of : Reader → AllocAnswer → After Allocation Lists
alloc_of d y = both (apart shares_of (λ (x : ReadAllocation). x.next) d y.said) y.lent

-- the same, of what a reader holds
abbrev pub alloc_held : AllocNumbers → List ℤ → List ℤ → Lists → EcDec → After Allocation Lists
alloc_held q offsets caps l r = alloc_of r.num (allocating q offsets caps r.buf.now r.num l)

-- ---- coarse energies

-- what an answer says, with the numbers and the lent energies after it: they are in the lent list, so that there is no value
abbrev pub coarse_after : Step Unit → List Float → After Unit (List Float)
coarse_after r es = record { step = said_step r; lent = es }

-- what the call by value says of coarse energies, apart, with the energies
abbrev pub coarse_of : Reader → EnergyAnswer → After Unit (List Float)
coarse_of d y = both (apart (λ (x : Reader). tt) (λ (x : Reader). x) d y.said) y.energies

-- the same, of what a reader holds
abbrev pub coarse_held : ℤ → ℤ → ℤ → ℤ → ℤ → List Float → EcDec → After Unit (List Float)
coarse_held c lm start end intra es r = coarse_of r.num (coarse_reading c lm start end intra r.buf.now r.num es)
