-- reader_held: any two results that a contract allows are equal. Written by tools/decided.
use Prim.Native.Nat.{ℕ}
use Rattle.decided.proofs.One.{one}
use Rattle.entcode.proofs.Said.{said_same as entcode_said_same}
use Rattle.entcode.specs.Said.{said}
use Rattle.entcode.specs.Sym.Shape.{bit, raw, table, uint}
use Rattle.entcode.specs.declared.reasons.Refusal.{Refusal}
use Rattle.rate.specs.Question.{Lists, lists}
use Rattle.rate.specs.declared.AllocNumbers.{AllocNumbers}
use Rattle.reader_held.proofs.Said.{said_opening_same as reader_held_said_opening_same}
use Rattle.reader_held.specs.Held.{alloc_held, coarse_held, lap_held, moved, opened_of, read_held, said_opening}
use Rattle.reader_held.specs.declared.Allocation.{Allocation}
use Rattle.reader_held.specs.declared.EcDec.{EcDec}
use Rattle.reader_held.specs.declared.Opened.{Opened}
use Rattle.std.specs.Prelude.{Result, ◌≡◌}
use denote.Ref.{Bor}
use lib.Ieee.{Float}
use lib.IntN.{ℤ}
use mathlib.Core.List.{List}
use mathlib.Core.Path.{ap}

-- ec_dec_init
pub ec_dec_init : (buf : Bor (List ℕ)) (r₁ r₂ : Opened)
    → said_opening r₁ ≡ opened_of buf → said_opening r₂ ≡ opened_of buf
    → r₁ ≡ r₂
ec_dec_init buf r₁ r₂ e₁ e₂ =
    reader_held_said_opening_same (one e₁ e₂)

-- ec_dec_bit_logp
pub ec_dec_bit_logp : (d : EcDec) (logp : ℕ) (r₁ r₂ : Result ℕ Refusal) (d_after₁ d_after₂ : EcDec)
    → ((said r₁ ≡ (read_held (bit logp) d).said) × (d_after₁ ≡ moved d (read_held (bit logp) d).next)) → ((said r₂ ≡ (read_held (bit logp) d).said) × (d_after₂ ≡ moved d (read_held (bit logp) d).next))
    → (r₁ ≡ r₂) × (d_after₁ ≡ d_after₂)
ec_dec_bit_logp d logp r₁ r₂ d_after₁ d_after₂ e₁ e₂ =
    (entcode_said_same (one e₁.0 e₂.0), one e₁.1 e₂.1)

-- ec_dec_uint
pub ec_dec_uint : (d : EcDec) (ft : ℕ) (r₁ r₂ : Result ℕ Refusal) (d_after₁ d_after₂ : EcDec)
    → ((said r₁ ≡ (read_held (uint ft) d).said) × (d_after₁ ≡ moved d (read_held (uint ft) d).next)) → ((said r₂ ≡ (read_held (uint ft) d).said) × (d_after₂ ≡ moved d (read_held (uint ft) d).next))
    → (r₁ ≡ r₂) × (d_after₁ ≡ d_after₂)
ec_dec_uint d ft r₁ r₂ d_after₁ d_after₂ e₁ e₂ =
    (entcode_said_same (one e₁.0 e₂.0), one e₁.1 e₂.1)

-- ec_dec_icdf
pub ec_dec_icdf : (d : EcDec) (t : List ℕ) (ftb : ℕ) (r₁ r₂ : Result ℕ Refusal) (d_after₁ d_after₂ : EcDec)
    → ((said r₁ ≡ (read_held (table t ftb) d).said) × (d_after₁ ≡ moved d (read_held (table t ftb) d).next)) → ((said r₂ ≡ (read_held (table t ftb) d).said) × (d_after₂ ≡ moved d (read_held (table t ftb) d).next))
    → (r₁ ≡ r₂) × (d_after₁ ≡ d_after₂)
ec_dec_icdf d t ftb r₁ r₂ d_after₁ d_after₂ e₁ e₂ =
    (entcode_said_same (one e₁.0 e₂.0), one e₁.1 e₂.1)

-- ec_dec_bits
pub ec_dec_bits : (d : EcDec) (n : ℕ) (r₁ r₂ : Result ℕ Refusal) (d_after₁ d_after₂ : EcDec)
    → ((said r₁ ≡ (read_held (raw n) d).said) × (d_after₁ ≡ moved d (read_held (raw n) d).next)) → ((said r₂ ≡ (read_held (raw n) d).said) × (d_after₂ ≡ moved d (read_held (raw n) d).next))
    → (r₁ ≡ r₂) × (d_after₁ ≡ d_after₂)
ec_dec_bits d n r₁ r₂ d_after₁ d_after₂ e₁ e₂ =
    (entcode_said_same (one e₁.0 e₂.0), one e₁.1 e₂.1)

-- ec_laplace_decode
pub ec_laplace_decode : (d : EcDec) (fs : ℕ) (decay : ℕ) (r₁ r₂ : Result ℤ Refusal) (d_after₁ d_after₂ : EcDec)
    → ((said r₁ ≡ (lap_held fs decay d).said) × (d_after₁ ≡ moved d (lap_held fs decay d).next)) → ((said r₂ ≡ (lap_held fs decay d).said) × (d_after₂ ≡ moved d (lap_held fs decay d).next))
    → (r₁ ≡ r₂) × (d_after₁ ≡ d_after₂)
ec_laplace_decode d fs decay r₁ r₂ d_after₁ d_after₂ e₁ e₂ =
    (entcode_said_same (one e₁.0 e₂.0), one e₁.1 e₂.1)

-- clt_compute_allocation
pub clt_compute_allocation : (d : EcDec) (q : AllocNumbers) (offsets : List ℤ) (caps : List ℤ) (pulses : List ℤ) (fine : List ℤ) (priorities : List ℤ) (r₁ r₂ : Result Allocation Refusal) (d_after₁ d_after₂ : EcDec) (pulses_after₁ pulses_after₂ : List ℤ) (fine_after₁ fine_after₂ : List ℤ) (priorities_after₁ priorities_after₂ : List ℤ)
    → ((said r₁ ≡ (alloc_held q offsets caps (lists pulses fine priorities) d).step.said) × (d_after₁ ≡ moved d (alloc_held q offsets caps (lists pulses fine priorities) d).step.next) × (lists pulses_after₁ fine_after₁ priorities_after₁ ≡ (alloc_held q offsets caps (lists pulses fine priorities) d).lent)) → ((said r₂ ≡ (alloc_held q offsets caps (lists pulses fine priorities) d).step.said) × (d_after₂ ≡ moved d (alloc_held q offsets caps (lists pulses fine priorities) d).step.next) × (lists pulses_after₂ fine_after₂ priorities_after₂ ≡ (alloc_held q offsets caps (lists pulses fine priorities) d).lent))
    → (r₁ ≡ r₂) × (d_after₁ ≡ d_after₂) × (pulses_after₁ ≡ pulses_after₂) × (fine_after₁ ≡ fine_after₂) × (priorities_after₁ ≡ priorities_after₂)
clt_compute_allocation d q offsets caps pulses fine priorities r₁ r₂ d_after₁ d_after₂ pulses_after₁ pulses_after₂ fine_after₁ fine_after₂ priorities_after₁ priorities_after₂ e₁ e₂ =
    (entcode_said_same (one e₁.0 e₂.0), one e₁.1 e₂.1, ap (λ (x : Lists). x.pulses) (one e₁.2 e₂.2), ap (λ (x : Lists). x.fine) (one e₁.2 e₂.2), ap (λ (x : Lists). x.priorities) (one e₁.2 e₂.2))

-- unquant_coarse_energy
pub unquant_coarse_energy : (d : EcDec) (energies : List Float) (c : ℤ) (lm : ℤ) (start : ℤ) (end : ℤ) (intra : ℤ) (r₁ r₂ : Result (Unit {0}) Refusal) (d_after₁ d_after₂ : EcDec) (energies_after₁ energies_after₂ : List Float)
    → ((said r₁ ≡ (coarse_held c lm start end intra energies d).step.said) × (d_after₁ ≡ moved d (coarse_held c lm start end intra energies d).step.next) × (energies_after₁ ≡ (coarse_held c lm start end intra energies d).lent)) → ((said r₂ ≡ (coarse_held c lm start end intra energies d).step.said) × (d_after₂ ≡ moved d (coarse_held c lm start end intra energies d).step.next) × (energies_after₂ ≡ (coarse_held c lm start end intra energies d).lent))
    → (r₁ ≡ r₂) × (d_after₁ ≡ d_after₂) × (energies_after₁ ≡ energies_after₂)
unquant_coarse_energy d energies c lm start end intra r₁ r₂ d_after₁ d_after₂ energies_after₁ energies_after₂ e₁ e₂ =
    (entcode_said_same (one e₁.0 e₂.0), one e₁.1 e₂.1, one e₁.2 e₂.2)
