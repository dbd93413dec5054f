-- reader_held::plain: any two results that a contract allows are equal. Written by tools/decided.
use Prim.Native.Nat.{ℕ}
use Rattle.decided.proofs.One.{one}
use Rattle.entcode.specs.Sym.Shape.{bit, raw, table, uint}
use Rattle.entdec.specs.Answer.{start_of}
use Rattle.entdec.specs.declared.Reader.{Reader}
use Rattle.laplace.specs.Answer.{reading}
use Rattle.quant_bands.specs.Answer.{coarse_reading}
use Rattle.rate.specs.Answer.{reading as allocating}
use Rattle.rate.specs.Question.{Lists, lists}
use Rattle.rate.specs.declared.AllocNumbers.{AllocNumbers}
use Rattle.reader_held.proofs.Said.{said_step-same as reader_held_said_step_same}
use Rattle.reader_held.specs.Held.{After, alloc_after, alloc_of, begun_of, coarse_after, coarse_of, lap_of, said_step, symbol_step}
use Rattle.reader_held.specs.declared.Allocation.{Allocation}
use Rattle.reader_held.specs.declared.Step.{Step}
use Rattle.std.specs.Prelude.{◌≡◌}
use lib.Ieee.{Float}
use lib.IntN.{ℤ}
use mathlib.Core.List.{List}
use mathlib.Core.Path.{ap}

-- plain::begin
pub plain_begin : (buf : List ℕ) (r₁ r₂ : Step (Unit {0}))
    → said_step r₁ ≡ begun_of (start_of buf) → said_step r₂ ≡ begun_of (start_of buf)
    → r₁ ≡ r₂
plain_begin buf r₁ r₂ e₁ e₂ =
    reader_held_said_step_same (one e₁ e₂)

-- plain::bit_logp
pub plain_bit_logp : (num : Reader) (buf : List ℕ) (logp : ℕ) (r₁ r₂ : Step ℕ)
    → said_step r₁ ≡ symbol_step (bit logp) buf num → said_step r₂ ≡ symbol_step (bit logp) buf num
    → r₁ ≡ r₂
plain_bit_logp num buf logp r₁ r₂ e₁ e₂ =
    reader_held_said_step_same (one e₁ e₂)

-- plain::uint
pub plain_uint : (num : Reader) (buf : List ℕ) (ft : ℕ) (r₁ r₂ : Step ℕ)
    → said_step r₁ ≡ symbol_step (uint ft) buf num → said_step r₂ ≡ symbol_step (uint ft) buf num
    → r₁ ≡ r₂
plain_uint num buf ft r₁ r₂ e₁ e₂ =
    reader_held_said_step_same (one e₁ e₂)

-- plain::icdf
pub plain_icdf : (num : Reader) (buf : List ℕ) (t : List ℕ) (ftb : ℕ) (r₁ r₂ : Step ℕ)
    → said_step r₁ ≡ symbol_step (table t ftb) buf num → said_step r₂ ≡ symbol_step (table t ftb) buf num
    → r₁ ≡ r₂
plain_icdf num buf t ftb r₁ r₂ e₁ e₂ =
    reader_held_said_step_same (one e₁ e₂)

-- plain::bits
pub plain_bits : (num : Reader) (buf : List ℕ) (n : ℕ) (r₁ r₂ : Step ℕ)
    → said_step r₁ ≡ symbol_step (raw n) buf num → said_step r₂ ≡ symbol_step (raw n) buf num
    → r₁ ≡ r₂
plain_bits num buf n r₁ r₂ e₁ e₂ =
    reader_held_said_step_same (one e₁ e₂)

-- plain::laplace
pub plain_laplace : (num : Reader) (buf : List ℕ) (fs : ℕ) (decay : ℕ) (r₁ r₂ : Step ℤ)
    → said_step r₁ ≡ lap_of num (reading fs decay buf num) → said_step r₂ ≡ lap_of num (reading fs decay buf num)
    → r₁ ≡ r₂
plain_laplace num buf fs decay r₁ r₂ e₁ e₂ =
    reader_held_said_step_same (one e₁ e₂)

-- plain::allocation
pub plain_allocation : (num : Reader) (buf : List ℕ) (q : AllocNumbers) (offsets : List ℤ) (caps : List ℤ) (pulses : List ℤ) (fine : List ℤ) (priorities : List ℤ) (r₁ r₂ : Step Allocation) (pulses_after₁ pulses_after₂ : List ℤ) (fine_after₁ fine_after₂ : List ℤ) (priorities_after₁ priorities_after₂ : List ℤ)
    → alloc_after r₁ (lists pulses_after₁ fine_after₁ priorities_after₁) ≡ alloc_of num (allocating q offsets caps buf num (lists pulses fine priorities)) → alloc_after r₂ (lists pulses_after₂ fine_after₂ priorities_after₂) ≡ alloc_of num (allocating q offsets caps buf num (lists pulses fine priorities))
    → (r₁ ≡ r₂) × (pulses_after₁ ≡ pulses_after₂) × (fine_after₁ ≡ fine_after₂) × (priorities_after₁ ≡ priorities_after₂)
plain_allocation num buf q offsets caps pulses fine priorities r₁ r₂ pulses_after₁ pulses_after₂ fine_after₁ fine_after₂ priorities_after₁ priorities_after₂ e₁ e₂ =
    (reader_held_said_step_same (ap (λ (x : After Allocation Lists). x.step) (one e₁ e₂)), ap (λ (x : After Allocation Lists). x.lent.pulses) (one e₁ e₂), ap (λ (x : After Allocation Lists). x.lent.fine) (one e₁ e₂), ap (λ (x : After Allocation Lists). x.lent.priorities) (one e₁ e₂))

-- plain::coarse
pub plain_coarse : (num : Reader) (buf : List ℕ) (energies : List Float) (c : ℤ) (lm : ℤ) (start : ℤ) (end : ℤ) (intra : ℤ) (r₁ r₂ : Step (Unit {0})) (energies_after₁ energies_after₂ : List Float)
    → coarse_after r₁ energies_after₁ ≡ coarse_of num (coarse_reading c lm start end intra buf num energies) → coarse_after r₂ energies_after₂ ≡ coarse_of num (coarse_reading c lm start end intra buf num energies)
    → (r₁ ≡ r₂) × (energies_after₁ ≡ energies_after₂)
plain_coarse num buf energies c lm start end intra r₁ r₂ energies_after₁ energies_after₂ e₁ e₂ =
    (reader_held_said_step_same (ap (λ (x : After Unit (List Float)). x.step) (one e₁ e₂)), ap (λ (x : After Unit (List Float)). x.lent) (one e₁ e₂))
