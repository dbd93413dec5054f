-- entenc: any two results that a contract allows are equal. Written by tools/decided.
use Prim.Native.Nat.{ℕ}
use Rattle.decided.proofs.One.{one}
use Rattle.entcode.proofs.Said.{said_same as entcode_said_same}
use Rattle.entcode.specs.Counts.{tell_said}
use Rattle.entcode.specs.Said.{said}
use Rattle.entcode.specs.Sym.Shape.{bit, raw, table, uint}
use Rattle.entcode.specs.Tell.{tell_frac_of, tell_of}
use Rattle.entcode.specs.declared.reasons.Refusal.{Refusal}
use Rattle.entenc.specs.Answer.{After, after, closing, start_of, writing}
use Rattle.entenc.specs.Rule.{writer_ok}
use Rattle.entenc.specs.Write.{wr}
use Rattle.entenc.specs.declared.Writer.{Writer}
use Rattle.std.specs.Prelude.{Result, length, ◌≡◌}
use mathlib.Core.List.{List}
use mathlib.Core.Path.{ap}

-- Writer::new
pub Writer_new : (buf : List ℕ) (r₁ r₂ : Result Writer Refusal)
    → said r₁ ≡ start_of (length buf) → said r₂ ≡ start_of (length buf)
    → r₁ ≡ r₂
Writer_new buf r₁ r₂ e₁ e₂ =
    entcode_said_same (one e₁ e₂)

-- Writer::tell
pub Writer_tell : (self : Writer) (r₁ r₂ : Result ℕ Refusal)
    → said r₁ ≡ tell_said (writer_ok self) (tell_of self.total self.rng) → said r₂ ≡ tell_said (writer_ok self) (tell_of self.total self.rng)
    → r₁ ≡ r₂
Writer_tell self r₁ r₂ e₁ e₂ =
    entcode_said_same (one e₁ e₂)

-- Writer::tell_frac
pub Writer_tell_frac : (self : Writer) (r₁ r₂ : Result ℕ Refusal)
    → said r₁ ≡ tell_said (writer_ok self) (tell_frac_of self.total self.rng) → said r₂ ≡ tell_said (writer_ok self) (tell_frac_of self.total self.rng)
    → r₁ ≡ r₂
Writer_tell_frac self r₁ r₂ e₁ e₂ =
    entcode_said_same (one e₁ e₂)

-- Writer::bit_logp
pub Writer_bit_logp : (self : Writer) (buf : List ℕ) (value : ℕ) (logp : ℕ) (r₁ r₂ : Result Writer Refusal) (buf_after₁ buf_after₂ : List ℕ)
    → after r₁ buf_after₁ ≡ writing (bit logp) value (wr self buf) → after r₂ buf_after₂ ≡ writing (bit logp) value (wr self buf)
    → (r₁ ≡ r₂) × (buf_after₁ ≡ buf_after₂)
Writer_bit_logp self buf value logp r₁ r₂ buf_after₁ buf_after₂ e₁ e₂ =
    (entcode_said_same (ap (λ (x : After). x.said) (one e₁ e₂)), ap (λ (x : After). x.bytes) (one e₁ e₂))

-- Writer::icdf
pub Writer_icdf : (self : Writer) (buf : List ℕ) (s : ℕ) (t : List ℕ) (ftb : ℕ) (r₁ r₂ : Result Writer Refusal) (buf_after₁ buf_after₂ : List ℕ)
    → after r₁ buf_after₁ ≡ writing (table t ftb) s (wr self buf) → after r₂ buf_after₂ ≡ writing (table t ftb) s (wr self buf)
    → (r₁ ≡ r₂) × (buf_after₁ ≡ buf_after₂)
Writer_icdf self buf s t ftb r₁ r₂ buf_after₁ buf_after₂ e₁ e₂ =
    (entcode_said_same (ap (λ (x : After). x.said) (one e₁ e₂)), ap (λ (x : After). x.bytes) (one e₁ e₂))

-- Writer::uint
pub Writer_uint : (self : Writer) (buf : List ℕ) (fl : ℕ) (ft : ℕ) (r₁ r₂ : Result Writer Refusal) (buf_after₁ buf_after₂ : List ℕ)
    → after r₁ buf_after₁ ≡ writing (uint ft) fl (wr self buf) → after r₂ buf_after₂ ≡ writing (uint ft) fl (wr self buf)
    → (r₁ ≡ r₂) × (buf_after₁ ≡ buf_after₂)
Writer_uint self buf fl ft r₁ r₂ buf_after₁ buf_after₂ e₁ e₂ =
    (entcode_said_same (ap (λ (x : After). x.said) (one e₁ e₂)), ap (λ (x : After). x.bytes) (one e₁ e₂))

-- Writer::bits
pub Writer_bits : (self : Writer) (buf : List ℕ) (v : ℕ) (n : ℕ) (r₁ r₂ : Result Writer Refusal) (buf_after₁ buf_after₂ : List ℕ)
    → after r₁ buf_after₁ ≡ writing (raw n) v (wr self buf) → after r₂ buf_after₂ ≡ writing (raw n) v (wr self buf)
    → (r₁ ≡ r₂) × (buf_after₁ ≡ buf_after₂)
Writer_bits self buf v n r₁ r₂ buf_after₁ buf_after₂ e₁ e₂ =
    (entcode_said_same (ap (λ (x : After). x.said) (one e₁ e₂)), ap (λ (x : After). x.bytes) (one e₁ e₂))

-- Writer::close
pub Writer_close : (self : Writer) (buf : List ℕ) (r₁ r₂ : Result Writer Refusal) (buf_after₁ buf_after₂ : List ℕ)
    → after r₁ buf_after₁ ≡ closing (wr self buf) → after r₂ buf_after₂ ≡ closing (wr self buf)
    → (r₁ ≡ r₂) × (buf_after₁ ≡ buf_after₂)
Writer_close self buf r₁ r₂ buf_after₁ buf_after₂ e₁ e₂ =
    (entcode_said_same (ap (λ (x : After). x.said) (one e₁ e₂)), ap (λ (x : After). x.bytes) (one e₁ e₂))
