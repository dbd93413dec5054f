-- entdec: any two results that a contract allows are equal. Written by tools/decided.
use Prim.Native.Nat.{ℕ}
use Rattle.decided.proofs.One.{one}
use Rattle.entcode.proofs.Said.{said_same as entcode_said_same}
use Rattle.entcode.specs.Counts.{tell_said}
use Rattle.entcode.specs.Said.{answer, said}
use Rattle.entcode.specs.Sym.Shape.{bit, raw, table, uint}
use Rattle.entcode.specs.Tell.{tell_frac_of, tell_of}
use Rattle.entcode.specs.declared.reasons.Refusal.{Refusal}
use Rattle.entdec.specs.Answer.{start_of}
use Rattle.entdec.specs.Coded.{ReadSymbol}
use Rattle.entdec.specs.Rule.{reader_ok, refusal_r}
use Rattle.entdec.specs.Symbols.{read_sym}
use Rattle.entdec.specs.declared.Reader.{Reader}
use Rattle.std.specs.Prelude.{Result, ◌≡◌}
use mathlib.Core.List.{List}

-- Reader::new
pub Reader_new : (s : List ℕ) (r₁ r₂ : Result Reader Refusal)
    → said r₁ ≡ start_of s → said r₂ ≡ start_of s
    → r₁ ≡ r₂
Reader_new s r₁ r₂ e₁ e₂ =
    entcode_said_same (one e₁ e₂)

-- Reader::bit_logp
pub Reader_bit_logp : (self : Reader) (s : List ℕ) (logp : ℕ) (r₁ r₂ : Result ReadSymbol Refusal)
    → said r₁ ≡ answer (refusal_r (bit logp) s self) (read_sym (bit logp) s self) → said r₂ ≡ answer (refusal_r (bit logp) s self) (read_sym (bit logp) s self)
    → r₁ ≡ r₂
Reader_bit_logp self s logp r₁ r₂ e₁ e₂ =
    entcode_said_same (one e₁ e₂)

-- Reader::icdf
pub Reader_icdf : (self : Reader) (s : List ℕ) (t : List ℕ) (ftb : ℕ) (r₁ r₂ : Result ReadSymbol Refusal)
    → said r₁ ≡ answer (refusal_r (table t ftb) s self) (read_sym (table t ftb) s self) → said r₂ ≡ answer (refusal_r (table t ftb) s self) (read_sym (table t ftb) s self)
    → r₁ ≡ r₂
Reader_icdf self s t ftb r₁ r₂ e₁ e₂ =
    entcode_said_same (one e₁ e₂)

-- Reader::uint
pub Reader_uint : (self : Reader) (s : List ℕ) (ft : ℕ) (r₁ r₂ : Result ReadSymbol Refusal)
    → said r₁ ≡ answer (refusal_r (uint ft) s self) (read_sym (uint ft) s self) → said r₂ ≡ answer (refusal_r (uint ft) s self) (read_sym (uint ft) s self)
    → r₁ ≡ r₂
Reader_uint self s ft r₁ r₂ e₁ e₂ =
    entcode_said_same (one e₁ e₂)

-- Reader::bits
pub Reader_bits : (self : Reader) (s : List ℕ) (n : ℕ) (r₁ r₂ : Result ReadSymbol Refusal)
    → said r₁ ≡ answer (refusal_r (raw n) s self) (read_sym (raw n) s self) → said r₂ ≡ answer (refusal_r (raw n) s self) (read_sym (raw n) s self)
    → r₁ ≡ r₂
Reader_bits self s n r₁ r₂ e₁ e₂ =
    entcode_said_same (one e₁ e₂)

-- Reader::tell
pub Reader_tell : (self : Reader) (r₁ r₂ : Result ℕ Refusal)
    → said r₁ ≡ tell_said (reader_ok self) (tell_of self.total self.rng) → said r₂ ≡ tell_said (reader_ok self) (tell_of self.total self.rng)
    → r₁ ≡ r₂
Reader_tell self r₁ r₂ e₁ e₂ =
    entcode_said_same (one e₁ e₂)

-- Reader::tell_frac
pub Reader_tell_frac : (self : Reader) (r₁ r₂ : Result ℕ Refusal)
    → said r₁ ≡ tell_said (reader_ok self) (tell_frac_of self.total self.rng) → said r₂ ≡ tell_said (reader_ok self) (tell_frac_of self.total self.rng)
    → r₁ ≡ r₂
Reader_tell_frac self r₁ r₂ e₁ e₂ =
    entcode_said_same (one e₁ e₂)
