-- gurthapen::enc: any two results that a contract allows are equal. Written by tools/decided.
use Prim.Native.Nat.{ℕ}
use Rattle.decided.proofs.One.{one}
use Rattle.entcode.specs.Sym.Shape.{bit, raw, table, uint}
use Rattle.gurthapen.specs.Enc.{closes, starts, tells, tells_frac, writes}
use Rattle.gurthapen_answer.specs.Result.{Result}
use Rattle.std.specs.Prelude.{◌≡◌}
use lib.IntN.{ℤ}
use mathlib.Core.List.{List}
use mathlib.Core.Path.{ap}
use Rattle.gurthapen_answer.specs.Result as answer

-- enc::gurthapen_enc_new
pub enc_gurthapen_enc_new : (state : List ℤ) (buf : List ℕ) (r₁ r₂ : ℕ) (state_after₁ state_after₂ : List ℤ)
    → answer.result r₁ state_after₁ ≡ starts buf state → answer.result r₂ state_after₂ ≡ starts buf state
    → (r₁ ≡ r₂) × (state_after₁ ≡ state_after₂)
enc_gurthapen_enc_new state buf r₁ r₂ state_after₁ state_after₂ e₁ e₂ =
    (ap (λ (x : Result (List ℤ)). x.number) (one e₁ e₂), ap (λ (x : Result (List ℤ)). x.lent) (one e₁ e₂))

-- enc::gurthapen_enc_bit_logp
pub enc_gurthapen_enc_bit_logp : (state : List ℤ) (buf : List ℕ) (value : ℕ) (logp : ℕ) (r₁ r₂ : ℕ) (state_after₁ state_after₂ : List ℤ) (buf_after₁ buf_after₂ : List ℕ)
    → answer.result r₁ (state_after₁, buf_after₁) ≡ writes (bit logp) value state buf → answer.result r₂ (state_after₂, buf_after₂) ≡ writes (bit logp) value state buf
    → (r₁ ≡ r₂) × (state_after₁ ≡ state_after₂) × (buf_after₁ ≡ buf_after₂)
enc_gurthapen_enc_bit_logp state buf value logp r₁ r₂ state_after₁ state_after₂ buf_after₁ buf_after₂ e₁ e₂ =
    (ap (λ (x : Result (List ℤ × List ℕ)). x.number) (one e₁ e₂), ap (λ (x : Result (List ℤ × List ℕ)). x.lent.0) (one e₁ e₂), ap (λ (x : Result (List ℤ × List ℕ)). x.lent.1) (one e₁ e₂))

-- enc::gurthapen_enc_icdf
pub enc_gurthapen_enc_icdf : (state : List ℤ) (buf : List ℕ) (s : ℕ) (t : List ℕ) (ftb : ℕ) (r₁ r₂ : ℕ) (state_after₁ state_after₂ : List ℤ) (buf_after₁ buf_after₂ : List ℕ)
    → answer.result r₁ (state_after₁, buf_after₁) ≡ writes (table t ftb) s state buf → answer.result r₂ (state_after₂, buf_after₂) ≡ writes (table t ftb) s state buf
    → (r₁ ≡ r₂) × (state_after₁ ≡ state_after₂) × (buf_after₁ ≡ buf_after₂)
enc_gurthapen_enc_icdf state buf s t ftb r₁ r₂ state_after₁ state_after₂ buf_after₁ buf_after₂ e₁ e₂ =
    (ap (λ (x : Result (List ℤ × List ℕ)). x.number) (one e₁ e₂), ap (λ (x : Result (List ℤ × List ℕ)). x.lent.0) (one e₁ e₂), ap (λ (x : Result (List ℤ × List ℕ)). x.lent.1) (one e₁ e₂))

-- enc::gurthapen_enc_uint
pub enc_gurthapen_enc_uint : (state : List ℤ) (buf : List ℕ) (fl : ℕ) (ft : ℕ) (r₁ r₂ : ℕ) (state_after₁ state_after₂ : List ℤ) (buf_after₁ buf_after₂ : List ℕ)
    → answer.result r₁ (state_after₁, buf_after₁) ≡ writes (uint ft) fl state buf → answer.result r₂ (state_after₂, buf_after₂) ≡ writes (uint ft) fl state buf
    → (r₁ ≡ r₂) × (state_after₁ ≡ state_after₂) × (buf_after₁ ≡ buf_after₂)
enc_gurthapen_enc_uint state buf fl ft r₁ r₂ state_after₁ state_after₂ buf_after₁ buf_after₂ e₁ e₂ =
    (ap (λ (x : Result (List ℤ × List ℕ)). x.number) (one e₁ e₂), ap (λ (x : Result (List ℤ × List ℕ)). x.lent.0) (one e₁ e₂), ap (λ (x : Result (List ℤ × List ℕ)). x.lent.1) (one e₁ e₂))

-- enc::gurthapen_enc_bits
pub enc_gurthapen_enc_bits : (state : List ℤ) (buf : List ℕ) (v : ℕ) (n : ℕ) (r₁ r₂ : ℕ) (state_after₁ state_after₂ : List ℤ) (buf_after₁ buf_after₂ : List ℕ)
    → answer.result r₁ (state_after₁, buf_after₁) ≡ writes (raw n) v state buf → answer.result r₂ (state_after₂, buf_after₂) ≡ writes (raw n) v state buf
    → (r₁ ≡ r₂) × (state_after₁ ≡ state_after₂) × (buf_after₁ ≡ buf_after₂)
enc_gurthapen_enc_bits state buf v n r₁ r₂ state_after₁ state_after₂ buf_after₁ buf_after₂ e₁ e₂ =
    (ap (λ (x : Result (List ℤ × List ℕ)). x.number) (one e₁ e₂), ap (λ (x : Result (List ℤ × List ℕ)). x.lent.0) (one e₁ e₂), ap (λ (x : Result (List ℤ × List ℕ)). x.lent.1) (one e₁ e₂))

-- enc::gurthapen_enc_close
pub enc_gurthapen_enc_close : (state : List ℤ) (buf : List ℕ) (r₁ r₂ : ℕ) (state_after₁ state_after₂ : List ℤ) (buf_after₁ buf_after₂ : List ℕ)
    → answer.result r₁ (state_after₁, buf_after₁) ≡ closes state buf → answer.result r₂ (state_after₂, buf_after₂) ≡ closes state buf
    → (r₁ ≡ r₂) × (state_after₁ ≡ state_after₂) × (buf_after₁ ≡ buf_after₂)
enc_gurthapen_enc_close state buf r₁ r₂ state_after₁ state_after₂ buf_after₁ buf_after₂ e₁ e₂ =
    (ap (λ (x : Result (List ℤ × List ℕ)). x.number) (one e₁ e₂), ap (λ (x : Result (List ℤ × List ℕ)). x.lent.0) (one e₁ e₂), ap (λ (x : Result (List ℤ × List ℕ)). x.lent.1) (one e₁ e₂))

-- enc::gurthapen_enc_tell
pub enc_gurthapen_enc_tell : (state : List ℤ) (value : List ℕ) (r₁ r₂ : ℕ) (value_after₁ value_after₂ : List ℕ)
    → answer.result r₁ value_after₁ ≡ tells state value → answer.result r₂ value_after₂ ≡ tells state value
    → (r₁ ≡ r₂) × (value_after₁ ≡ value_after₂)
enc_gurthapen_enc_tell state value r₁ r₂ value_after₁ value_after₂ e₁ e₂ =
    (ap (λ (x : Result (List ℕ)). x.number) (one e₁ e₂), ap (λ (x : Result (List ℕ)). x.lent) (one e₁ e₂))

-- enc::gurthapen_enc_tell_frac
pub enc_gurthapen_enc_tell_frac : (state : List ℤ) (value : List ℕ) (r₁ r₂ : ℕ) (value_after₁ value_after₂ : List ℕ)
    → answer.result r₁ value_after₁ ≡ tells_frac state value → answer.result r₂ value_after₂ ≡ tells_frac state value
    → (r₁ ≡ r₂) × (value_after₁ ≡ value_after₂)
enc_gurthapen_enc_tell_frac state value r₁ r₂ value_after₁ value_after₂ e₁ e₂ =
    (ap (λ (x : Result (List ℕ)). x.number) (one e₁ e₂), ap (λ (x : Result (List ℕ)). x.lent) (one e₁ e₂))
