-- gurthapen::dec: any two results that a contract allows are equal. Written by tools/decided.
use Prim.Native.Nat.{ℕ}
use Rattle.decided.proofs.One.{one}
use Rattle.entcode.specs.Sym.Shape.{bit, raw, table, uint}
use Rattle.gurthapen.specs.Dec.{reads, starts, tells, tells_frac}
use Rattle.gurthapen_answer.specs.Result.{Result}
use Rattle.std.specs.Prelude.{◌≡◌}
use lib.IntN.{ℤ}
use mathlib.Core.List.{List}
use mathlib.Core.Path.{ap}
use Rattle.gurthapen_answer.specs.Result as answer

-- dec::gurthapen_dec_new
pub dec_gurthapen_dec_new : (state : List ℤ) (s : List ℕ) (r₁ r₂ : ℕ) (state_after₁ state_after₂ : List ℤ)
    → answer.result r₁ state_after₁ ≡ starts s state → answer.result r₂ state_after₂ ≡ starts s state
    → (r₁ ≡ r₂) × (state_after₁ ≡ state_after₂)
dec_gurthapen_dec_new state s r₁ r₂ state_after₁ state_after₂ e₁ e₂ =
    (ap (λ (x : Result (List ℤ)). x.number) (one e₁ e₂), ap (λ (x : Result (List ℤ)). x.lent) (one e₁ e₂))

-- dec::gurthapen_dec_bit_logp
pub dec_gurthapen_dec_bit_logp : (state : List ℤ) (s : List ℕ) (logp : ℕ) (value : List ℕ) (r₁ r₂ : ℕ) (state_after₁ state_after₂ : List ℤ) (value_after₁ value_after₂ : List ℕ)
    → answer.result r₁ (state_after₁, value_after₁) ≡ reads (bit logp) s state value → answer.result r₂ (state_after₂, value_after₂) ≡ reads (bit logp) s state value
    → (r₁ ≡ r₂) × (state_after₁ ≡ state_after₂) × (value_after₁ ≡ value_after₂)
dec_gurthapen_dec_bit_logp state s logp value r₁ r₂ state_after₁ state_after₂ value_after₁ value_after₂ e₁ e₂ =
    (ap (λ (x : Result (List ℤ × List ℕ)). x.number) (one e₁ e₂), ap (λ (x : Result (List ℤ × List ℕ)). x.lent.0) (one e₁ e₂), ap (λ (x : Result (List ℤ × List ℕ)). x.lent.1) (one e₁ e₂))

-- dec::gurthapen_dec_icdf
pub dec_gurthapen_dec_icdf : (state : List ℤ) (s : List ℕ) (t : List ℕ) (ftb : ℕ) (value : List ℕ) (r₁ r₂ : ℕ) (state_after₁ state_after₂ : List ℤ) (value_after₁ value_after₂ : List ℕ)
    → answer.result r₁ (state_after₁, value_after₁) ≡ reads (table t ftb) s state value → answer.result r₂ (state_after₂, value_after₂) ≡ reads (table t ftb) s state value
    → (r₁ ≡ r₂) × (state_after₁ ≡ state_after₂) × (value_after₁ ≡ value_after₂)
dec_gurthapen_dec_icdf state s t ftb value r₁ r₂ state_after₁ state_after₂ value_after₁ value_after₂ e₁ e₂ =
    (ap (λ (x : Result (List ℤ × List ℕ)). x.number) (one e₁ e₂), ap (λ (x : Result (List ℤ × List ℕ)). x.lent.0) (one e₁ e₂), ap (λ (x : Result (List ℤ × List ℕ)). x.lent.1) (one e₁ e₂))

-- dec::gurthapen_dec_uint
pub dec_gurthapen_dec_uint : (state : List ℤ) (s : List ℕ) (ft : ℕ) (value : List ℕ) (r₁ r₂ : ℕ) (state_after₁ state_after₂ : List ℤ) (value_after₁ value_after₂ : List ℕ)
    → answer.result r₁ (state_after₁, value_after₁) ≡ reads (uint ft) s state value → answer.result r₂ (state_after₂, value_after₂) ≡ reads (uint ft) s state value
    → (r₁ ≡ r₂) × (state_after₁ ≡ state_after₂) × (value_after₁ ≡ value_after₂)
dec_gurthapen_dec_uint state s ft value r₁ r₂ state_after₁ state_after₂ value_after₁ value_after₂ e₁ e₂ =
    (ap (λ (x : Result (List ℤ × List ℕ)). x.number) (one e₁ e₂), ap (λ (x : Result (List ℤ × List ℕ)). x.lent.0) (one e₁ e₂), ap (λ (x : Result (List ℤ × List ℕ)). x.lent.1) (one e₁ e₂))

-- dec::gurthapen_dec_bits
pub dec_gurthapen_dec_bits : (state : List ℤ) (s : List ℕ) (n : ℕ) (value : List ℕ) (r₁ r₂ : ℕ) (state_after₁ state_after₂ : List ℤ) (value_after₁ value_after₂ : List ℕ)
    → answer.result r₁ (state_after₁, value_after₁) ≡ reads (raw n) s state value → answer.result r₂ (state_after₂, value_after₂) ≡ reads (raw n) s state value
    → (r₁ ≡ r₂) × (state_after₁ ≡ state_after₂) × (value_after₁ ≡ value_after₂)
dec_gurthapen_dec_bits state s n value r₁ r₂ state_after₁ state_after₂ value_after₁ value_after₂ e₁ e₂ =
    (ap (λ (x : Result (List ℤ × List ℕ)). x.number) (one e₁ e₂), ap (λ (x : Result (List ℤ × List ℕ)). x.lent.0) (one e₁ e₂), ap (λ (x : Result (List ℤ × List ℕ)). x.lent.1) (one e₁ e₂))

-- dec::gurthapen_dec_tell
pub dec_gurthapen_dec_tell : (state : List ℤ) (value : List ℕ) (r₁ r₂ : ℕ) (value_after₁ value_after₂ : List ℕ)
    → answer.result r₁ value_after₁ ≡ tells state value → answer.result r₂ value_after₂ ≡ tells state value
    → (r₁ ≡ r₂) × (value_after₁ ≡ value_after₂)
dec_gurthapen_dec_tell state value r₁ r₂ value_after₁ value_after₂ e₁ e₂ =
    (ap (λ (x : Result (List ℕ)). x.number) (one e₁ e₂), ap (λ (x : Result (List ℕ)). x.lent) (one e₁ e₂))

-- dec::gurthapen_dec_tell_frac
pub dec_gurthapen_dec_tell_frac : (state : List ℤ) (value : List ℕ) (r₁ r₂ : ℕ) (value_after₁ value_after₂ : List ℕ)
    → answer.result r₁ value_after₁ ≡ tells_frac state value → answer.result r₂ value_after₂ ≡ tells_frac state value
    → (r₁ ≡ r₂) × (value_after₁ ≡ value_after₂)
dec_gurthapen_dec_tell_frac state value r₁ r₂ value_after₁ value_after₂ e₁ e₂ =
    (ap (λ (x : Result (List ℕ)). x.number) (one e₁ e₂), ap (λ (x : Result (List ℕ)). x.lent) (one e₁ e₂))
