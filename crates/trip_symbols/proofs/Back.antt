-- Bytes from the back as a number, little end first. Assumes nothing but that bytes are below 256.
use Prim.Native.Nat.{ℕ, zero, suc, ◌+◌, ◌-◌, ◌*◌, ◌≤◌, ◌<◌}
use mathlib.Core.Path.{◌≡◌, refl, ap, ◌∙◌}
use mathlib.Core.List.{List}
use native.Mathlib.Omega.{arith}
use lib.ListN.{length, get_or, set, length-set}
use lib.Seq.{get_or-set_same, get_or-set_other}
use lib.Dec.{ltb}
use borrow.Author.Tests.{lt-ltb, le-ltb}
use Rattle.laws.specs.Lists.{Bytes}
use Rattle.laws.proofs.Tests.{split_on}
use Rattle.entdec.specs.Read.{byte_back}

-- ---- one byte

-- a place within the bytes
pub byte_back-at : (s : List ℕ) (i : ℕ) → i < length s → byte_back s i ≡ get_or s (length s - 1 - i) 0
unfolding byte_back
byte_back-at s i h = simp (lt-ltb _ _ h)

-- past the start there are zeros
pub byte_back-past : (s : List ℕ) (i : ℕ) → length s ≤ i → byte_back s i ≡ 0
unfolding byte_back
byte_back-past s i h = simp (le-ltb _ _ h)

-- it is a byte
pub byte_back-lt : (s : List ℕ) (i : ℕ) → Bytes s → byte_back s i < 256
unfolding byte_back
byte_back-lt s i b = split_on (ltb i (length s)) (λ t. simp t (b (length s - 1 - i))) (λ t. simp t (omega arith))

-- a byte put elsewhere
pub byte_back_other : (s : List ℕ) (k b i : ℕ) → (length s - 1 - i ≡ k → ⊥) → byte_back (set s k b) i ≡ byte_back s i
unfolding byte_back
byte_back_other s k b i h = simp (length-set, get_or-set_other s k (length s - 1 - i) b 0 h)

-- a byte put there
pub byte_back-set : (s : List ℕ) (i b : ℕ) → i < length s → byte_back (set s (length s - 1 - i) b) i ≡ b
unfolding byte_back
byte_back-set s i b h = simp (length-set, lt-ltb _ _ h, get_or-set_same s (length s - 1 - i) b 0 (omega arith))

-- ---- many

-- n bytes from the i-th on, and then t
unfoldable pub back_with : List ℕ → ℕ → ℕ → ℕ → ℕ
back_with s i zero t = t
back_with s i (suc n) t = byte_back s i + 256 * back_with s (suc i) n t

-- all bytes from the i-th on
unfoldable pub back_from : List ℕ → ℕ → ℕ
back_from s i = back_with s i (length s - i) 0

-- the last byte apart
pub back_with_last : (s : List ℕ) (i n t : ℕ) → back_with s i (suc n) t ≡ back_with s i n (byte_back s (i + n) + 256 * t)
unfolding back_with
back_with_last s i zero t = let e : i + 0 ≡ i = omega arith in rw e
back_with_last s i (suc n) t =
    let e : suc i + n ≡ i + suc n = omega arith in
    ap (λ (x : ℕ). byte_back s i + 256 * x) (back_with_last s (suc i) n t ∙ ap (λ (j : ℕ). back_with s (suc i) n (byte_back s j + 256 * t)) e)

-- bytes that agree there
pub back_with_same : (s t : List ℕ) (i n x : ℕ) → ((j : ℕ) → j < i + n → byte_back s j ≡ byte_back t j) → back_with s i n x ≡ back_with t i n x
unfolding back_with
back_with_same s t i zero x h = refl
back_with_same s t i (suc n) x h =
    let a = h i (omega arith) in
    let b = back_with_same s t (suc i) n x (λ j l. h j (omega arith)) in
    omega arith

-- the first byte apart
pub back_from_step : (s : List ℕ) (i : ℕ) → i < length s → back_from s i ≡ byte_back s i + 256 * back_from s (suc i)
unfolding back_from back_with
back_from_step s i h = let e : length s - i ≡ suc (length s - suc i) = omega arith in rw e

-- past the start there are zeros
pub back_from_end : (s : List ℕ) (i : ℕ) → length s ≤ i → back_from s i ≡ 0
unfolding back_from back_with
back_from_end s i h = let e : length s - i ≡ 0 = omega arith in rw e

-- the first e bytes apart
pub back_from_split : (s : List ℕ) (e i : ℕ) → i + e ≤ length s → back_from s i ≡ back_with s i e (back_from s (i + e))
unfolding back_with
back_from_split s zero i h = let z : i + 0 ≡ i = omega arith in rw z
back_from_split s (suc e) i h =
    let z : suc i + e ≡ i + suc e = omega arith in
    back_from_step s i (omega arith)
    ∙ ap (λ (x : ℕ). byte_back s i + 256 * x) (back_from_split s e (suc i) (omega arith) ∙ ap (λ (j : ℕ). back_with s (suc i) e (back_from s j)) z)
