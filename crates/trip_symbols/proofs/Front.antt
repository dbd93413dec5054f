-- Bytes from the front as a number, big end first, and bytes appended to such a number. Assumes nothing but that bytes are below 256.
use Prim.Native.Nat.{ℕ, zero, suc, ◌+◌, ◌*◌, ◌/◌, ◌%◌, ◌≤◌, ◌<◌}
use mathlib.Core.Path.{◌≡◌, refl, ap, ◌∙◌}
use mathlib.Core.List.{List, [], ◌∷◌}
use native.Mathlib.Omega.{arith}
use lib.ListN.{length, get_or, set, replicate}
use lib.Seq.{get_or-set_same, get_or-set_other}
use Rattle.laws.specs.Lists.{Bytes}

-- the first m bytes; zero past the end
unfoldable pub code : List ℕ → ℕ → ℕ
code s zero = 0
code s (suc m) = code s m * 256 + get_or s m 0

-- what a reader that has taken m + 1 bytes has seen: all but the last bit
unfoldable pub seen : List ℕ → ℕ → ℕ
seen s m = code s (suc m) / 2

-- bytes that agree there
pub code_same : (s t : List ℕ) (m : ℕ) → ((i : ℕ) → i < m → get_or s i 0 ≡ get_or t i 0) → code s m ≡ code t m
unfolding code
code_same s t zero h = refl
code_same s t (suc m) h =
    let a = code_same s t m (λ i l. h i (omega arith)) in
    let b = h m (omega arith) in
    omega arith

-- a byte put behind the first m
pub code_set : (s : List ℕ) (i b m : ℕ) → m ≤ i → code (set s i b) m ≡ code s m
code_set s i b m h = code_same (set s i b) s m (λ j l. get_or-set_other s i j b 0 (λ e. omega arith))

-- a byte put right behind the first i
pub code_put : (s : List ℕ) (i b : ℕ) → i < length s → code (set s i b) (suc i) ≡ code s i * 256 + b
unfolding code
code_put s i b h = omega (arith, code_set s i b i (omega arith), get_or-set_same s i b 0 h)

-- one more byte is eight more bits
pub seen_next : (s : List ℕ) (m : ℕ) → seen s (suc m) ≡ seen s m * 256 + (get_or s m 0 % 2 * 128 + get_or s (suc m) 0 / 2)
unfolding seen code
seen_next s m = omega arith

-- those are eight bits
pub next-lt : (s : List ℕ) (m : ℕ) → Bytes s → get_or s m 0 % 2 * 128 + get_or s (suc m) 0 / 2 < 256
next-lt s m b = omega (arith, b (suc m))

-- 31 bits more than the first m bytes
pub seen_three : (s : List ℕ) (m : ℕ) → Bytes s
    → (code s m * 2147483648 ≤ seen s (suc (suc (suc m)))) × (seen s (suc (suc (suc m))) < (code s m + 1) * 2147483648)
unfolding seen code
seen_three s m b = (omega arith, omega (arith, b m, b (suc m), b (suc (suc m)), b (suc (suc (suc m)))))

-- ---- bytes appended

-- a number and then some bytes
unfoldable pub horner : ℕ → List ℕ → ℕ
horner a [] = a
horner a (d ∷ ds) = horner (a * 256 + d) ds

-- a number and then n bytes 255
unfoldable pub ones : ℕ → ℕ → ℕ
ones a zero = a
ones a (suc n) = ones a n * 256 + 255

-- the first of n + 1 bytes 255
ones_first : (a n : ℕ) → ones (a * 256 + 255) n ≡ ones a n * 256 + 255
unfolding ones
ones_first a zero = refl
ones_first a (suc n) = omega (arith, ones_first a n)

-- bytes 255, appended one by one
pub horner_ones : (n a : ℕ) → horner a (replicate n 255) ≡ ones a n
unfolding horner ones
horner_ones zero a = refl
horner_ones (suc n) a = horner_ones n (a * 256 + 255) ∙ ones_first a n

-- a carry runs through: 1 more, and zeros in the place of the 255s
pub horner_carry : (n a : ℕ) → horner (a + 1) (replicate n 0) ≡ ones a n + 1
unfolding horner ones
horner_carry zero a = refl
horner_carry (suc n) a =
    let e : (a + 1) * 256 + 0 ≡ a * 256 + 255 + 1 = omega arith in
    ap (λ (x : ℕ). horner x (replicate n 0)) e ∙ horner_carry n (a * 256 + 255) ∙ ap (λ (x : ℕ). x + 1) (ones_first a n)
