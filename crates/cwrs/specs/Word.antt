-- Pulse vectors and their numbers. RFC 6716, sections 4.3.4.2 and 5.3.8.2.
-- The vectors of n places and k pulses stand in this order. By the first place: k, k - 1, .., 1, 0, and then -k, .., -2, -1; and vectors
-- with the same first place in the order of what is left.
use Rattle.std.specs.Prelude.{ℕ, zero, suc, ◌+◌, ◌-◌, ◌*◌, Bool, cond, List, [], ◌∷◌, ℤ, nat_abs, length, leb}
use Rattle.laws.specs.Signs.{is_neg, with_sign}
use Rattle.cwrs_counts.specs.Count.{U}

-- how many pulses a vector has
unfoldable pub pulses : List ℤ → ℕ
pulses [] = 0
pulses (y ∷ ys) = nat_abs y + pulses ys

-- the sum of the squares of a vector's places
unfoldable pub energy : List ℤ → ℕ
energy [] = 0
energy (y ∷ ys) = nat_abs y * nat_abs y + energy ys

-- ---- section 5.3.8.2: from the vector to its number

-- How many vectors stand before this one (icwrs). Before a negative place those with none or a positive one; of the same sign those whose first
-- place leaves fewer pulses; with the same first place those whose rest stands before
unfoldable pub index : List ℤ → ℕ
index [] = 0
index (y ∷ ys) =
    cond (is_neg y) (U (suc (length ys)) (suc (nat_abs y + pulses ys))) 0 + U (suc (length ys)) (pulses ys) + index ys

-- ---- section 4.3.4.2: from the number back to the vector. Of the vectors of n places and k pulses the one with the number i has

-- a negative first place
unfoldable pub head_neg : ℕ → ℕ → ℕ → Bool
head_neg n k i = leb (U n (suc k)) i

-- this number among those of its sign
unfoldable pub sign_index : ℕ → ℕ → ℕ → ℕ
sign_index n k i = cond (head_neg n k i) (i - U n (suc k)) i

-- the greatest j up to k with U n j at most i
unfoldable pub reach : ℕ → ℕ → ℕ → ℕ
reach n zero i = zero
reach n (suc k) i = cond (leb (U n (suc k)) i) (suc k) (reach n k i)

-- so many pulses after its first place
unfoldable pub tail_pulses : ℕ → ℕ → ℕ → ℕ
tail_pulses n k i = reach n k (sign_index n k i)

-- this first place
unfoldable pub head_pulse : ℕ → ℕ → ℕ → ℤ
head_pulse n k i = with_sign (head_neg n k i) (k - tail_pulses n k i)

-- and after it the vector with this number
unfoldable pub tail_index : ℕ → ℕ → ℕ → ℕ
tail_index n k i = sign_index n k i - U n (tail_pulses n k i)

-- so the vector with the number i, of those of n places and k pulses (cwrsi)
unfoldable pub word : ℕ → ℕ → ℕ → List ℤ
word zero k i = []
word (suc n) k i = head_pulse (suc n) k i ∷ word n (tail_pulses (suc n) k i) (tail_index (suc n) k i)
