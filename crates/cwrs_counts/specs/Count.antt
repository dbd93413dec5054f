-- How many pulse vectors there are, by the recurrence of document 01, "Range coder and counts". RFC 6716, section 4.3.4.2.
use Rattle.std.specs.Prelude.{ℕ, zero, suc, ◌+◌, cond, ltb}

-- what the stored table holds (CELT_PVQ_U): `U (n + 1) k` counts the vectors of n places with fewer than k pulses
unfoldable pub U : ℕ → ℕ → ℕ
U zero zero = 1
U zero (suc k) = 0
U (suc n) zero = 0
U (suc n) (suc k) = U n (suc k) + U (suc n) k + U n k

-- V(N,K) (CELT_PVQ_V), how many vectors have n places and k pulses (`V` is a word of antt's own)
unfoldable pub Vn : ℕ → ℕ → ℕ
Vn zero zero = 1
Vn zero (suc k) = 0
Vn (suc n) zero = 1
Vn (suc n) (suc k) = Vn n (suc k) + Vn (suc n) k + Vn n k

-- the same where 32 bits hold it, else 0, which no count of one place or more is
unfoldable pub count32 : ℕ → ℕ → ℕ
count32 n k = cond (ltb (Vn n k) 4294967296) (Vn n k) 0
