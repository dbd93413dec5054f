-- How large the figures get inside document 01's domain: what the code needs so that nothing overflows. Assumes nothing.
use Prim.Native.Nat.{ℕ, suc, ◌+◌, ◌-◌, ◌≤◌, ◌<◌}
use mathlib.Core.Bool.{Bool, cond}
use mathlib.Core.Path.{◌≡◌}
use native.Mathlib.Nat.{mul-le-mul}
use native.Mathlib.Omega.{arith}
use lib.Dec.{leb, eqb}
use lib.Pow.{pow_mono}
use Rattle.laws.proofs.Tests.{cond-le}
use Rattle.laws.proofs.Sums.{sum_append, sum-last}
use Rattle.laws.specs.Places.{sum_of}
use Rattle.modes.proofs.VectorRule.{step-most}
use Rattle.modes.proofs.EdgeRule.{width-most}
use Rattle.rate_spec.specs.Types.{AllocIn}
use Rattle.rate_spec.specs.Domain.{AllocInOk}
use Rattle.rate_spec.specs.Skips.{Round, dropped}
use Rattle.rate_spec.specs.Alloc.{carried, spread}
use Rattle.rate_spec.specs.Vectors.{upper_bits, lower_bits, slope, trim_up, trimmed, vector_bits}
use Rattle.rate_spec.proofs.Rounds.{Sound, drop-holds, holds}
use Rattle.rate_spec.proofs.Bands.{split-sum, spread-sum}

module _ (a : AllocIn) (o : AllocInOk a) where
  -- a step of the trim
  pub slope-le : (j : ℕ) → slope a j ≤ 56320
  unfolding slope
  slope-le j =
      mul-le-mul {n₂ = 880} {m₂ = 64} (mul-le-mul {n₂ = 44} {m₂ = 20} (mul-le-mul {n₂ = 2} {m₂ = 22} o.C_le (width-most j)) (omega (arith, o.end-le)))
      (pow_mono {j = 6} (omega (arith, o.LM-le)))

  -- five steps upwards
  pub up_le : (j : ℕ) → trim_up a j ≤ 4400
  unfolding trim_up
  up_le j = omega (arith, mul-le-mul {m₁ = a.trim - (5 + a.LM)} {n₂ = 56320} {m₂ = 5} (slope-le j) (omega (arith, o.trim-le)))

  -- the trim adds no more than that
  pub trimmed-le : (x j : ℕ) → trimmed a x j ≤ x + 4400
  unfolding trimmed
  trimmed-le x j = cond-le (eqb x 0) (λ e. omega arith) (λ e. omega (arith, up_le j))

  -- a vector's bits before the trim
  pub vector-le : (v j : ℕ) → vector_bits a v j ≤ 17600
  unfolding vector_bits
  vector-le v j =
      omega (
        arith,
        mul-le-mul {n₂ = 8800} {m₂ = 8} (mul-le-mul {n₂ = 44} {m₂ = 200} (mul-le-mul {n₂ = 2} {m₂ = 22} o.C_le (width-most j)) (step-most v j))
            (pow_mono {j = 3} o.LM-le),
      )

  -- as the lower one of two
  pub low-le : (v j : ℕ) → lower_bits a v j ≤ 103600
  unfolding lower_bits
  low-le v j =
      omega (
        arith,
        trimmed-le (vector_bits a v j) j,
        vector-le v j,
        cond-le (eqb v 0) {x = 0} {y = a.offset j} {m = 81600} (λ e. omega arith)
            (λ e. o.offset-le j),
      )

  -- as the upper one of two
  pub high_le : (v j : ℕ) → upper_bits a v j ≤ 118767
  unfolding upper_bits
  high_le v j =
      omega (
        arith,
        trimmed-le (cond (leb 11 v) (a.cap j) (vector_bits a v j)) j,
        o.offset-le j,
        cond-le (leb 11 v) {x = a.cap j} {y = vector_bits a v j} {m = 32767} (λ e. o.cap-le j) (λ e. omega (arith, vector-le v j)),
      )

-- a round holds no more than the one before it
module _ (a : AllocIn) (bits : ℕ → ℕ) (n : ℕ) (r : Round) (s : Sound a (suc n) r) where
  -- since nothing but the flag leaves it
  pub drop_less : holds a bits (dropped a bits r) ≤ holds a bits r
  drop_less = omega (arith, drop-holds a bits n r s)

-- what a coded band splits, with the balance that reaches it, is part of what the bands have
module _ (a : AllocIn) (h : 1 ≤ a.C) (bits : ℕ → ℕ) (coded left intensity : ℕ) (dual : Bool) (low : a.start < coded) (high : coded ≤ 21) where
  -- with the balance of the n bands below it
  pub split-le : (n : ℕ) → a.start + n < coded
      → spread a bits coded left (a.start + n) + carried a bits coded left intensity dual n ≤ sum_of bits a.start (coded - a.start) + left
  split-le n g =
      let f = spread a bits coded left in
      let e : coded - a.start ≡ suc n + (coded - a.start - suc n) = omega arith in
      omega (
        arith,
        spread-sum a bits coded left intensity dual low high,
        split-sum a h bits coded left intensity dual n,
        sum-last f n a.start,
        rw (← e) at (sum_append f (suc n) (coded - a.start - suc n) a.start),
      )
