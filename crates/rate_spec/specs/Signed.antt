-- The two formulas of the RFC's source that can be negative, in ℤ as they stand there, and the statements that the definition, in ℕ, is the same;
-- their proofs are in proofs/SignedForms.antt.
use Rattle.std.specs.Prelude.{ℕ, ◌+◌, ◌*◌, ◌/◌, ◌^◌, cond, ◌≡◌, eqb, ℤ, pos, ◌+ℤ◌, ◌-ℤ◌, ◌*ℤ◌}
use Rattle.std.specs.Int.Signed.{lt_z, le_z, shr_z}
use Rattle.laws.specs.Signs.{clip}
use Rattle.modes.specs.Edges.{width}
use Rattle.rate_spec.specs.Types.{AllocIn}
use Rattle.rate_spec.specs.Reserves.{alloc_floor}
use Rattle.rate_spec.specs.Split.{fine_of, prio_of, wanted}
use Rattle.rate_spec.specs.Vectors.{slope, trimmed}

-- trim_offset: C·N·(end - j - 1)·2^(LM+3)·(trim - 5 - LM) >> 6, less 8C where the band has one coefficient. (`shr_z z 64` is ⌊z / 64⌋.)
unfoldable pub trim_offset : AllocIn → ℕ → ℤ
trim_offset a j =
    shr_z (pos (slope a j) *ℤ (pos a.trim -ℤ pos (5 + a.LM))) 64 -ℤ pos (cond (eqb (width j * 2 ^ a.LM) 1) (alloc_floor a) 0)

module _ (n den lg : ℕ) where
  -- offset: (NClogN >> 1) - den·21, and den·8 >> 2 more for N = 2
  unfoldable pub fine_offset : ℤ
  fine_offset = pos (den * lg / 2) -ℤ pos (21 * den) +ℤ pos (cond (eqb n 2) (2 * den) 0)

  -- bits + offset, where a quarter of NClogN is added below 2 bits and an eighth below 3
  unfoldable pub fine_sum : ℕ → ℤ
  fine_sum b =
      let x = pos b +ℤ fine_offset in
      x +ℤ pos (cond (lt_z x (pos (16 * den))) (den * lg / 4) (cond (lt_z x (pos (24 * den))) (den * lg / 8) 0))

-- ---- theorems

-- a band after the trim has its bits and trim_offset, no less than 0; no bits stay none
abbrev pub TrimmedIs : Type 0
TrimmedIs = (a : AllocIn) (j x : ℕ) → trimmed a x j ≡ cond (eqb x 0) 0 (clip (pos x +ℤ trim_offset a j))

-- the fine bits asked for are those of bits + offset, rounded, and no less than 0
abbrev pub WantedIs : Type 0
WantedIs = (n den lg b : ℕ) → wanted n den lg b ≡ clip (fine_sum n den lg b +ℤ pos (4 * den)) / den / 8

-- the fine bits were rounded up where they are worth bits + offset or more
abbrev pub PrioIs : Type 0
PrioIs = (n den lg b C : ℕ) → prio_of C n den lg b ≡ cond (le_z (fine_sum n den lg b) (pos (8 * den * fine_of C n den lg b))) 1 0
