-- What an allocation may be asked: document 01, "Domain in numbers". Bands outside 0..20 have no boost and no cap.
use Rattle.std.specs.Prelude.{ℕ, ◌≤◌, ◌<◌}
use Rattle.rate_spec.specs.Types.{AllocIn}

-- the domain of an allocation
pub record AllocInOk (a : AllocIn) : Type 0 where
  pub C_low : 1 ≤ a.C
  pub C_le : a.C ≤ 2
  pub LM-le : a.LM ≤ 3
  pub start-lt : a.start < a.end
  pub end-le : a.end ≤ 21
  pub trim-le : a.trim ≤ 10
  pub total-le : a.total ≤ 81600
  pub offset-le : (j : ℕ) → a.offset j ≤ 81600
  pub cap-le : (j : ℕ) → a.cap j ≤ 32767
