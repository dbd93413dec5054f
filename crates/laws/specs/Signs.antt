-- Whole numbers of either sign, as the calls that take i32 read them.
use Rattle.std.specs.Prelude.{ℕ, Bool, cond, ◌&&◌, ℤ, pos, negsuc, neg_ℤ}
use Rattle.std.specs.Int.Signed.{lt_z, le_z}

-- z as a count: max (0, z)
abbrev pub clip : ℤ → ℕ
clip (pos n) = n
clip (negsuc n) = 0

-- lo ≤ z ≤ hi
abbrev pub in_range : ℤ → ℤ → ℤ → Bool
in_range lo hi z = le_z lo z && le_z z hi

-- z is below 0
abbrev pub is_neg : ℤ → Bool
is_neg z = lt_z z (pos 0)

-- the number of this sign and this size
abbrev pub with_sign : Bool → ℕ → ℤ
with_sign neg n = cond neg (neg_ℤ (pos n)) (pos n)
