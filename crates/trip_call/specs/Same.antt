-- What is compared after a trip: what writer and reader tell, values, and allocations.
use Rattle.std.specs.Prelude.{ℕ, Bool, true, false, ◌&&◌, List, [], ◌∷◌, eqb, ℤ}
use Rattle.laws.specs.Signs.{in_range}
use Rattle.entcode.specs.Said.{Said}
use Rattle.entcode.specs.Said.Said.{done, refused}
use Rattle.rate.specs.Allocations.{ReadAllocation, WrittenAllocation}
use Rattle.trip_theorem.specs.Calls.{Symbol, Tells, value_count}

-- as many entries in both lists, each like the other's by `same`
unfoldable pub alike : {A : Type 0} → (A → A → Bool) → List A → List A → Bool
alike same [] [] = true
alike same [] (y ∷ m) = false
alike same (x ∷ l) [] = false
alike same (x ∷ l) (y ∷ m) = same x y && alike same l m

-- ---- how many bits are used

-- two answers of tell or of tell_frac say the same
abbrev pub same_tell : Said ℕ → Said ℕ → Bool
same_tell (done m) (done n) = eqb m n
same_tell (done m) (refused n) = false
same_tell (refused m) (done n) = false
same_tell (refused m) (refused n) = eqb m n

-- both of tell and of tell_frac
abbrev pub same_tells : Tells → Tells → Bool
same_tells a b = same_tell a.bits b.bits && same_tell a.eighths b.eighths

-- ---- values

-- the values of two symbols of one kind, by their counts
abbrev pub same_value : Symbol → Symbol → Bool
same_value y z = eqb (value_count y.kind y.value) (value_count z.kind z.value)

-- ---- allocations

-- the same whole number
abbrev pub same_int : ℤ → ℤ → Bool
same_int x y = in_range y y x

-- coded bands, balance, intensity and dual stereo
abbrev pub same_numbers : WrittenAllocation → ReadAllocation → Bool
same_numbers y x =
    same_int x.coded y.coded && same_int x.balance y.balance && same_int x.intensity y.intensity && same_int x.dual y.dual

-- the same entries
abbrev pub same_ints : List ℤ → List ℤ → Bool
same_ints x y = alike same_int x y
