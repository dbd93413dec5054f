-- What the two searches of Trials find, as statements; their proofs are in proofs/Highest.antt and proofs/Rising.antt.
use Rattle.std.specs.Prelude.{ℕ, suc, ◌+◌, ◌^◌, ◌≤◌, ◌<◌, Bool, true, false, ◌⊎◌, ◌≡◌}
use Rattle.rate_spec.specs.Types.{AllocIn}
use Rattle.rate_spec.specs.Caps.{cap_of}
use Rattle.rate_spec.specs.Domain.{AllocInOk}
use Rattle.rate_spec.specs.Reserves.{alloc_floor}
use Rattle.rate_spec.specs.Trials.{halve, over, sixtyfourths, vector}
use Rattle.rate_spec.specs.Vectors.{interpolated, lower_bits}

-- where halving between lo and hi ends: at lo or at a figure that is within, and the next above it is hi or is over
pub record EndsAt (over : ℕ → Bool) (lo hi found : ℕ) : Type 0 where
  pub lo-le : lo ≤ found
  pub lt-hi : found < hi
  pub within : (found ≡ lo) ⊎ (over found ≡ false)
  pub next : (suc found ≡ hi) ⊎ (over (suc found) ≡ true)

-- of the figures below hi the highest that is within
pub record Highest (over : ℕ → Bool) (hi found : ℕ) : Type 0 where
  pub lt-hi : found < hi
  pub within : over found ≡ false
  pub highest : (f : ℕ) → f < hi → over f ≡ false → f ≤ found

-- whatever is over: n trials are enough where lo and hi are no more than 2^n apart
abbrev pub HalvingEnds : Type 0
HalvingEnds = (over : ℕ → Bool) (n lo hi : ℕ) → lo < hi → hi ≤ lo + 2 ^ n → EndsAt over lo hi (halve over n lo hi).0

module _ (a : AllocIn) where
  -- vector v is over the budget
  abbrev pub over_vector : ℕ → Bool
  over_vector v = over a (lower_bits a v)

  -- q 64ths of the way from vector v to the next are over the budget
  abbrev pub over_between : ℕ → ℕ → Bool
  over_between v q = over a (interpolated a v q)

  -- the vector that is found is within the budget, and the next is over it, or there is none: there are 11
  abbrev pub VectorEnds : Type 0
  VectorEnds = AllocInOk a → EndsAt over_vector 0 11 (vector a).0 × (over_vector (vector a).0 ≡ false)

  -- from a vector within the budget, the 64ths that are found are within it, and one more is over it, or is the 64th, which is not tried
  abbrev pub SixtyfourthsEnd : Type 0
  SixtyfourthsEnd =
      (v : ℕ) → over_vector v ≡ false → EndsAt (over_between v) 0 64 (sixtyfourths a v) × (over_between v (sixtyfourths a v) ≡ false)

  -- no band's cap is below the floor
  abbrev pub CapsHaveFloor : Type 0
  CapsHaveFloor = (j : ℕ) → a.start ≤ j → j < a.end → alloc_floor a ≤ a.cap j

  -- then what is over stays over further up: the vector is the highest within the budget
  abbrev pub VectorHighest : Type 0
  VectorHighest = AllocInOk a → CapsHaveFloor → Highest over_vector 11 (vector a).0

  -- and so is the number of 64ths, of 0..63
  abbrev pub SixtyfourthsHighest : Type 0
  SixtyfourthsHighest = CapsHaveFloor → (v : ℕ) → over_vector v ≡ false → Highest (over_between v) 64 (sixtyfourths a v)

-- the caps that a decoder allocates with are such
abbrev pub DecoderCapsHaveFloor : Type 0
DecoderCapsHaveFloor = (a : AllocIn) → AllocInOk a → ((j : ℕ) → a.start ≤ j → j < a.end → a.cap j ≡ cap_of a.C a.LM j) → CapsHaveFloor a

-- an allocation with caps below the floor: band 20 alone, two channels, total 10 and caps of 0
abbrev pub no_caps : AllocIn
no_caps = record { C = 2; LM = 3; start = 20; end = 21; trim = 5; total = 10; offset = λ j. 0; cap = λ j. 0 }

-- there vector 4 is found, and vector 10 is within the budget too
abbrev pub NotHighest : Type 0
NotHighest = ((vector no_caps).0 ≡ 4) × (over_vector no_caps 10 ≡ false)
