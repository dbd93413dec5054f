-- What is promised of the energies beside the calls' contracts, of refused calls too.
use Rattle.std.specs.Prelude.{ℕ, ◌+◌, ◌≤◌, ◌<◌, ◌≡◌, Bool, true, List, eqb, ℤ, length, get_or, Float}
use Rattle.std.specs.Float.{fin, nan, binary32}
use Rattle.std.specs.Float.Ieee.{fits, minus}
use Rattle.laws.specs.Lists.{every}
use Rattle.laws.specs.Signs.{clip}
use Rattle.entdec.specs.declared.Reader.{Reader}
use Rattle.quant_bands.specs.Finalise.{offset_of}
use Rattle.quant_bands.specs.Question.{energies_ok}
use Rattle.quant_bands.specs.Answer.{coarse_reading, finalise_reading}

-- ---- what a call leaves alone

-- place k is neither that of a band start..end-1 in channel 0 nor, with two channels, that of one in channel 1
abbrev pub Outside : ℕ → ℕ → ℕ → ℕ → Type 0
Outside c start end k = (i : ℕ) → start ≤ i → i < end → (k ≡ i → ⊥) × (2 ≤ c → k ≡ i + 21 → ⊥)

-- of two lists of energies: as long, and the same at place k
pub record Stays (k : ℕ) (es fs : List Float) : Type 0 where
  pub long : length fs ≡ length es
  pub same : get_or fs k nan ≡ get_or es k nan

-- a coarse decode leaves the places outside its bands and channels alone
abbrev pub CoarseOutsideStays : Type 0
CoarseOutsideStays =
    (c lm start end intra : ℤ) (s : List ℕ) (d : Reader) (es : List Float) (k : ℕ) → Outside (clip c) (clip start) (clip end) k
    → Stays k es (coarse_reading c lm start end intra s d es).energies

-- so do the last bits
abbrev pub FinaliseOutsideStays : Type 0
FinaliseOutsideStays =
    (c start end : ℤ) (fine priorities : List ℤ) (left : ℤ) (s : List ℕ) (d : Reader) (es : List Float) (k : ℕ)
    → Outside (clip c) (clip start) (clip end) k → Stays k es (finalise_reading c start end fine priorities left s d es).energies

-- ---- finite energies stay finite, whatever the packet holds

-- after a coarse decode
abbrev pub CoarseStaysFinite : Type 0
CoarseStaysFinite =
    (c lm start end intra : ℤ) (s : List ℕ) (d : Reader) (es : List Float) → every (fits binary32) es ≡ true → energies_ok es ≡ true
    → energies_ok (coarse_reading c lm start end intra s d es).energies ≡ true

-- and after the last bits
abbrev pub FinaliseStaysFinite : Type 0
FinaliseStaysFinite =
    (c start end : ℤ) (fine priorities : List ℤ) (left : ℤ) (s : List ℕ) (d : Reader) (es : List Float) → every (fits binary32) es ≡ true
    → energies_ok es ≡ true → energies_ok (finalise_reading c start end fine priorities left s d es).energies ≡ true

-- ---- what a last bit adds

-- 2^-k, or its negative
abbrev pub power : Bool → ℕ → Float
power neg k = fin neg 1 (minus 0 k)

-- 2^-(fine + 2) exactly, or its negative where the bit is 0
abbrev pub LastBitExact : Type 0
LastBitExact = (bit fine : ℕ) → bit < 2 → fine < 8 → offset_of bit fine ≡ power (eqb bit 0) (fine + 2)
