-- What is promised of Laplace values beside the calls' contracts: for each pair of the coarse-energy model the 32,768 places are shared out among the
-- values, none twice.
use Rattle.std.specs.Prelude.{ℕ, ◌≤◌, ◌<◌, ◌≡◌, true, ℤ}
use Rattle.laplace.specs.Chain.{locate}
use Rattle.laplace.specs.Signed.{in_domain, value_in, span_z, adjusted}
use Rattle.laplace.specs.Pairs.{pair_known}

-- the value z has the place fm: it is written as itself, and fm is one of its places
pub record HasPlace (fs dec fm : ℕ) (z : ℤ) : Type 0 where
  pub itself : adjusted z fs dec ≡ z
  pub from : (span_z z fs dec).fl ≤ fm
  pub to : fm < (span_z z fs dec).fh

-- every one of the 32,768 places belongs to exactly one value, and that value is in the domain
abbrev pub EachPlaceOnce : Type 0
EachPlaceOnce =
    (fs dec : ℕ) → pair_known fs dec ≡ true → (fm : ℕ) → fm < 32768
    → let y = value_in (locate fm fs dec) in HasPlace fs dec fm y × (in_domain y ≡ true) × ((z : ℤ) → HasPlace fs dec fm z → z ≡ y)

-- every whole number is written as a value of the domain
abbrev pub WrittenInDomain : Type 0
WrittenInDomain = (fs dec : ℕ) → pair_known fs dec ≡ true → (z : ℤ) → in_domain (adjusted z fs dec) ≡ true

-- and what a writer codes a reader finds, at whichever of its places it looks; there is one, and all are below 32,768
abbrev pub WrittenIsFound : Type 0
WrittenIsFound =
    (fs dec : ℕ) → pair_known fs dec ≡ true → (z : ℤ)
    → ((span_z z fs dec).fl < (span_z z fs dec).fh) × ((span_z z fs dec).fh ≤ 32768)
    × ((fm : ℕ) → (span_z z fs dec).fl ≤ fm → fm < (span_z z fs dec).fh → value_in (locate fm fs dec) ≡ adjusted z fs dec)
