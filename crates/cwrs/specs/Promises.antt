-- What is promised of pulse words beside the calls' contracts: a vector and its number give each other back.
use Rattle.std.specs.Prelude.{ℕ, ◌<◌, ◌≡◌, List, ℤ, length}
use Rattle.cwrs_counts.specs.Count.{Vn}
use Rattle.cwrs.specs.Word.{pulses, index, word}

-- v has n places and k pulses, and i is its number
pub record Numbered (n k i : ℕ) (v : List ℤ) : Type 0 where
  pub long : length v ≡ n
  pub sum : pulses v ≡ k
  pub number : index v ≡ i

-- from a number below V(N,K) to its vector, which has that number
abbrev pub VectorOfNumber : Type 0
VectorOfNumber = (n k i : ℕ) → i < Vn n k → Numbered n k i (word n k i)

-- from a vector to its number, which is below V(N,K) and gives the vector back
abbrev pub NumberOfVector : Type 0
NumberOfVector = (v : List ℤ) → (index v < Vn (length v) (pulses v)) × (word (length v) (pulses v) (index v) ≡ v)

-- so no two vectors of one length and as many pulses have the same number
abbrev pub NumbersApart : Type 0
NumbersApart = (v w : List ℤ) → length v ≡ length w → pulses v ≡ pulses w → index v ≡ index w → v ≡ w
