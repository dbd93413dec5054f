-- What is worked out once for a band and used for every vector, and the lists of it.
use Rattle.std.specs.Prelude.{ℕ, suc, ◌-◌, ◌*◌, ◌^◌, ◌≤◌, ◌<◌, List, ◌≡◌, get_or}
use Rattle.modes.specs.Edges.{width}
use Rattle.rate_spec.specs.Types.{AllocIn}
use Rattle.rate_spec.specs.Vectors.{upper_bits, lower_bits, threshold, trim_down, trim_up}

module _ (a : AllocIn) where
  -- band j's coefficients in all channels: a vector's bits are a quarter of its step for each
  unfoldable pub scale : ℕ → ℕ
  scale j = a.C * width j * 2 ^ a.LM

  -- how much the vector after v has above it for band j; nothing where it has less
  unfoldable pub gap : ℕ → ℕ → ℕ
  gap v j = upper_bits a (suc v) j - lower_bits a v j

  -- these are band j's scale and the two parts of its trim
  pub record Tilt (j s up down : ℕ) : Type 0 where
    pub scale-is : s ≡ scale j
    pub up_is : up ≡ trim_up a j
    pub down_is : down ≡ trim_down a j

  -- the list has h j for each band j
  abbrev pub Holds : (ℕ → ℕ) → List ℕ → Type 0
  Holds h l = (j : ℕ) → a.start ≤ j → j < a.end → get_or l j 0 ≡ h j

  -- the list of thresholds
  abbrev pub Thresholds : List ℕ → Type 0
  Thresholds = Holds (threshold a)

  -- the lists of scales and of both parts of the trim
  pub record Tilts (scales ups downs : List ℕ) : Type 0 where
    pub scales_are : Holds scale scales
    pub ups_are : Holds (trim_up a) ups
    pub downs_are : Holds (trim_down a) downs

  -- the lists of vector v's bits and of what the next has above them
  pub record Neighbours (v : ℕ) (lows gaps : List ℕ) : Type 0 where
    pub lows_are : Holds (lower_bits a v) lows
    pub gaps_are : Holds (gap v) gaps
