-- The coarse energies of a frame, RFC 6716, section 4.3.2.1 (unquant_coarse_energy). 42 energies: those of channel 0 from place 0, those of
-- channel 1 from place 21.
use Rattle.std.specs.Prelude.{ℕ, ◌+◌, ◌-◌, min, List, Bool, false, cond, leb, pos, get_or, set, Float}
use Rattle.std.specs.Float.{nan, fin, binary32}
use Rattle.std.specs.Float.Ieee.{of_int}
use Rattle.laws.specs.Places.{over_places}
use Rattle.modes.specs.EnergyModel.{zero_at, decay_at, pair_index}
use Rattle.modes.specs.Prediction.{coef_of, beta_of}
use Rattle.entdec.specs.declared.Reader.{Reader}
use Rattle.laplace.specs.Coded.{LapSym}
use Rattle.quant_bands.specs.declared.coarse_band.Kind.{Kind}
use Rattle.quant_bands.specs.Steps.{read_step}
use Rattle.quant_bands.specs.Prediction.{predicted, handed_on}

-- energies, and the reader beside them: what a call leaves
pub record EnergiesAfter : Type 0 where
  pub energies : List Float
  pub next : Reader

-- made of its two parts
abbrev pub energies_after : List Float → Reader → EnergiesAfter
energies_after es d = record { energies = es; next = d }

-- from band to band: the energies, what channel 0 and channel 1 hand on, and the reader
pub record CoarseState : Type 0 where
  pub energies : List Float
  pub first : Float
  pub second : Float
  pub next : Reader

-- made of its four parts
abbrev pub coarse_state : List Float → Float → Float → Reader → CoarseState
coarse_state es first second d = record { energies = es; first = first; second = second; next = d }

-- what a band is decoded with: its pair of the coarse-energy model and the two shares of the prediction. The model has 21 bands
unfoldable pub kind_of : ℕ → Bool → ℕ → Kind
kind_of lm intra band =
    record {
      zero = zero_at (pair_index lm intra (min band 20));
      decay = decay_at (pair_index lm intra (min band 20));
      coef = coef_of intra lm;
      beta = beta_of intra lm;
    }

-- ---- one energy

-- the energies after one step, what the channel hands on to the next band, and the reader
pub record CoarseStep : Type 0 where
  pub energies : List Float
  pub hands : Float
  pub next : Reader

-- made of its three parts
abbrev pub coarse_step : List Float → Float → Reader → CoarseStep
coarse_step es hands d = record { energies = es; hands = hands; next = d }

-- the energy at place k, whose channel inherits prev, takes the step y
abbrev pub step_to : Kind → ℕ → Float → LapSym → List Float → CoarseStep
step_to m k prev y es =
    coarse_step (set es k (predicted m.coef (get_or es k nan) prev (of_int binary32 y.value))) (handed_on m.beta prev (of_int binary32 y.value))
    y.next

-- the step is read
unfoldable pub energy_at : Kind → List ℕ → ℕ → Float → Reader → List Float → CoarseStep
energy_at m s k prev d es = step_to m k prev (read_step m.zero m.decay s d) es

-- ---- a band

-- channel 0 of band i
abbrev pub first_at : Kind → List ℕ → ℕ → CoarseState → CoarseState
first_at m s i g = let y = energy_at m s i g.first g.next g.energies in coarse_state y.energies y.hands g.second y.next

-- channel 1 of band i
abbrev pub second_at : Kind → List ℕ → ℕ → CoarseState → CoarseState
second_at m s i g = let y = energy_at m s (i + 21) g.second g.next g.energies in coarse_state y.energies g.first y.hands y.next

-- band i of c channels
unfoldable pub coarse_band : ℕ → ℕ → Bool → List ℕ → ℕ → CoarseState → CoarseState
coarse_band c lm intra s i g =
    cond (leb 2 c) (second_at (kind_of lm intra i) s i (first_at (kind_of lm intra i) s i g)) (first_at (kind_of lm intra i) s i g)

-- ---- a frame

-- at first a channel hands on nothing
abbrev pub coarse_start : Reader → List Float → CoarseState
coarse_start d es = coarse_state es (fin false 0 (pos 0)) (fin false 0 (pos 0)) d

-- the bands start..end-1, one after the other
unfoldable pub coarse : ℕ → ℕ → Bool → ℕ → ℕ → List ℕ → Reader → List Float → EnergiesAfter
coarse c lm intra start end s d es =
    let g = over_places (coarse_band c lm intra s) start (end - start) (coarse_start d es) in energies_after g.energies g.next
