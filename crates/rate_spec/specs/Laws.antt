-- What holds of every allocation, whoever answers its questions, as statements; their proofs are in proofs/Laws.antt.
use Rattle.std.specs.Prelude.{ℕ, ◌+◌, ◌-◌, ◌*◌, ◌^◌, ◌≤◌, ◌<◌, min, Bool, false, cond, List, [], ◌∷◌, ◌⊎◌, ◌≡◌, length}
use Rattle.modes.specs.Edges.{width}
use Rattle.rate_spec.specs.Alloc.{alloc}
use Rattle.rate_spec.specs.Answers.{alloc_of_flags}
use Rattle.rate_spec.specs.Types.{Ask, Band, AllocIn, AllocOut}
use Rattle.rate_spec.specs.Caps.{cap_of}
use Rattle.rate_spec.specs.Domain.{AllocInOk}
use Rattle.rate_spec.specs.Ledger.{go_ons, price}
use Rattle.rate_spec.specs.Skips.{skip_start}

-- ---- one band

module _ (C : ℕ) where
  -- what a coded band had to split: what it takes and what it hands on
  abbrev pub had : Band → ℕ
  had b = price C b + b.balance

  -- A coded band of more than one coefficient. Of its fine bits `bought` were paid for within the cap: with its pulses they take what it had, up to
  -- the cap, to the last eighth. Above the cap it has only fine bits.
  pub record UpToCap (cap : ℕ) (b : Band) : Type 0 where
    pub bought : ℕ
    pub bought-le : bought ≤ b.fine
    pub whole : b.pulses + 8 * C * bought ≡ min (had b) cap
    -- so its pulses never go over the cap, pulses and fine bits together only where it had more than its cap, and then by no more than 8 fine bits
    pub pulses-le : b.pulses ≤ cap
    pub within : had b ≤ cap → price C b ≤ cap
    pub price-le : price C b ≤ cap + 64 * C

  -- a coded band of one coefficient has a sign for each channel as pulses if it had that much, and its cap does not count
  pub record Signs (b : Band) : Type 0 where
    pub whole : b.pulses ≡ min (had b) (8 * C)
    pub price-le : price C b ≤ 72 * C

-- a skipped band has no pulses; it kept a floor for one fine bit, or has none and comes last when bits are left over
pub record NoPulses (b : Band) : Type 0 where
  pub pulses-none : b.pulses ≡ 0
  pub either : ((b.fine ≡ 1) × (b.prio ≡ 0)) ⊎ ((b.fine ≡ 0) × (b.prio ≡ 1))

-- ---- an allocation

-- what holds of every band
pub record EachBand (a : AllocIn) (o : AllocOut) : Type 0 where
  pub fine_le : (j : ℕ) → (o.band j).fine ≤ 8
  pub prio-le : (j : ℕ) → (o.band j).prio ≤ 1
  pub several_coefficients : (j : ℕ) → j < o.coded → 1 < width j * 2 ^ a.LM → UpToCap a.C (a.cap j) (o.band j)
  pub one_coefficient : (j : ℕ) → j < o.coded → width j * 2 ^ a.LM ≤ 1 → Signs a.C (o.band j)
  pub skipped : (j : ℕ) → o.coded ≤ j → NoPulses (o.band j)

-- whether the last of the flags said stop; where there is none, none did
unfoldable pub last_flag : List Bool → Bool
last_flag [] = false
last_flag (f ∷ []) = f
last_flag (f ∷ g ∷ fs) = last_flag (g ∷ fs)

-- which bands were skipped, and how it ended
pub record Ending (a : AllocIn) (o : AllocOut) : Type 0 where
  -- the highest boosted band and those below it are coded
  pub boosted : skip_start a < o.coded
  -- a round for each skipped band
  pub rounds_are : o.rounds ≡ a.end - o.coded
  -- it stopped exactly where the last flag said so, and no flag before that did
  pub stopped-is : o.stopped ≡ last_flag o.flags
  pub others_go_on : go_ons o.flags + cond o.stopped 1 0 ≡ length o.flags

-- for every question of the domain and whoever answers
abbrev pub EveryAllocation : (AllocIn → AllocOut → Type 0) → Type 1
EveryAllocation Law = (a : AllocIn) → AllocInOk a → (σ : Type 0) (A : Ask σ) (s : σ) → Law a (alloc a A s).0

-- the laws of one band and of how skipping ended, together
abbrev pub Laws : Type 1
Laws = EveryAllocation (λ a o. EachBand a o × Ending a o)

-- ---- over the cap

-- band 0 alone at LM 1: two coefficients, one channel and a decoder's cap
abbrev pub rich : AllocIn
rich = record { C = 1; LM = 1; start = 0; end = 1; trim = 5; total = 150; offset = λ j. 0; cap = cap_of 1 1 }

-- that cap is 112, and pulses and fine bits take 136 together
abbrev pub OverTheCap : Type 0
OverTheCap = let b = (alloc_of_flags rich [] 0 false).band 0 in (rich.cap 0 ≡ 112) × (b.pulses ≡ 72) × (b.fine ≡ 8)
