-- What an allocation is asked and what it answers. Every figure is in eighth bits, as in rate.rs.
use Rattle.std.specs.Prelude.{ℕ, Bool, List}

-- The question: C channels; frames of 2^LM short blocks; the bands start..end-1; the trim (alloc_trim), 0..10, usually 5; the frame's bits, where a
-- negative number is read as 0; each band's boost (offsets) and cap.
pub record AllocIn : Type 0 where
  pub C : ℕ
  pub LM : ℕ
  pub start : ℕ
  pub end : ℕ
  pub trim : ℕ
  pub total : ℕ
  pub offset : ℕ → ℕ
  pub cap : ℕ → ℕ

-- What a band gets: pulses in eighth bits (pulses), and fine energy in bits a channel (ebits); whether its fine energy comes last, 1, when bits are
-- left over (fine_priority); and what it hands to the next band (balance).
pub record Band : Type 0 where
  pub pulses : ℕ
  pub fine : ℕ
  pub prio : ℕ
  pub balance : ℕ

-- The answer: the bands below `coded` are coded (codedBands); each band's part; what the last coded band hands on (balance); the first band whose
-- channels are coded as one (intensity); and whether the bands below it have separate channels (dual_stereo). Then how it came about: the skip flags
-- in the order coded (true says stop), whether one said stop, how many rounds dropped a band, how many vectors were tried, what is still reserved
-- for intensity, and which of the two stereo symbols were coded.
pub record AllocOut : Type 0 where
  pub coded : ℕ
  pub band : ℕ → Band
  pub balance : ℕ
  pub intensity : ℕ
  pub dual : Bool
  pub flags : List Bool
  pub stopped : Bool
  pub rounds : ℕ
  pub trials : ℕ
  pub reserve : ℕ
  pub intensity_coded : Bool
  pub dual_coded : Bool

-- Who answers the three questions of an allocation, from a state σ, and the state after each: a decoder reads, an encoder decides and writes.
-- `skip` (true says stop) is asked with how many bands are coded and what the top one would get, `intensity` with how many answers there are.
pub record Ask (σ : Type 0) : Type 0 where
  pub skip : ℕ → ℕ → σ → Bool × σ
  pub intensity : ℕ → σ → ℕ × σ
  pub dual : σ → Bool × σ
