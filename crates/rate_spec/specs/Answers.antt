-- Who answers the questions of an allocation: a decoder, an encoder, or a list of known answers.
use Rattle.std.specs.Prelude.{ℕ, ◌+◌, ◌-◌, ◌*◌, ◌/◌, ◌^◌, min, Bool, false, cond, ◌&&◌, ◌||◌, List, [], ◌∷◌, leb, ltb, ℤ, pos}
use Rattle.std.specs.Int.Signed.{lt_z, le_z}
use Rattle.modes.specs.Edges.{width}
use Rattle.rate_spec.specs.Types.{AllocIn, AllocOut, Ask}
use Rattle.rate_spec.specs.Alloc.{alloc}

-- a decoder reads: `bit` one bit of probability a half, `uniform` one of n values
unfoldable pub decoder_ask : {σ : Type 0} → (σ → Bool × σ) → (ℕ → σ → ℕ × σ) → Ask σ
decoder_ask bit uniform = record { skip = λ coded bits s. bit s; intensity = uniform; dual = bit }

-- An encoder decides, from the band count of the frame before and the signal's bandwidth.
module _ (a : AllocIn) (previous bandwidth : ℤ) where
  -- how deep the top band must be coded to stay (depth_threshold), in 16ths of a bit for each coefficient: 0 up to 17 coded bands (the RFC's source
  -- has 7 or 9 there too, docs/DIFFERENCES.md)
  unfoldable pub depth : ℕ → ℕ
  depth coded = cond (ltb 17 coded) (cond (lt_z (pos (coded - 1)) previous) 7 9) 0

  -- it says stop when two bands are left, and where the top one is within the bandwidth (signalBandwidth) and deep enough; `previous` is prev
  unfoldable pub stops : ℕ → ℕ → Bool
  stops coded bits =
      leb coded (a.start + 2) || ltb (depth coded * width (coded - 1) * 2 ^ a.LM * 8 / 16) bits && le_z (pos (coded - 1)) bandwidth

  -- it writes each answer that it gives, `bit` a flag and `uniform` one of n values; intensity is at most the coded bands
  unfoldable pub encoder_ask : {σ : Type 0} → (Bool → σ → σ) → (ℕ → ℕ → σ → σ) → ℕ → Bool → Ask σ
  encoder_ask bit uniform intensity dual =
      record {
        skip = λ coded bits s. (stops coded bits, bit (stops coded bits) s);
        intensity = λ n s. (min (intensity - a.start) (n - 1), uniform n (min (intensity - a.start) (n - 1)) s);
        dual = λ s. (dual, bit dual s);
      }

-- the next of the flags in a list, and the others; a list that is used up says go on
abbrev pub next_flag : List Bool → Bool × List Bool
next_flag [] = (false, [])
next_flag (f ∷ fs) = (f, fs)

-- the answers are known: the flags in a list, intensity and dual stereo
unfoldable pub flags_ask : AllocIn → ℕ → Bool → Ask (List Bool)
flags_ask a intensity dual = record { skip = λ coded bits s. next_flag s; intensity = λ n s. (intensity - a.start, s); dual = λ s. (dual, s) }

-- the allocation for these flags, this intensity and this dual stereo
unfoldable pub alloc_of_flags : AllocIn → List Bool → ℕ → Bool → AllocOut
alloc_of_flags a flags intensity dual = (alloc a (flags_ask a intensity dual) flags).0
