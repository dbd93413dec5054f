-- Bands are skipped from the top, each for a flag where it could have been coded: the skip loop of interp_bits2pulses. `bits` is what each band has
-- before.
use Rattle.std.specs.Prelude.{ℕ, zero, suc, ◌+◌, ◌-◌, ◌*◌, ◌/◌, ◌%◌, max, Bool, true, false, cond, List, [], ◌∷◌, leb, eqb}
use Rattle.modes.specs.Edges.{edge, width}
use Rattle.modes.specs.Fractions.{fraction}
use Rattle.rate_spec.specs.Types.{AllocIn, Ask}
use Rattle.rate_spec.specs.Reserves.{alloc_floor}
use Rattle.rate_spec.specs.Vectors.{threshold}
use Rattle.rate_spec.specs.Trials.{floored}

-- Before a round: the bands below `coded` are still coded (codedBands); the bits that no band has (left); what is reserved for intensity
-- (intensity_rsv); and what each dropped band kept, the lowest first.
pub record Round : Type 0 where
  pub coded : ℕ
  pub left : ℕ
  pub reserve : ℕ
  pub kept : List ℕ

-- After skipping: the round that it ended before, the flags in the order coded, and whether the last of them said stop.
pub record Skipped : Type 0 where
  pub last : Round
  pub flags : List Bool
  pub stopped : Bool

module _ (a : AllocIn) where
  -- the highest boosted band of the first n, else the first band
  unfoldable pub last_boost : ℕ → ℕ
  last_boost zero = a.start
  last_boost (suc n) = cond (eqb (a.offset (a.start + n)) 0) (last_boost n) (a.start + n)

  -- neither this band nor one below it is skipped (skip_start)
  unfoldable pub skip_start : ℕ
  skip_start = last_boost (a.end - a.start)

  -- how many coefficients the bands start..j-1 have, at LM 0
  unfoldable pub width_up_to : ℕ → ℕ
  width_up_to j = edge j - edge a.start

  -- with one band less the intensity parameter has one value less, and its reservation is the smaller one of the table
  unfoldable pub reserve_next : Round → ℕ
  reserve_next r = cond (eqb r.reserve 0) 0 (fraction (r.coded - 1 - a.start))

module _ (a : AllocIn) (bits : ℕ → ℕ) where
  -- the top band's bits, with its part if what is left were spread evenly now (band_bits; percoeff for each coefficient, rem left over)
  unfoldable pub top_bits : Round → ℕ
  top_bits r =
      let j = r.coded - 1 in
      let w = width_up_to a r.coded in
      bits j + r.left / w * width j + (r.left % w - width_up_to a j)

  -- the top band could be coded after a flag was paid for: only then a flag says whether it is
  unfoldable pub asks : Round → Bool
  asks r = leb (max (threshold a (r.coded - 1)) (alloc_floor a + 8)) (top_bits r)

  -- the flag that says go on, if there is one, is paid for by the band that is dropped
  unfoldable pub paid : Round → ℕ
  paid r = cond (asks r) 8 0

  -- the band that is dropped keeps a floor for its fine energy if it has one
  unfoldable pub keep : Round → ℕ
  keep r = floored a (top_bits r - paid r)

  -- the round after the top band was dropped: its bits, and what the intensity parameter costs less, are left for the others
  unfoldable pub dropped : Round → Round
  dropped r =
      record {
        coded = r.coded - 1;
        left = r.left + bits (r.coded - 1) + (r.reserve - reserve_next a r) - paid r - keep r;
        reserve = reserve_next a r;
        kept = keep r ∷ r.kept;
      }

  module _ {σ : Type 0} (ask : Ask σ) where
    -- what a round's flag says; without one, go on
    unfoldable pub flag_of : Round → σ → Bool × σ
    flag_of r s = cond (asks r) (ask.skip r.coded (top_bits r) s) (false, s)

    -- rounds until a flag says stop, or n bands are dropped
    unfoldable pub skip : ℕ → Round → σ → Skipped × σ
    skip zero r s = (record { last = r; flags = []; stopped = false }, s)
    skip (suc n) r s =
        let (stop, t) = flag_of r s in
        let (rest, u) = skip n (dropped r) t in
        cond stop (record { last = r; flags = true ∷ []; stopped = true }, t)
        (record { last = rest.last; flags = cond (asks r) (false ∷ rest.flags) rest.flags; stopped = rest.stopped }, u)
