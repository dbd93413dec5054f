-- The whole allocation, clt_compute_allocation: bits by vector and 64ths, skipping, the two stereo questions, what is left spread evenly, and each
-- band split.
use Rattle.std.specs.Prelude.{ℕ, zero, suc, ◌+◌, ◌-◌, ◌*◌, ◌/◌, ◌%◌, ◌^◌, min, Bool, false, cond, not, ◌&&◌, List, [], ltb, eqb, get_or, length}
use Rattle.laws.specs.Places.{sum_of}
use Rattle.modes.specs.Edges.{width}
use Rattle.modes.specs.LogWidths.{log_width}
use Rattle.rate_spec.specs.Types.{AllocIn, Band, AllocOut, Ask}
use Rattle.rate_spec.specs.Reserves.{alloc_floor, skip_reserve, intensity_reserve, dual_reserve, budget}
use Rattle.rate_spec.specs.Trials.{vector, bits_of}
use Rattle.rate_spec.specs.Skips.{Round, Skipped, skip_start, width_up_to, skip}
use Rattle.rate_spec.specs.Split.{split_of}

module _ (a : AllocIn) where
  -- a skipped band has no pulses, and what it kept is for fine energy
  unfoldable pub skipped : ℕ → Band
  skipped kept = record { pulses = 0; fine = kept / alloc_floor a; prio = cond (ltb (kept / alloc_floor a) 1) 1 0; balance = 0 }

  -- band j's degrees of freedom (den): two channels of more than two coefficients have one parameter more, unless they are coded as one or separately
  unfoldable pub degrees : ℕ → Bool → ℕ → ℕ
  degrees intensity dual j =
      let n = width j * 2 ^ a.LM in
      a.C * n + cond (eqb a.C 2 && ltb 2 n && not dual && ltb j intensity) 1 0

module _ (a : AllocIn) (bits : ℕ → ℕ) (coded left : ℕ) where
  -- band j's bits with its part of what is left: the same for each coefficient of the coded bands (percoeff), the remainder one by one from below
  unfoldable pub spread : ℕ → ℕ
  spread j =
      let w = width_up_to a coded in
      bits j + left / w * width j + min (left % w - width_up_to a j) (width j)

  module _ (intensity : ℕ) (dual : Bool) where
    -- the coded band j, where the band below handed on `balance`
    unfoldable pub split_band : ℕ → ℕ → Band
    split_band j balance =
        split_of a.C (width j * 2 ^ a.LM) (degrees a intensity dual j) (log_width j + 8 * a.LM) (a.cap j) (spread j + balance) balance

    -- the balance that reaches the band n above the first (balance)
    unfoldable pub carried : ℕ → ℕ
    carried zero = 0
    carried (suc n) = (split_band (a.start + n) (carried n)).balance

    -- band j, coded or skipped; `kept` is what each skipped band kept, the lowest first
    unfoldable pub band_of : List ℕ → ℕ → Band
    band_of kept j = cond (ltb j coded) (split_band j (carried (j - a.start))) (skipped a (get_or kept (j - coded) 0))

module _ (a : AllocIn) where
  -- the first round: every band is coded
  unfoldable pub first_round : (ℕ → ℕ) → Round
  first_round bits =
      record { coded = a.end; left = budget a - sum_of bits a.start (a.end - a.start); reserve = intensity_reserve a; kept = [] }

  -- dual stereo is asked where a bit is reserved for it and some band's channels are not coded as one
  unfoldable pub dual_asked : ℕ → Bool
  dual_asked intensity = ltb a.start intensity && ltb 0 (dual_reserve a)

  -- what no band has after skipping: a reservation whose symbol was not coded comes back
  unfoldable pub left_of : Skipped → ℕ → ℕ
  left_of k intensity = k.last.left + cond k.stopped 0 (skip_reserve a) + cond (dual_asked intensity) 0 (dual_reserve a)

  -- the answer, after skipping and the two stereo questions
  unfoldable pub finish : (ℕ → ℕ) → Skipped → ℕ → Bool → AllocOut
  finish bits k intensity dual =
      let r = k.last in
      let left = left_of k intensity in
      record {
        coded = r.coded;
        band = band_of a bits r.coded left intensity dual r.kept;
        balance = carried a bits r.coded left intensity dual (r.coded - a.start);
        intensity = intensity;
        dual = dual;
        flags = k.flags;
        stopped = k.stopped;
        rounds = length r.kept;
        trials = (vector a).1;
        reserve = r.reserve;
        intensity_coded = ltb 0 r.reserve;
        dual_coded = dual_asked intensity;
      }

  module _ {σ : Type 0} (ask : Ask σ) where
    -- the first band whose channels are coded as one; 0 where nothing is reserved for saying so
    unfoldable pub ask_intensity : Round → σ → ℕ × σ
    ask_intensity r s =
        let (i, t) = ask.intensity (suc r.coded - a.start) s in
        cond (ltb 0 r.reserve) (a.start + i, t) (0, s)

    -- whether the bands below it have separate channels; no where it is not asked
    unfoldable pub ask_dual : ℕ → σ → Bool × σ
    ask_dual intensity s = cond (dual_asked intensity) (ask.dual s) (false, s)

    -- the allocation from each band's bits on
    unfoldable pub alloc_from : (ℕ → ℕ) → σ → AllocOut × σ
    alloc_from bits s =
        let (k, t) = skip a bits ask (a.end - suc (skip_start a)) (first_round bits) s in
        let (intensity, u) = ask_intensity k.last t in
        let (dual, w) = ask_dual intensity u in
        (finish bits k intensity dual, w)

    -- the allocation, RFC 6716, section 4.3.3, and the state of who answered
    unfoldable pub alloc : σ → AllocOut × σ
    alloc s = alloc_from (bits_of a) s
