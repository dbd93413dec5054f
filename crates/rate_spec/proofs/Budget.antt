-- The budget closes, what is left over is small, and how many trials and rounds there are, for whoever answers the questions. Assumes nothing.
use Prim.Native.Nat.{ℕ, zero, suc, ◌+◌, ◌-◌, ◌*◌, ◌/◌, ◌≤◌, ◌<◌}
use mathlib.Core.Bool.{Bool, true, false, cond, and-eq-true_iff}
use mathlib.Core.List.{List, [], ◌∷◌}
use mathlib.Core.Logic.{◌⊎◌, inl, inr, ⊎_elim}
use mathlib.Core.Path.{◌≡◌, refl, ◌∙◌, ap, subst}
use native.Mathlib.Nat.{div_self, zero-div}
use native.Mathlib.Omega.{arith}
use lib.Dec.{ltb}
use lib.ListN.{get_or, length}
use borrow.Author.Tests.{lt-ltb, le-ltb, ltb-true}
use Rattle.laws.proofs.Tests.{cond-by, cond-le}
use Rattle.laws.proofs.Sums.{sum_append, sum_same}
use Rattle.laws.specs.Places.{sum_of}
use Rattle.rate_spec.specs.Types.{Ask, Band, AllocIn}
use Rattle.rate_spec.specs.Domain.{AllocInOk}
use Rattle.rate_spec.specs.Skips.{Skipped, skip, skip_start}
use Rattle.rate_spec.specs.Alloc.{alloc, alloc_from, ask_intensity, band_of, carried, dual_asked, finish, first_round, left_of, skipped, split_band}
use Rattle.rate_spec.specs.Reserves.{alloc_floor, budget, dual_reserve, intensity_reserve, skip_reserve}
use Rattle.rate_spec.specs.Trials.{bits_of}
use Rattle.rate_spec.specs.Ledger.{spent}
use Rattle.rate_spec.proofs.Rounds.{After, Floors, Sound, holds, skip_good, sum_list}
use Rattle.rate_spec.proofs.Within.{dual-is, first-within, intensity-is, reserved, skip_is}
use Rattle.rate_spec.proofs.Bands.{priced, split_rest, split-sum, spread-sum}
use Rattle.rate_spec.proofs.Looks.{vector-trials}
use Rattle.rate_spec.proofs.Ending.{low_in}

-- a list's sum, over the bands from c
listed : (l : List ℕ) (c : ℕ) → sum_of (λ j. get_or l (j - c) 0) c (length l) ≡ sum_list l
unfolding sum_of
listed [] c = refl
listed (x ∷ l) c =
    let e : c - c ≡ 0 = omega arith in
    rw e (ap (λ (n : ℕ). x + n) (sum_same (λ j. get_or (x ∷ l) (j - c) 0) (λ j. get_or l (j - suc c) 0) (length l) (suc c) (same x l c) ∙ listed l (suc c)))
  where
    same : (x : ℕ) (l : List ℕ) (c i : ℕ) → suc c ≤ i → i < suc c + length l → get_or (x ∷ l) (i - c) 0 ≡ get_or l (i - suc c) 0
    same x l c i h g = let e : i - c ≡ suc (i - suc c) = omega arith in rw e

module _ (a : AllocIn) (o : AllocInOk a) where
  module _ (bits : ℕ → ℕ) where
    -- the first round is sound
    pub first-sound : Sound a (a.end - suc (skip_start a)) (first_round a bits)
    unfolding first_round
    first-sound =
        record { above = omega (arith, o.start-lt, low_in a o.start-lt); below = o.end-le; reserve-is = intensity-is a }

    -- it holds the budget and the reservation for intensity
    pub first_holds : sum_of bits a.start (a.end - a.start) ≤ budget a → holds a bits (first_round a bits) ≡ budget a + intensity_reserve a
    unfolding first_round
    first_holds h = omega arith

    -- what the skipped bands have is what they kept
    skipped-price : (x : ℕ) → (x ≡ alloc_floor a) ⊎ (x ≡ 0) → 8 * a.C * (x / alloc_floor a) ≡ x
    skipped-price x (inl e) = let p : 0 < 8 * a.C = omega (arith, o.C_low) in rw e (rw (div_self p) (omega arith))
    skipped-price x (inr e) = rw e (rw zero-div (omega arith))

    -- what each dropped band kept is a floor or nothing
    pub floors_at : (l : List ℕ) → Floors a l → (i : ℕ) → (get_or l i 0 ≡ alloc_floor a) ⊎ (get_or l i 0 ≡ 0)
    floors_at [] f i = inr refl
    floors_at (x ∷ l) f zero = f.0
    floors_at (x ∷ l) f (suc i) = floors_at l f.1 i

    module _ (coded left intensity : ℕ) (dual : Bool) (kept : List ℕ) (low : a.start < coded) (high : coded ≤ 21) (f : Floors a kept)
        (n : coded + length kept ≡ a.end) where
      -- what each band takes, coded or skipped
      abbrev prices : ℕ → ℕ
      prices j = (band_of a bits coded left intensity dual kept j).pulses + 8 * a.C * (band_of a bits coded left intensity dual kept j).fine

      below-coded : (j : ℕ) → j < coded → prices j ≡ priced a o.C_low bits coded left intensity dual j
      unfolding band_of priced
      below-coded j h = rw (lt-ltb j coded h)

      from-coded : (j : ℕ) → coded ≤ j → prices j ≡ get_or kept (j - coded) 0
      unfolding band_of skipped
      from-coded j h = rw (le-ltb j coded h) (omega (arith, skipped-price (get_or kept (j - coded) 0) (floors_at kept f (j - coded))))

      bands-sum : sum_of prices a.start (a.end - a.start) + carried a bits coded left intensity dual (coded - a.start)
          ≡ sum_of bits a.start (coded - a.start) + left + sum_list kept
      bands-sum =
          let e : a.end - a.start ≡ coded - a.start + length kept = omega arith in
          let g : a.start + (coded - a.start) ≡ coded = omega arith in
          rw e
          (omega (
            arith,
            rw g at (sum_append prices (coded - a.start) (length kept) a.start),
            sum_same prices (priced a o.C_low bits coded left intensity dual) (coded - a.start) a.start (λ i p q. below-coded i (omega arith)),
            sum_same prices (λ j. get_or kept (j - coded) 0) (length kept) coded (λ i p q. from-coded i p),
            listed kept coded,
            split-sum a o.C_low bits coded left intensity dual (coded - a.start),
            spread-sum a bits coded left intensity dual low high,
          ))

    -- a reservation is either still held or given back
    skip-either : (b : Bool) → cond b 8 0 ≤ a.total → cond b 0 (skip_reserve a) + cond b 8 0 ≡ skip_reserve a
    skip-either true h = omega (arith, skip_is a h)
    skip-either false h = omega arith

    dual-either : (i : ℕ) → cond (dual_asked a i) 0 (dual_reserve a) + cond (dual_asked a i) 8 0 ≡ dual_reserve a
    unfolding dual_asked
    dual-either i = go (dual_asked a i) refl (dual-is a)
      where
        go : (b : Bool) → dual_asked a i ≡ b → (dual_reserve a ≡ 8) ⊎ (dual_reserve a ≡ 0) → cond b 0 (dual_reserve a) + cond b 8 0 ≡ dual_reserve a
        go true e (inl z) = omega arith
        go true e (inr z) = absurd (omega (arith, ltb-true 0 (dual_reserve a) ((and-eq-true_iff (ltb a.start i) (ltb 0 (dual_reserve a))).0 e).1))
        go false e z = omega arith

    module _ (k : Skipped) (h : sum_of bits a.start (a.end - a.start) ≤ budget a) (w : After a bits (first_round a bits) k) where
      -- the bands are coded, or dropped and kept something
      pub kept-all : k.last.coded + length k.last.kept ≡ a.end
      unfolding first_round
      kept-all = omega (arith, w.bands)

      rounds-le : length k.last.kept ≤ a.end - a.start - 1
      rounds-le = omega (arith, kept-all, w.sound.above)

      module _ (intensity : ℕ) (dual : Bool) where
        finish-spent : spent a (finish a bits k intensity dual) ≡ a.total
        unfolding spent finish left_of
        finish-spent =
            omega (
              arith,
              bands-sum k.last.coded (left_of a k intensity) intensity dual k.last.kept (omega (arith, w.sound.above)) w.sound.below w.floors
                  kept-all,
              w.ledger,
              first_holds h,
              reserved a,
              skip-either k.stopped (omega (arith, w.enough, first_holds h, reserved a)),
              dual-either intensity,
            )

        -- the last coded band
        abbrev reaches : ℕ → ℕ
        reaches = carried a bits k.last.coded (left_of a k intensity) intensity dual

        -- its split, with a balance from below
        abbrev splits : ℕ → ℕ → Band
        splits = split_band a bits k.last.coded (left_of a k intensity) intensity dual

        top-band : (finish a bits k intensity dual).band (k.last.coded - 1) ≡ splits (k.last.coded - 1) (reaches (k.last.coded - 1 - a.start))
        unfolding finish band_of
        top-band = rw (lt-ltb (k.last.coded - 1) k.last.coded (omega (arith, w.sound.above)))

        finish-rest : ((finish a bits k intensity dual).balance < 8 * a.C) ⊎ (((finish a bits k intensity dual).band (k.last.coded - 1)).fine ≡ 8)
        unfolding finish
        finish-rest =
            let n = k.last.coded - 1 - a.start in
            let e : k.last.coded - a.start ≡ suc n = omega (arith, w.sound.above) in
            let g : a.start + n ≡ k.last.coded - 1 = omega (arith, w.sound.above) in
            ⊎_elim (λ p. inl (rw e p)) (λ p. inr (rw top-band (subst (λ (j : ℕ). (splits j (reaches n)).fine ≡ 8) g p)))
            (split_rest a o.C_low bits k.last.coded (left_of a k intensity) intensity dual n)

  -- the laws of a whole allocation
  module _ {σ : Type 0} (A : Ask σ) (s : σ) where
    -- skipping from the first round
    abbrev the_skip : Skipped × σ
    the_skip = skip a (bits_of a) A (a.end - suc (skip_start a)) (first_round a (bits_of a)) s

    first_floors : Floors a (first_round a (bits_of a)).kept
    unfolding first_round
    first_floors = tt

    -- what skipping leaves
    pub the_after : After a (bits_of a) (first_round a (bits_of a)) the_skip.0
    the_after = skip_good a (bits_of a) A (a.end - suc (skip_start a)) (first_round a (bits_of a)) (first-sound (bits_of a)) first_floors s

    -- no round holds more than the total
    pub first-le : holds a (bits_of a) (first_round a (bits_of a)) ≤ a.total
    first-le = omega (arith, first_holds (bits_of a) (first-within a o), reserved a)

    -- nor do the coded bands with what is left for them
    pub shared_le : (i : ℕ) → sum_of (bits_of a) a.start (the_skip.0.last.coded - a.start) + left_of a the_skip.0 i ≤ a.total
    unfolding left_of
    shared_le i =
        omega (
          arith,
          the_after.ledger,
          first_holds (bits_of a) (first-within a o),
          reserved a,
          cond-le the_skip.0.stopped {x = 0} {y = skip_reserve a} {m = skip_reserve a} (λ e. omega arith) (λ e. omega arith),
          cond-le (dual_asked a i) {x = 0} {y = dual_reserve a} {m = dual_reserve a} (λ e. omega arith) (λ e. omega arith),
        )

    -- every bit is accounted for
    pub closes : spent a (alloc a A s).0 ≡ a.total
    unfolding alloc alloc_from
    closes = finish-spent (bits_of a) the_skip.0 (first-within a o) the_after _ _

    -- what is left over is less than a bit for each channel, unless the last coded band has all its fine bits
    pub rest : ((alloc a A s).0.balance < 8 * a.C) ⊎ (((alloc a A s).0.band ((alloc a A s).0.coded - 1)).fine ≡ 8)
    unfolding alloc alloc_from finish
    rest = finish-rest (bits_of a) the_skip.0 (first-within a o) the_after _ _

    -- three or four vectors are tried, and at least one band stays
    pub looks : (((alloc a A s).0.trials ≡ 3) ⊎ ((alloc a A s).0.trials ≡ 4)) × ((alloc a A s).0.rounds ≤ a.end - a.start - 1)
    unfolding alloc alloc_from finish
    looks = (vector-trials a, rounds-le (bits_of a) the_skip.0 (first-within a o) the_after)

    -- what a skipped band kept is spent on its fine bits to the last eighth
    pub skipped-whole : (j : ℕ) → (alloc a A s).0.coded ≤ j
        → 8 * a.C * ((alloc a A s).0.band j).fine ≡ get_or the_skip.0.last.kept (j - (alloc a A s).0.coded) 0
    unfolding alloc alloc_from finish band_of skipped
    skipped-whole j h =
        let r = the_skip.0.last in
        rw (le-ltb j r.coded h)
        (skipped-price (bits_of a) (get_or r.kept (j - r.coded) 0) (floors_at (bits_of a) r.kept the_after.floors (j - r.coded)))

    -- some band is coded
    pub coded_in : (a.start < (alloc a A s).0.coded) × ((alloc a A s).0.coded ≤ a.end)
    unfolding alloc alloc_from finish
    coded_in =
        (omega (arith, the_after.sound.above), omega (arith, kept-all (bits_of a) the_skip.0 (first-within a o) the_after))

    -- the intensity question has 2 to 22 answers
    pub answers_in : (2 ≤ suc (alloc a A s).0.coded - a.start) × (suc (alloc a A s).0.coded - a.start ≤ 22)
    answers_in = let c = coded_in in omega (arith, o.end-le)

    -- where the answer to the intensity question is one of those offered, intensity is at most the coded bands
    pub intensity_in : ((n : ℕ) (t : σ) → 2 ≤ n → (A.intensity n t).0 < n) → (alloc a A s).0.intensity ≤ (alloc a A s).0.coded
    unfolding alloc alloc_from finish ask_intensity
    intensity_in f =
        let r = the_skip.0.last in
        let n = suc r.coded - a.start in
        let h = the_after.sound.above in
        cond-by (λ (x : ℕ × σ). x.0 ≤ r.coded) (ltb 0 r.reserve) (λ e. omega (arith, f n the_skip.1 (omega arith))) (λ e. omega arith)
