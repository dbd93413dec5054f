-- The steps put together, whoever answers: what the code computed at each is the definition's. Assumes nothing.
use Prim.Native.Nat.{ℕ, suc, ◌-◌, ◌≤◌, ◌<◌}
use mathlib.Core.Bool.{Bool}
use mathlib.Core.List.{List, []}
use mathlib.Core.Path.{◌≡◌, refl, ap, sym, ◌∙◌}
use native.Mathlib.Omega.{arith}
use lib.IntN.{ℤ, pos}
use lib.ListN.{get_or, length}
use Rattle.laws.specs.Lists.{fill}
use Rattle.laws.proofs.Lists.{fill-same}
use Rattle.laws.proofs.Sums.{sum_same}
use Rattle.rate_spec.specs.Types.{Ask, Band, AllocIn, AllocOut}
use Rattle.rate_spec.specs.Alloc.{alloc, alloc_from, ask_dual, ask_intensity, dual_asked, finish, first_round, left_of}
use Rattle.rate_spec.specs.Domain.{AllocInOk}
use Rattle.rate_spec.specs.Reserves.{dual_reserve, intensity_reserve, skip_reserve, stereo_fits}
use Rattle.rate_spec.specs.Skips.{Round, Skipped, skip, skip_start}
use Rattle.rate_spec.specs.Trials.{bits_of}
use Rattle.rate_spec.specs.Ledger.{spent}
use Rattle.rate_spec.proofs.Budget.{closes, coded_in, first-le, shared_le, the_after}
use Rattle.rate_spec.proofs.Ending.{low_in}
use Rattle.rate_spec.proofs.Same as same
use Rattle.rate_spec.proofs.Within.{intensity-is}
use Rattle.rate_bands.specs.Inputs.{AllocCountsOk, AllocListsOk, bare, alloc_in}
use Rattle.rate_bands.specs.declared.AllocCounts.{AllocCounts}
use Rattle.rate_bands.proofs.Frames.{in_ok}
use Rattle.rate_bands.proofs.Listed.{filled}
use Rattle.rate_split.specs.Bands.{SplitIn, band_at, carried_at}
use Rattle.rate_split.proofs.Boosts.{band_any, carried_any}
use Rattle.rate_skip.specs.Rounds.{SkipIn, skip_ending, kept_of, left_at, round_of}
use Rattle.rate_skip.proofs.Anyone.{dual-same, intensity-same, skip-same}
use Rattle.rate.specs.declared.Begun.{Begun}
use Rattle.rate.specs.Begun.{BeginsAt}
use Rattle.rate.specs.Answer.{with_figure}

-- the bits before skipping stand in a list, over the bands of the frame
pub record Started (f : AllocCounts) (offsets caps bits : List ℕ) (g : Begun) : Type 0 where
  pub frame : AllocCountsOk f
  pub lists : AllocListsOk offsets caps
  pub blank : List ℕ
  pub room : length blank ≡ 21
  pub bits_are : bits ≡ fill (bits_of (alloc_in f offsets caps)) f.start (f.end - f.start) blank
  pub begins : BeginsAt (alloc_in f offsets caps) g

-- skipping was done, with A's answers
pub record SkipDone {σ : Type 0} (f : AllocCounts) (bits : List ℕ) (g : Begun) (A : Ask σ) (s : σ) (coded left reserve : ℕ) (stopped : Bool) (t : σ)
    (kept : List ℕ) : Type 0 where
  pub is : (round_of coded left reserve (kept_of f.end coded kept), stopped, t)
      ≡ skip_ending (skip (bare f) (λ j. get_or bits j 0) A (f.end - suc g.low) (round_of f.end g.left g.reserves.intensity []) s)

-- and A answered each stereo question
pub record StereoAnswered {σ : Type 0} (f : AllocCounts) (A : Ask σ) (coded reserve : ℕ) (t : σ) (i : ℕ) (d : Bool) (w : σ) : Type 0 where
  pub mid : σ
  pub intensity : (i, mid) ≡ ask_intensity (bare f) A (round_of coded 0 reserve []) t
  pub dual : (d, w) ≡ ask_dual (bare f) A i mid

-- the numbers of an allocation, and the state of who answered
pub record Numbered {σ : Type 0} (x : AllocOut × σ) (coded balance i : ℕ) (d : Bool) (w : σ) : Type 0 where
  pub coded-is : x.0.coded ≡ coded
  pub balance-is : x.0.balance ≡ balance
  pub balance-le : balance ≤ 81600
  pub intensity-is : x.0.intensity ≡ i
  pub dual-is : x.0.dual ≡ d
  pub state_is : x.1 ≡ w

module _ {f : AllocCounts} {offsets caps bits : List ℕ} {g : Begun} (h : Started f offsets caps bits g) {σ : Type 0} (A : Ask σ) (s : σ) where
  -- the definition's input
  abbrev a : AllocIn
  a = alloc_in f offsets caps

  -- a band's bits before skipping, out of the list
  abbrev bits_held : ℕ → ℕ
  bits_held j = get_or bits j 0

  -- the input is of the definition's domain
  ok : AllocInOk a
  ok = in_ok offsets caps h.frame h.lists

  -- over the bands of the frame the list holds the definition's bits
  agree : (i : ℕ) → f.start ≤ i → i < f.end → bits_held i ≡ bits_of a i
  agree = filled a (bits_of a) h.blank h.frame.end-le h.room h.bits_are

  -- the first round of skipping begins as the definition's
  first-is : round_of f.end g.left g.reserves.intensity [] ≡ first_round a (bits_of a)
  unfolding first_round
  first-is = rw (h.begins.left_is, h.begins.reserved.intensity-is)

  -- what skipping asks
  pub skip_in : SkipIn f bits g.low g.left g.reserves.intensity
  unfolding first_round
  skip_in =
      let b = h.begins in
      let l = low_in a h.frame.start-lt in
      record {
        frame = h.frame;
        start-le = rw b.low-is l.0;
        low-lt = rw b.low-is l.1;
        reserve-is = rw b.reserved.intensity-is (intensity-is a);
        within =
            rw (
              sum_same bits_held (bits_of a) (f.end - f.start) f.start (λ i p q. agree i p (omega (arith, h.frame.start-lt))),
              b.left_is,
              b.reserved.intensity-is,
            )
            (omega (arith, first-le a ok A s, h.frame.total-le));
      }

  -- the definition's skipping, with A's answers
  abbrev the_skip : Skipped × σ
  the_skip = skip a (bits_of a) A (f.end - suc (skip_start a)) (first_round a (bits_of a)) s

  -- it ends above start and no higher than end
  last_range : (f.start < the_skip.0.last.coded) × (the_skip.0.last.coded ≤ f.end)
  unfolding alloc alloc_from finish
  last_range = coded_in a ok A s

  module _ {coded left reserve : ℕ} {stopped : Bool} {t : σ} {kept : List ℕ} (k : SkipDone f bits g A s coded left reserve stopped t kept) where
    -- it ends as the code's skipping did
    skip_is : skip_ending the_skip ≡ (round_of coded left reserve (kept_of f.end coded kept), stopped, t)
    skip_is =
        let n = f.end - suc g.low in
        let r = round_of f.end g.left g.reserves.intensity [] in
        let l : f.start ≤ g.low = rw h.begins.low-is (low_in a h.frame.start-lt).0 in
        sym
        (k.is
        ∙ ap (λ (x : Skipped × σ). skip_ending x)
        (sym (skip-same f offsets caps bits_held A A refl n r s)
        ∙ same.skip-same a bits_held (bits_of a) A n r s (omega (arith, h.frame.start-lt)) agree)
        ∙ ap (λ (m : ℕ). skip_ending (skip a (bits_of a) A (f.end - suc m) r s)) h.begins.low-is
        ∙ ap (λ (q : Round). skip_ending (skip a (bits_of a) A (f.end - suc (skip_start a)) q s)) first-is)

    -- its last round, by itself
    last-is : the_skip.0.last ≡ round_of coded left reserve (kept_of f.end coded kept)
    last-is = ap (λ (x : Round × Bool × σ). x.0) skip_is

    -- whether a flag stopped it, by itself
    stopped-is : the_skip.0.stopped ≡ stopped
    stopped-is = ap (λ (x : Round × Bool × σ). x.1) skip_is

    -- the state after it, by itself
    next-is : the_skip.1 ≡ t
    next-is = ap (λ (x : Round × Bool × σ). x.2) skip_is

    -- which bands are coded, and what is left for them
    pub coded_range : (f.start < coded) × (coded ≤ f.end)
    coded_range = let e = ap (λ (r : Round). r.coded) last-is in omega (arith, last_range)

    -- what no band has yet is within the largest total
    pub left_le : left ≤ 81600
    left_le = omega (arith, ap (λ (r : Round). r.left) last-is, (the_after a ok A s).ledger, first-le a ok A s, h.frame.total-le)

    module _ (i : ℕ) {l : ℕ} (at_left : l ≡ left_at (bare f) left stopped i) where
      -- the bits left over after the stereo reserves are the definition's
      left_is : l ≡ left_of a the_skip.0 i
      unfolding left_of dual_asked dual_reserve skip_reserve intensity_reserve stereo_fits
      left_is = rw (last-is, stopped-is) at_left

      -- what the split asks
      pub split_in : SplitIn f bits coded l
      split_in =
          let c = coded_range in
          let m = rw (last-is, ← left_is) at (shared_le a ok A s i) in
          record {
            frame = h.frame;
            start-lt = c.0;
            coded-le = c.1;
            within =
                rw (sum_same bits_held (bits_of a) (coded - f.start) f.start (λ j p q. agree j p (omega arith))) (omega (arith, m, h.frame.total-le));
          }

    module _ {i : ℕ} {d : Bool} {w : σ} (q : StereoAnswered f A coded reserve t i d w) where
      -- A answers the question of intensity as it was answered
      intensity-answered : ask_intensity a A the_skip.0.last the_skip.1 ≡ (i, q.mid)
      unfolding ask_intensity
      intensity-answered =
          rw (last-is, next-is) (sym (q.intensity ∙ sym (intensity-same f offsets caps bits_held A A refl (round_of coded 0 reserve []) t)))

      -- A answers the question of dual stereo as it was answered
      dual-answered : ask_dual a A i q.mid ≡ (d, w)
      dual-answered = sym (q.dual ∙ sym (dual-same f offsets caps bits_held A A refl i q.mid))

      -- so the allocation is the last step of the definition on the code's figures
      alloc-is : alloc a A s ≡ (finish a (bits_of a) the_skip.0 i d, w)
      unfolding alloc alloc_from
      alloc-is = rw (intensity-answered, dual-answered)

      module _ {l : ℕ} (at_left : l ≡ left_at (bare f) left stopped i) where
        -- each band
        band-is : (j : ℕ) → f.start ≤ j → j < f.end → band_at f caps bits coded l i d kept j ≡ (alloc a A s).0.band j
        unfolding finish
        band-is j p e =
            rw (alloc-is, last-is, ← left_is i at_left)
            (sym (band_any f offsets caps bits_held coded l i d (kept_of f.end coded kept) j)
            ∙ same.band-same a bits_held (bits_of a) coded l i d (kept_of f.end coded kept) j p (λ k x y. agree k x (omega arith)))

        -- a list of one of the bands' figures
        pub listed_is : (figure : Band → ℕ) (l₀ : List ℤ) {m : List ℤ}
            → m ≡ fill (λ j. pos (figure (band_at f caps bits coded l i d kept j))) f.start (f.end - f.start) l₀
            → m ≡ with_figure a figure (alloc a A s).0 l₀
        listed_is figure l₀ e =
            e ∙ fill-same _ _ (f.end - f.start) f.start l₀ (λ j p u. ap (λ (x : Band). pos (figure x)) (band-is j p (omega (arith, h.frame.start-lt))))

        -- what the last coded band hands on
        carried-is : (finish a (bits_of a) the_skip.0 i d).balance ≡ carried_at f caps bits coded l i d (coded - f.start)
        unfolding finish
        carried-is =
            rw (last-is, ← left_is i at_left)
            (sym (sym (carried_any f offsets caps bits_held coded l i d (coded - f.start))
            ∙ same.carried_same a bits_held (bits_of a) coded l i d (coded - f.start) (λ k x y. agree k x (omega (arith, coded_range)))))

        -- it is within the largest total
        balance-le : (alloc a A s).0.balance ≤ 81600
        unfolding spent
        balance-le = omega (arith, closes a ok A s, h.frame.total-le)

        -- every number of the allocation is the code's
        pub numbered : {x : ℕ} → x ≡ carried_at f caps bits coded l i d (coded - f.start) → Numbered (alloc a A s) coded x i d w
        unfolding finish
        numbered e =
            let y = ap (λ (z : AllocOut × σ). z.0.balance) alloc-is ∙ carried-is ∙ sym e in
            record {
              coded-is = rw alloc-is (ap (λ (r : Round). r.coded) last-is);
              balance-is = y;
              balance-le = rw y at balance-le;
              intensity-is = rw alloc-is;
              dual-is = rw alloc-is;
              state_is = rw alloc-is;
            }
