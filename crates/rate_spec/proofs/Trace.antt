-- A writer of each answer that it gives has written the flags, the intensity and dual stereo of its result, in this order. Assumes nothing.
use Prim.Native.Nat.{ℕ, zero, suc, ◌+◌, ◌-◌, ◌≤◌, ◌<◌}
use mathlib.Core.Bool.{Bool, true, false, cond}
use mathlib.Core.Path.{◌≡◌, refl, ◌∙◌, ap}
use native.Mathlib.Omega.{arith}
use lib.Dec.{ltb}
use lib.IntN.{ℤ}
use Rattle.rate_spec.specs.Types.{Ask, AllocIn}
use Rattle.rate_spec.specs.Skips.{Round, asks, dropped, skip, skip_start, top_bits}
use Rattle.rate_spec.specs.Alloc.{alloc, alloc_from, ask_dual, ask_intensity, dual_asked, finish}
use Rattle.rate_spec.specs.Trials.{bits_of}
use Rattle.rate_spec.specs.Written.{flags_written, written}
use Rattle.rate_spec.specs.Answers.{encoder_ask}
use Rattle.rate_spec.proofs.Steps.{skip_on, skip_stop, skip_unasked}

-- `bit` writes a flag, `uniform` one of n values
module _ {σ : Type 0} (bit : Bool → σ → σ) (uniform : ℕ → ℕ → σ → σ) where
  -- A writes each answer that it gives
  pub record Writes (A : Ask σ) : Type 0 where
    pub skip : (coded bits : ℕ) (s : σ) → (A.skip coded bits s).1 ≡ bit (A.skip coded bits s).0 s
    pub intensity : (n : ℕ) (s : σ) → (A.intensity n s).1 ≡ uniform n (A.intensity n s).0 s
    pub dual : (s : σ) → (A.dual s).1 ≡ bit (A.dual s).0 s

  module _ (A : Ask σ) (W : Writes A) (a : AllocIn) where
    module _ (bits : ℕ → ℕ) where
      -- after n rounds from r the flags of the result are written
      abbrev Traced : ℕ → Round → Type 0
      Traced n r = (s : σ) → (skip a bits A n r s).1 ≡ flags_written bit (skip a bits A n r s).0.flags s

      round : (n : ℕ) (r : Round) → Traced n (dropped a bits r) → Traced (suc n) r
      round n r ih s = go (asks a bits r) refl (A.skip r.coded (top_bits a bits r) s) refl
        where
          asked : (s₁ : σ) (stop : Bool) → asks a bits r ≡ true → A.skip r.coded (top_bits a bits r) s ≡ (stop, s₁)
              → (skip a bits A (suc n) r s).1 ≡ flags_written bit (skip a bits A (suc n) r s).0.flags s
          asked s₁ true p q = rw (skip_stop a bits A n r s s₁ p q) (rw q at (W.skip r.coded (top_bits a bits r) s))
          asked s₁ false p q =
              let e : s₁ ≡ bit false s = rw q at (W.skip r.coded (top_bits a bits r) s) in
              rw (skip_on a bits A n r s s₁ p q) (ih s₁ ∙ ap (flags_written bit (skip a bits A n (dropped a bits r) s₁).0.flags) e)

          go : (q : Bool) → asks a bits r ≡ q → (x : Bool × σ) → A.skip r.coded (top_bits a bits r) s ≡ x
              → (skip a bits A (suc n) r s).1 ≡ flags_written bit (skip a bits A (suc n) r s).0.flags s
          go true p x e = asked x.1 x.0 p e
          go false p x e = rw (skip_unasked a bits A n r s p) (ih s)

      trace_skip : (n : ℕ) (r : Round) → Traced n r
      unfolding skip
      trace_skip zero r s = refl
      trace_skip (suc n) r s = round n r (trace_skip n (dropped a bits r)) s

    trace_intensity : (r : Round) (s : σ)
        → (ask_intensity a A r s).1 ≡ cond (ltb 0 r.reserve) (uniform (suc r.coded - a.start) ((ask_intensity a A r s).0 - a.start) s) s
    unfolding ask_intensity
    trace_intensity r s = go (ltb 0 r.reserve) (A.intensity (suc r.coded - a.start) s) (W.intensity (suc r.coded - a.start) s)
      where
        go : (b : Bool) (x : ℕ × σ) → x.1 ≡ uniform (suc r.coded - a.start) x.0 s
            → (cond {A = ℕ × σ} b (a.start + x.0, x.1) (0, s)).1
            ≡ cond b (uniform (suc r.coded - a.start) ((cond {A = ℕ × σ} b (a.start + x.0, x.1) (0, s)).0 - a.start) s) s
        go true x e = let p : a.start + x.0 - a.start ≡ x.0 = omega arith in rw p e
        go false x e = refl

    trace_dual : (i : ℕ) (s : σ) → (ask_dual a A i s).1 ≡ cond (dual_asked a i) (bit (ask_dual a A i s).0 s) s
    unfolding ask_dual
    trace_dual i s = go (dual_asked a i)
      where
        go : (b : Bool) → (cond b (A.dual s) (false, s)).1 ≡ cond b (bit (cond b (A.dual s) (false, s)).0 s) s
        go true = W.dual s
        go false = refl

    -- the state after an allocation is that after writing its symbols
    pub trace : (s : σ) → (alloc a A s).1 ≡ written bit uniform a (alloc a A s).0 s
    unfolding alloc alloc_from finish
    trace s =
        trace_dual _ _
        ∙ rw (trace_intensity _ _, trace_skip (bits_of a) (a.end - suc (skip_start a)) _ s)

-- the encoder of the definition is such a one
pub writing-writes : {σ : Type 0} (bit : Bool → σ → σ) (uniform : ℕ → ℕ → σ → σ) (a : AllocIn) (previous bandwidth : ℤ) (intensity : ℕ) (dual : Bool)
    → Writes bit uniform (encoder_ask a previous bandwidth bit uniform intensity dual)
unfolding encoder_ask
writing-writes bit uniform a previous bandwidth intensity dual = record { skip = λ coded bits s. refl; intensity = λ n s. refl; dual = λ s. refl }

-- and it says one of the answers offered
pub writing-below : {σ : Type 0} (bit : Bool → σ → σ) (uniform : ℕ → ℕ → σ → σ) (a : AllocIn) (previous bandwidth : ℤ) (intensity : ℕ) (dual : Bool)
    → (n : ℕ) (s : σ) → 2 ≤ n → ((encoder_ask a previous bandwidth bit uniform intensity dual).intensity n s).0 < n
unfolding encoder_ask
writing-below bit uniform a previous bandwidth intensity dual n s h = omega arith
