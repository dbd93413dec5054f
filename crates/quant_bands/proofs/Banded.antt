-- One energy and one band of the coarse decode, from what the calls ensure, and the reader after them. Assumes nothing.
use Prim.Native.Nat.{ℕ, zero, suc, ◌+◌, ◌-◌, ◌/◌, ◌%◌, ◌≤◌, ◌<◌}
use mathlib.Core.Path.{◌≡◌, ap, ◌∙◌}
use mathlib.Core.Bool.{Bool, true, cond}
use mathlib.Core.List.{List}
use native.Mathlib.Omega.{arith}
use lib.Dec.{leb}
use lib.ListN.{get_or, set}
use lib.Ieee.{Float, nan, binary32, of_int}
use borrow.Author.Tests.{leb-true, leb-false}
use Rattle.laws.proofs.Tests.{split_on, by_le, cond-by}
use Rattle.modes.specs.Laplace.{legal}
use Rattle.entdec.specs.declared.Reader.{Reader}
use Rattle.entdec.specs.Ready.{Ready}
use Rattle.laplace.specs.Coded.{LapSym}
use Rattle.entdec.proofs.Chain.{ready_less}
use Rattle.quant_bands.specs.declared.coarse_band.Kind.{Kind}
use Rattle.quant_bands.specs.Steps.{read_step}
use Rattle.quant_bands.specs.Prediction.{predicted, handed_on}
use Rattle.quant_bands.specs.Coarse.{CoarseState, kind_of, coarse_step, energy_at, first_at, second_at, coarse_band}
use Rattle.quant_bands.proofs.Stepping.{step_ready}
use Rattle.quant_bands.proofs.BandKind.{kind-legal}

-- ---- one energy

-- the code's step, energy and what is handed on are the definition's
pub energy-is : (m : Kind) (s : List ℕ) (k : ℕ) (prev : Float) (d : Reader) (es : List Float) {y : LapSym} {x h : Float} → y ≡ read_step m.zero m.decay s d
    → x ≡ predicted m.coef (get_or es k nan) prev (of_int binary32 y.value) → h ≡ handed_on m.beta prev (of_int binary32 y.value)
    → coarse_step (set es k x) h y.next ≡ energy_at m s k prev d es
unfolding energy_at
energy-is m s k prev d es e f g = rw (f, g, e)

-- one symbol fewer can be read
pub energy_ready : (n : ℕ) (m : Kind) (s : List ℕ) (k : ℕ) (prev : Float) (d : Reader) (es : List Float) → legal m.zero m.decay ≡ true → Ready (suc n) d
    → Ready n (energy_at m s k prev d es).next
unfolding energy_at
energy_ready n m s k prev d es ok r = step_ready n m.zero m.decay s d ok r

-- ---- one channel

module _ (m : Kind) (s : List ℕ) (k : ℕ) (g : CoarseState) where
  -- the energy at place k, as a call has it
  abbrev pub place_at : CoarseState
  place_at = cond (leb 21 k) (second_at m s (k - 21) g) (first_at m s k g)

-- ---- one band

-- the first n channels of band i
unfoldable pub channels : Kind → List ℕ → ℕ → ℕ → CoarseState → CoarseState
channels m s i zero g = g
channels m s i (suc zero) g = first_at m s i g
channels m s i (suc (suc n)) g = second_at m s i (first_at m s i g)

module _ (m : Kind) (s : List ℕ) (i : ℕ) (g : CoarseState) where
  -- before the first
  pub channels_none : i < 21 → g ≡ channels m s i (i / 21) g
  unfolding channels
  channels_none h = let e : i / 21 ≡ 0 = omega arith in rw e

  -- one more
  pub channels_up : (k : ℕ) → i < 21 → k % 21 ≡ i → k < 42 → {t r : CoarseState} → t ≡ channels m s i (k / 21) g → r ≡ place_at m s k t
      → r ≡ channels m s i ((k + 21) / 21) g
  unfolding channels
  channels_up k h e l p q =
      split_on (leb 21 k)
      (λ b.
      let n = leb-true 21 k b in
      let x : k / 21 ≡ 1 = omega arith in
      let y : (k + 21) / 21 ≡ 2 = omega arith in
      let z : k - 21 ≡ i = omega arith in
      rw y ((rw (b, z) at q) ∙ ap (λ (x : CoarseState). second_at m s i x) (rw x at p)))
      (λ b.
      let n = leb-false 21 k b in
      let x : k / 21 ≡ 0 = omega arith in
      let y : (k + 21) / 21 ≡ 1 = omega arith in
      let z : k ≡ i = omega arith in
      rw y ((rw (b, z) at q) ∙ ap (λ (x : CoarseState). first_at m s i x) (rw x at p)))

  -- a symbol can be read for the next
  pub channels_ready : (k : ℕ) → legal m.zero m.decay ≡ true → Ready 2 g.next → k < 42 → {t : CoarseState} → t ≡ channels m s i (k / 21) g
      → Ready 1 t.next
  unfolding channels
  channels_ready k ok r l p =
      by_le 21 k
      (λ h. let x : k / 21 ≡ 1 = omega arith in let u = rw x at p in rw u (energy_ready 1 m s i g.first g.next g.energies ok r))
      (λ h. let x : k / 21 ≡ 0 = omega arith in let u = rw x at p in rw u (ready_less 1 2 g.next (omega arith) r))

  -- all of them
  pub band-is : (c lm : ℕ) (intra : Bool) (k : ℕ) {end : ℕ} → m ≡ kind_of lm intra i → end ≡ cond (leb 2 c) 42 21 → end ≤ k → k < end + 21
      → channels m s i (k / 21) g ≡ coarse_band c lm intra s i g
  unfolding channels coarse_band
  band-is c lm intra k e f h l =
      split_on (leb 2 c)
      (λ b. let x = rw b at f in let y : k / 21 ≡ 2 = omega (arith, x) in rw (b, y, ← e))
      (λ b. let x = rw b at f in let y : k / 21 ≡ 1 = omega (arith, x) in rw (b, y, ← e))

-- two symbols fewer can be read
pub band_ready : (n c lm : ℕ) (intra : Bool) (s : List ℕ) (i : ℕ) (g : CoarseState) → lm < 4 → Ready (suc (suc n)) g.next
    → Ready n (coarse_band c lm intra s i g).next
unfolding coarse_band
band_ready n c lm intra s i g h r =
    let ok = kind-legal lm intra i h in
    let m = kind_of lm intra i in
    let a = energy_ready (suc n) m s i g.first g.next g.energies ok r in
    cond-by (λ (x : CoarseState). Ready n x.next) (leb 2 c) (λ e. energy_ready n m s (i + 21) _ _ _ ok a)
    (λ e. ready_less n (suc n) _ (omega arith) a)
