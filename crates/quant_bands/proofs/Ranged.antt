-- A reader that goes from band to band, two symbols a band at most. Assumes nothing.
use Prim.Native.Nat.{ℕ, zero, suc, ◌+◌, ◌-◌, ◌*◌, ◌≤◌, ◌<◌}
use mathlib.Core.Path.{◌≡◌, ap}
use mathlib.Core.Bool.{Bool}
use mathlib.Core.List.{List}
use native.Mathlib.Nat.{add-zero}
use native.Mathlib.Omega.{arith}
use lib.Ieee.{Float}
use Rattle.laws.specs.Places.{over_places}
use Rattle.laws.proofs.Tests.{by_le}
use Rattle.entdec.specs.declared.Reader.{Reader}
use Rattle.entdec.specs.Ready.{Ready}
use Rattle.entdec.proofs.Chain.{ready_less}
use Rattle.quant_bands.specs.Coarse.{CoarseState, coarse_state, coarse_band}
use Rattle.quant_bands.specs.Finalise.{Spending, spending, spend_band, spend_pass}
use Rattle.quant_bands.proofs.Banded.{band_ready}
use Rattle.quant_bands.proofs.Spent.{spend-band_ready, short_none}

-- whatever the bands do
module _ {S : Type 0} (next : S → Reader) (f : ℕ → S → S) (each : (m i : ℕ) (g : S) → Ready (suc (suc m)) (next g) → Ready m (next (f i g))) where
  -- by induction on the bands
  pub places_ready : (n m start : ℕ) (g : S) → Ready (m + 2 * n) (next g) → Ready m (next (over_places f start n g))
  unfolding over_places
  places_ready zero m start g r = ready_less m (m + 2 * zero) (next g) (omega arith) r
  places_ready (suc n) m start g r =
      each m (start + n) (over_places f start n g)
      (places_ready n (suc (suc m)) start g (ready_less (suc (suc m) + 2 * n) (m + 2 * suc n) (next g) (omega arith) r))

-- ---- before band i of those from start on

-- the coarse decode
pub coarse_ready : (c lm : ℕ) (intra : Bool) (s : List ℕ) (start n : ℕ) (g : CoarseState) {es : List Float} {a b : Float} {d : Reader} → lm < 4 → n < 21
    → Ready 42 g.next
    → coarse_state es a b d ≡ over_places (coarse_band c lm intra s) start n g → Ready 2 d
coarse_ready c lm intra s start n g h l r e =
    rw (ap (λ (x : CoarseState). x.next) e)
    (places_ready (λ (x : CoarseState). x.next) (coarse_band c lm intra s) (λ m i x. band_ready m c lm intra s i x h) n 2 start g
    (ready_less (2 + 2 * n) 42 g.next (omega arith) r))

module _ (c pass : ℕ) (fine priority : ℕ → ℕ) (s : List ℕ) (start : ℕ) (g : Spending) where
  -- the last bits, with m symbols to spare
  spent : (m n : ℕ) → Ready (m + 2 * n) g.next → Ready m (over_places (spend_band c pass fine priority s) start n g).next
  spent m n r = places_ready (λ (x : Spending). x.next) (spend_band c pass fine priority s) (λ m i x. spend-band_ready m c pass fine priority s i x) n m start g
      r

  -- before band i of a pass
  pub pass_ready : (n : ℕ) {es : List Float} {left : ℕ} {d : Reader} → n < 21 → Ready 42 g.next
      → spending es left d ≡ over_places (spend_band c pass fine priority s) start n g → Ready 2 d
  pass_ready n l r e = rw (ap (λ (x : Spending). x.next) e) (spent 2 n (ready_less (2 + 2 * n) 42 g.next (omega arith) r))

  -- once a band finds too few bits, so do all after it
  stays : (n m : ℕ) → (over_places (spend_band c pass fine priority s) start m g).left < c
      → over_places (spend_band c pass fine priority s) start (m + n) g ≡ over_places (spend_band c pass fine priority s) start m g
  unfolding over_places
  stays zero m h = rw add-zero
  stays (suc n) m h =
      let e : m + suc n ≡ suc (m + n) = omega arith in
      rw (e, stays n m h) (short_none c pass fine priority s (start + (m + n)) (over_places (spend_band c pass fine priority s) start m g) h)

  -- so a pass is over where too few bits are left
  pub pass_short : (i end : ℕ) {x : Spending} → start ≤ i → i ≤ end → x ≡ over_places (spend_band c pass fine priority s) start (i - start) g
      → x.left < c → x ≡ spend_pass c pass fine priority start end s g
  unfolding spend_pass
  pass_short i end h l e k =
      let q : end - start ≡ i - start + (end - i) = omega arith in
      rw (q, stays (end - i) (i - start) (rw e at k)) e

  -- and where no band is
  pub pass_done : (i end : ℕ) {x : Spending} → i ≡ end → x ≡ over_places (spend_band c pass fine priority s) start (i - start) g
      → x ≡ spend_pass c pass fine priority start end s g
  unfolding spend_pass
  pass_done i end q e = rw (← q) e

  -- after a whole pass
  pub pass-after : (end : ℕ) {es : List Float} {left : ℕ} {d : Reader} → end ≤ 21 → Ready 84 g.next
      → spending es left d ≡ spend_pass c pass fine priority start end s g → Ready 42 d
  unfolding spend_pass
  pass-after end l r e =
      rw (ap (λ (x : Spending). x.next) e) (spent 42 (end - start) (ready_less (42 + 2 * (end - start)) 84 g.next (omega arith) r))

-- ---- the passes of both priorities

module _ (c : ℕ) (fine priority : ℕ → ℕ) (start end : ℕ) (s : List ℕ) where
  -- the pass of a priority, as a step from state to state
  abbrev pub pass_of : ℕ → Spending → Spending
  pass_of pass g = spend_pass c pass fine priority start end s g

  -- before each of the two
  pub passes_ready : (pass : ℕ) (g : Spending) {x : Spending} → end ≤ 21 → pass < 2 → Ready 84 g.next → x ≡ over_places pass_of 0 (pass - 0) g
      → Ready 42 x.next
  unfolding over_places
  passes_ready pass g l h r e =
      by_le 1 pass
      (λ p. let q : pass - 0 ≡ 1 = omega arith in pass-after c 0 fine priority s start g end l r (rw q at e))
      (λ p. let q : pass - 0 ≡ 0 = omega arith in rw (rw q at e) (ready_less 42 84 g.next (omega arith) r))
