-- One energy and one band of the last bits, from what the calls ensure, and the reader after them. Assumes nothing.
use Prim.Native.Nat.{ℕ, suc, ◌+◌, ◌-◌, ◌≤◌, ◌<◌}
use mathlib.Core.Path.{◌≡◌, refl, ap}
use mathlib.Core.Bool.{true, false, ◌&&◌, and-false, and-eq-true_iff}
use mathlib.Core.List.{List}
use native.Mathlib.Omega.{arith}
use lib.Dec.{ltb, leb, eqb}
use lib.ListN.{get_or, set}
use lib.Ieee.{Float, nan, binary32, add}
use borrow.Author.Tests.{le-leb, lt-leb, ltb-true, leb-true}
use Rattle.laws.proofs.Tests.{cond-by}
use Rattle.entcode.specs.Sym.{length_ok, list_ok, shape_ok}
use Rattle.entcode.specs.Sym.Shape.{raw}
use Rattle.entdec.specs.declared.Reader.{Reader}
use Rattle.entdec.specs.Coded.{ReadSymbol}
use Rattle.entdec.specs.Ready.{Ready}
use Rattle.entdec.specs.Symbols.{read_sym}
use Rattle.entdec.proofs.Chain.{ready_after, ready_less}
use Rattle.quant_bands.specs.Finalise.{offset_of, Spending, spending, spend_at, takes_bit, spend_band}

-- ---- one energy

-- the code's bit and sum are the definition's
pub spend-is : (fine : ℕ) (s : List ℕ) (k : ℕ) (es : List Float) (left : ℕ) (d : Reader) {y : ReadSymbol} {x : Float} → y ≡ read_sym (raw 1) s d
    → x ≡ offset_of y.value fine
    → spending (set es k (add binary32 (get_or es k nan) x)) (left - 1) y.next ≡ spend_at fine s k (spending es left d)
unfolding spend_at
spend-is fine s k es left d e f = rw (f, e)

-- one symbol fewer can be read
pub spend_ready : (n fine : ℕ) (s : List ℕ) (k : ℕ) (g : Spending) → Ready (suc n) g.next → Ready n (spend_at fine s k g).next
unfolding spend_at length_ok shape_ok list_ok
spend_ready n fine s k g r = ready_after n (raw 1) s g.next r refl refl refl tt

-- the same of what a call answers, and what is left
pub spend_then : (n fine : ℕ) (s : List ℕ) (k : ℕ) (g : Spending) {es : List Float} {left : ℕ} {d : Reader} → Ready (suc n) g.next
    → spending es left d ≡ spend_at fine s k g → (left ≡ g.left - 1) × Ready n d
unfolding spend_at
spend_then n fine s k g r e =
    (ap (λ (x : Spending). x.left) e, rw (ap (λ (x : Spending). x.next) e) (spend_ready n fine s k g r))

-- ---- one band

-- what a band that takes bits has
pub takes_so : (c pass f p left : ℕ) → takes_bit c pass f p left ≡ true → (f < 8) × (c ≤ left)
unfolding takes_bit
takes_so c pass f p left e =
    let a = (and-eq-true_iff (ltb f 8 && eqb p pass) (leb c left)).0 e in
    let b = (and-eq-true_iff (ltb f 8) (eqb p pass)).0 a.0 in
    (ltb-true f 8 b.0, leb-true c left a.1)

module _ (c pass : ℕ) (fine priority : ℕ → ℕ) (s : List ℕ) (i : ℕ) (g : Spending) {f p : ℕ} (h : f ≡ fine i) (k : p ≡ priority i) where
  -- a band that takes no bit
  pub band-skipped : takes_bit c pass f p g.left ≡ false → g ≡ spend_band c pass fine priority s i g
  unfolding spend_band
  band-skipped e = rw (← h, ← k, e)

  module _ (e : takes_bit c pass f p g.left ≡ true) {y : Spending} (q : y ≡ spend_at f s i g) where
    -- one channel takes one
    pub band_mono : c < 2 → y ≡ spend_band c pass fine priority s i g
    unfolding spend_band
    band_mono l = rw (← h, ← k, e, lt-leb 2 c l) q

    -- two take one each
    pub band-stereo : 2 ≤ c → {z : Spending} → z ≡ spend_at f s (i + 21) y → z ≡ spend_band c pass fine priority s i g
    unfolding spend_band
    band-stereo l r = rw (← h, ← k, e, le-leb 2 c l, ← q) r

-- two symbols fewer can be read, at most
pub spend-band_ready : (n c pass : ℕ) (fine priority : ℕ → ℕ) (s : List ℕ) (i : ℕ) (g : Spending) → Ready (suc (suc n)) g.next
    → Ready n (spend_band c pass fine priority s i g).next
unfolding spend_band
spend-band_ready n c pass fine priority s i g r =
    let a = spend_ready (suc n) (fine i) s i g r in
    cond-by (λ (x : Spending). Ready n x.next) (takes_bit c pass (fine i) (priority i) g.left)
    (λ e.
    cond-by (λ (x : Spending). Ready n x.next) (leb 2 c) (λ e. spend_ready n (fine i) s (i + 21) _ a) (λ e. ready_less n (suc n) _ (omega arith) a))
    (λ e. ready_less n (suc (suc n)) g.next (omega arith) r)

-- a band whose channels do not find a bit each takes none
pub short_none : (c pass : ℕ) (fine priority : ℕ → ℕ) (s : List ℕ) (i : ℕ) (g : Spending) → g.left < c → spend_band c pass fine priority s i g ≡ g
unfolding spend_band takes_bit
short_none c pass fine priority s i g h = rw (lt-leb c g.left h, and-false (ltb (fine i) 8 && eqb (priority i) pass))
