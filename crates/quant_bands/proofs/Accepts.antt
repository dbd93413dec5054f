-- What an accepted call tells of its numbers, and an answer by its number. Assumes nothing.
use Rattle.std.specs.Prelude.{Ok}
use Prim.Native.Nat.{ℕ, zero, suc, ◌-◌, ◌≤◌, ◌<◌}
use mathlib.Core.Path.{◌≡◌, refl, sym, ap, ◌∙◌}
use mathlib.Core.Bool.{Bool, true, ◌&&◌, and-eq-true_iff, false≢true}
use mathlib.Core.List.{List}
use native.Mathlib.Omega.{arith}
use lib.Dec.{eqb}
use lib.IntN.{ℤ, pos, negsuc}
use lib.Signed.{le_z, lt_z}
use lib.Ieee.{Float}
use borrow.Author.Tests.{eqb-true, leb-true, ltb-true}
use Rattle.laws.specs.Places.{over_places}
use Rattle.laws.specs.Signs.{clip}
use Rattle.laws.proofs.Signs.{range_count}
use Rattle.entcode.specs.Said.Said.{refused}
use Rattle.entcode.specs.Said.{answer, lent_after}
use Rattle.entdec.specs.declared.Reader.{Reader}
use Rattle.quant_bands.specs.Domain.{BandsIn}
use Rattle.quant_bands.specs.Coarse.{EnergiesAfter, energies_after, CoarseState, coarse_state, coarse_start, coarse, coarse_band}
use Rattle.quant_bands.specs.Finalise.{Spending, spending, finalise}
use Rattle.quant_bands.specs.Question.{bands_ok, coarse_ok, count_at, is_intra, refusal_coarse, refusal_finalise}
use Rattle.quant_bands.specs.Answer.{after, answer_r, coarse_reading, finalise_reading}
use Rattle.quant_bands.proofs.Ranged.{pass_of}

-- ---- numbers

-- 0 ≤ y < z ≤ m, as counts
ordered : (y z : ℤ) (m : ℕ) → le_z (pos 0) y ≡ true → lt_z y z ≡ true → le_z z (pos m) ≡ true → (clip y < clip z) × (clip z ≤ m)
ordered (pos a) (pos b) m p q r = (ltb-true a b q, leb-true b m r)
ordered (pos a) (negsuc b) m p q r = absurd (false≢true q)
ordered (negsuc a) z m p q r = absurd (false≢true p)

-- what the test of the bands tells, as counts
pub bands_in : (c start end : ℤ) → bands_ok c start end ≡ true → BandsIn (clip c) (clip start) (clip end)
unfolding bands_ok
bands_in c start end e =
    let x = (and-eq-true_iff _ _).0 e in
    let y = (and-eq-true_iff _ _).0 x.0 in
    let z = (and-eq-true_iff _ _).0 y.0 in
    let channels = range_count 1 2 c z.0 in
    let o = ordered start end 21 z.1 y.1 x.1 in
    record { c_low = channels.low; c_le = channels.high; start-lt = o.0; end-le = o.1 }

-- with LM, the bands by their own test
pub coarse_parts : (c lm start end intra : ℤ) → coarse_ok c lm start end intra ≡ true → (bands_ok c start end ≡ true) × (clip lm < 4)
unfolding coarse_ok
coarse_parts c lm start end intra e =
    let x = (and-eq-true_iff _ _).0 e in
    let y = (and-eq-true_iff _ _).0 x.0 in
    (y.0, omega (arith, (range_count 0 3 lm y.1).high))

-- the bands as counts, and LM
pub coarse_in : (c lm start end intra : ℤ) → coarse_ok c lm start end intra ≡ true → BandsIn (clip c) (clip start) (clip end) × (clip lm < 4)
coarse_in c lm start end intra e =
    let p = coarse_parts c lm start end intra e in
    (bands_in c start end p.0, p.1)

-- three lengths
pub sized : (n f p : ℕ) → (eqb n 42 && eqb f 21 && eqb p 21) ≡ true → (n ≡ 42) × (f ≡ 21) × (p ≡ 21)
sized n f p e =
    let x = (and-eq-true_iff _ _).0 e in
    let y = (and-eq-true_iff _ _).0 x.0 in
    (eqb-true n 42 y.0, eqb-true f 21 y.1, eqb-true p 21 x.1)

-- ---- the whole work

-- the bands done one after the other are the coarse decode
pub coarse-is : (c lm : ℕ) (intra : Bool) (start end : ℕ) (s : List ℕ) (d : Reader) (es : List Float) {fs : List Float} {a b : Float} {r : Reader}
    → coarse_state fs a b r ≡ over_places (coarse_band c lm intra s) start (end - start) (coarse_start d es)
    → energies_after fs r ≡ coarse c lm intra start end s d es
unfolding coarse
coarse-is c lm intra start end s d es e = ap (λ (g : CoarseState). energies_after g.energies g.next) e

-- and the two passes are the last bits
pub finalise-is : (c : ℕ) (fine priority : ℕ → ℕ) (start end left : ℕ) (s : List ℕ) (d : Reader) (es : List Float) {y : Spending}
    → y ≡ over_places (pass_of c fine priority start end s) 0 2 (spending es left d)
    → energies_after y.energies y.next ≡ finalise c fine priority start end left s d es
unfolding finalise over_places
finalise-is c fine priority start end left s d es e = ap (λ (g : Spending). energies_after g.energies g.next) e

-- ---- answers

-- number 0: the reader and the energies of the work
said_got : (n : ℕ) (y : EnergiesAfter) (es : List Float) {fs : List Float} {d : Reader} → n ≡ 0 → energies_after fs d ≡ y → after (Ok d) fs ≡ answer_r n y es
unfolding answer lent_after
said_got n y es z e = rw (z, ← e)

-- any other: the refusal, and the energies as they were
said-refused : (n : ℕ) (y : EnergiesAfter) (es : List Float) → (n ≡ 0 → ⊥) → record { said = refused n; energies = es } ≡ answer_r n y es
unfolding answer lent_after
said-refused zero y es h = absurd (h refl)
said-refused (suc n) y es h = refl

-- of a coarse decode
module _ (c lm start end intra : ℤ) (s : List ℕ) (d : Reader) (es : List Float) {n : ℕ} (g : n ≡ refusal_coarse c lm start end intra s d es) where
  -- it is accepted
  pub coarse_got : n ≡ 0 → {fs : List Float} {r : Reader} → energies_after fs r ≡ coarse (clip c) (clip lm) (is_intra intra) (clip start) (clip end) s d es
      → after (Ok r) fs ≡ coarse_reading c lm start end intra s d es
  coarse_got z e = said_got (refusal_coarse c lm start end intra s d es) (coarse (clip c) (clip lm) (is_intra intra) (clip start) (clip end) s d es) es
      (sym g ∙ z) e

  -- it is refused
  pub coarse-refused : (n ≡ 0 → ⊥) → record { said = refused n; energies = es } ≡ coarse_reading c lm start end intra s d es
  coarse-refused h =
      rw g
      (said-refused (refusal_coarse c lm start end intra s d es) (coarse (clip c) (clip lm) (is_intra intra) (clip start) (clip end) s d es) es
      (λ z. h (g ∙ z)))

-- of the last bits
module _ (c start end : ℤ) (fine priorities : List ℤ) (left : ℤ) (s : List ℕ) (d : Reader) (es : List Float) {n : ℕ}
    (g : n ≡ refusal_finalise c start end fine priorities s d es) where
  -- they are accepted
  pub finalise_got : n ≡ 0 → {fs : List Float} {r : Reader}
      → energies_after fs r ≡ finalise (clip c) (count_at fine) (count_at priorities) (clip start) (clip end) (clip left) s d es
      → after (Ok r) fs ≡ finalise_reading c start end fine priorities left s d es
  finalise_got z e =
      said_got (refusal_finalise c start end fine priorities s d es)
      (finalise (clip c) (count_at fine) (count_at priorities) (clip start) (clip end) (clip left) s d es)
      es (sym g ∙ z) e

  -- they are refused
  pub finalise-refused : (n ≡ 0 → ⊥) → record { said = refused n; energies = es } ≡ finalise_reading c start end fine priorities left s d es
  finalise-refused h =
      rw g
      (said-refused (refusal_finalise c start end fine priorities s d es)
      (finalise (clip c) (count_at fine) (count_at priorities) (clip start) (clip end) (clip left) s d es)
      es (λ z. h (g ∙ z)))
