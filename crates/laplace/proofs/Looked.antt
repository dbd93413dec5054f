-- The code's way to find a pair of the coarse-energy model, by the share of zero, finds the model's pairs and no others: two computed tests,
-- of each pair and of each row. Assumes nothing.
use Prim.Native.Nat.{ℕ, suc, ◌+◌, ◌*◌, ◌/◌, ◌%◌, ◌<◌}
use mathlib.Core.Path.{◌≡◌, refl, sym}
use mathlib.Core.Bool.{Bool, true, false, ◌&&◌, ◌||◌, and-eq-true_iff}
use mathlib.Core.List.{List, [], ◌∷◌}
use mathlib.Core.Logic.{⊎_elim}
use native.Mathlib.Omega.{arith}
use lib.Dec.{eqb, ltb}
use lib.ListN.{length, get_or}
use borrow.Author.Tests.{eqb-true, ltb-true, ne_eqb}
use Rattle.laws.proofs.Tests.{split_on, or_parts}
use Rattle.laws.proofs.Tables.{below_at}
use Rattle.modes.specs.EnergyModel.{energy_model, zero_at, decay_at}
use Rattle.modes.proofs.EnergyModelRule.{energy_model-length}
use Rattle.laplace.specs.Pairs.{pair_known}
use Rattle.laplace.specs.Rows.{DecayRow, decay_rows, decays_in, decays_for, holds}
use Rattle.laplace.proofs.Known.{PairAt, known_at, at-known}

-- ---- the rows as the arms of a match

-- what is left of a match: z is the share of none of the rows, beside what N says
abbrev pub Besides : Type 0 → List DecayRow → ℕ → Type 0
Besides N [] z = N
Besides N (r ∷ rs) z = Besides (N × (z ≡ r.share → ⊥)) rs z

-- where no share is z, there are no decays
besides : (rs : List DecayRow) (N : Type 0) (z : ℕ) → Besides N rs z → N × (decays_in rs z ≡ 0)
unfolding decays_in
besides [] N z b = (b, refl)
besides (r ∷ rs) N z b =
    let p = besides rs (N × (z ≡ r.share → ⊥)) z b in
    (p.0.0, rw (ne_eqb z r.share p.0.1) p.1)

-- the last arm: z is the share of no row
pub missed : (z : ℕ) → Besides (Unit {0}) decay_rows z → 0 ≡ decays_for z
unfolding decays_for
missed z b = sym (besides decay_rows (Unit {0}) z b).1

-- ---- every byte of a row is 0 or the decay of a pair of the model

-- a share and a decay, two entries of a list of pairs
pair_in : List ℕ → ℕ → ℕ → Bool
pair_in [] z d = false
pair_in (a ∷ []) z d = false
pair_in (a ∷ (b ∷ l)) z d = eqb a z && eqb b d || pair_in l z d

-- two entries of the list, one after the other from an even place on
record Entry (l : List ℕ) (z d : ℕ) : Type 0 where
  k : ℕ
  below : 2 * k + 1 < length l
  share : get_or l (2 * k) 0 ≡ z
  decay : get_or l (2 * k + 1) 0 ≡ d

-- further on in a longer list
later : (a b : ℕ) (l : List ℕ) (z d : ℕ) → Entry l z d → Entry (a ∷ (b ∷ l)) z d
later a b l z d e =
    let p : 2 * suc e.k ≡ suc (suc (2 * e.k)) = omega arith in
    let q : 2 * suc e.k + 1 ≡ suc (suc (2 * e.k + 1)) = omega arith in
    record { k = suc e.k; below = omega (arith, e.below); share = rw p e.share; decay = rw q e.decay }

-- what the test finds is there
entry_in : (l : List ℕ) (z d : ℕ) → pair_in l z d ≡ true → Entry l z d
unfolding pair_in
entry_in [] z d t = let y : ◌≡◌ {A = ℕ} 0 1 = cc in absurd (omega arith)
entry_in (a ∷ []) z d t = let y : ◌≡◌ {A = ℕ} 0 1 = cc in absurd (omega arith)
entry_in (a ∷ (b ∷ l)) z d t =
    ⊎_elim
    (λ e.
    let p = (and-eq-true_iff (eqb a z) (eqb b d)).0 e in
    record { k = 0; below = omega arith; share = eqb-true a z p.0; decay = eqb-true b d p.1 })
    (λ e. later a b l z d (entry_in l z d e))
    (or_parts (eqb a z && eqb b d) (pair_in l z d) t)

-- each of the five bytes of w
five_all : (ℕ → Bool) → ℕ → Bool
five_all f w = f (w % 256) && f (w / 256 % 256) && f (w / 65536 % 256) && f (w / 16777216 % 256) && f (w / 4294967296)

-- what holds of all five bytes holds of one of them
five_at : (f : ℕ → Bool) (w d : ℕ) → five_all f w ≡ true → holds w d ≡ true → f d ≡ true
unfolding five_all
five_at f w d t h =
    let a4 = (and-eq-true_iff (f (w % 256) && f (w / 256 % 256) && f (w / 65536 % 256) && f (w / 16777216 % 256)) (f (w / 4294967296))).0 t in
    let a3 = (and-eq-true_iff (f (w % 256) && f (w / 256 % 256) && f (w / 65536 % 256)) (f (w / 16777216 % 256))).0 a4.0 in
    let a2 = (and-eq-true_iff (f (w % 256) && f (w / 256 % 256)) (f (w / 65536 % 256))).0 a3.0 in
    let a1 = (and-eq-true_iff (f (w % 256)) (f (w / 256 % 256))).0 a2.0 in
    ⊎_elim
    (λ h3.
    ⊎_elim
    (λ h2. ⊎_elim (λ h1. ⊎_elim (is (w % 256) a1.0) (is (w / 256 % 256) a1.1) (or_parts _ _ h1)) (is (w / 65536 % 256) a2.1) (or_parts _ _ h2))
    (is (w / 16777216 % 256) a3.1) (or_parts _ _ h3))
    (is (w / 4294967296) a4.1)
    (or_parts (eqb (w % 256) d || eqb (w / 256 % 256) d || eqb (w / 65536 % 256) d || eqb (w / 16777216 % 256) d) (eqb (w / 4294967296) d) h)
  where
    is : (x : ℕ) → f x ≡ true → eqb x d ≡ true → f d ≡ true
    is x e t = rw (eqb-true x d t) at e

-- d is no decay, or one that goes with z in the model
fair : ℕ → ℕ → Bool
fair z d = eqb d 0 || pair_in energy_model z d

-- every byte of every row is fair
fair_rows : List DecayRow → Bool
fair_rows [] = true
fair_rows (r ∷ rs) = five_all (fair r.share) r.decays && fair_rows rs

-- the computed test of the rows
rows_fair : fair_rows decay_rows ≡ true
unfolding decay_rows energy_model fair_rows five_all fair pair_in
rows_fair = refl

-- so are the decays of any share
fair_in : (rs : List DecayRow) (z : ℕ) → fair_rows rs ≡ true → five_all (fair z) (decays_in rs z) ≡ true
unfolding decays_in fair_rows five_all fair
fair_in [] z t = refl
fair_in (r ∷ rs) z t =
    let p = (and-eq-true_iff (five_all (fair r.share) r.decays) (fair_rows rs)).0 t in
    split_on (eqb z r.share)
    (λ e. let q = eqb-true z r.share e in rw e (rw (sym q) at p.0))
    (λ e. rw e (fair_in rs z p.1))

-- ---- the code's test

-- what the code tests first: the share and the decay are whole 256ths, and the decay is not 0
abbrev pub even : ℕ → ℕ → Bool
even fs dec = eqb (fs % 128) 0 && eqb (dec % 64) 0 && ltb 0 dec

-- the code's whole test
abbrev pub looked : ℕ → ℕ → Bool
looked fs dec = even fs dec && holds (decays_for (fs / 128)) (dec / 64)

-- what it finds is a pair of the model
looked_at : (fs dec : ℕ) → looked fs dec ≡ true → PairAt fs dec
unfolding decays_for zero_at decay_at fair
looked_at fs dec t =
    let a = (and-eq-true_iff (even fs dec) (holds (decays_for (fs / 128)) (dec / 64))).0 t in
    let b = (and-eq-true_iff (eqb (fs % 128) 0 && eqb (dec % 64) 0) (ltb 0 dec)).0 a.0 in
    let c = (and-eq-true_iff (eqb (fs % 128) 0) (eqb (dec % 64) 0)).0 b.0 in
    let x : fs % 128 ≡ 0 = eqb-true (fs % 128) 0 c.0 in
    let y : dec % 64 ≡ 0 = eqb-true (dec % 64) 0 c.1 in
    let s : 0 < dec = ltb-true 0 dec b.1 in
    let f = five_at (fair (fs / 128)) (decays_for (fs / 128)) (dec / 64) (fair_in decay_rows (fs / 128) rows_fair) a.1 in
    ⊎_elim
    (λ e. let z = eqb-true (dec / 64) 0 e in absurd (omega arith))
    (λ e.
    let n = entry_in energy_model (fs / 128) (dec / 64) e in
    record {
      k = n.k;
      below = omega (arith, n.below, energy_model-length);
      zero = omega (arith, n.share);
      decay = omega (arith, n.decay);
    })
    (or_parts (eqb (dec / 64) 0) (pair_in energy_model (fs / 128) (dec / 64)) f)

-- the computed test of the pairs: each is found
pair_looked : (k : ℕ) → k < 168 → looked (zero_at k) (decay_at k) ≡ true
unfolding zero_at decay_at energy_model decays_for decays_in decay_rows
pair_looked = below_at (λ k. looked (zero_at k) (decay_at k)) 168 refl

-- two tests that follow from each other are one
same : (a b : Bool) → (a ≡ true → b ≡ true) → (b ≡ true → a ≡ true) → a ≡ b
same true b f g = sym (f refl)
same false true f g = g refl
same false false f g = refl

-- the code's test is the definition's
pub looked_known : (fs dec : ℕ) → looked fs dec ≡ pair_known fs dec
looked_known fs dec =
    same (looked fs dec) (pair_known fs dec)
    (λ t. at-known fs dec (looked_at fs dec t))
    (λ t.
    let p = known_at fs dec t in
    let l = pair_looked p.k p.below in
    rw (p.zero, p.decay) at l)
