-- Two differences of counts, compared and subtracted. Assumes nothing.
use Prim.Native.Nat.{ℕ, suc, ◌+◌, ◌-◌, ◌≤◌, ◌<◌}
use mathlib.Core.Path.{◌≡◌, refl, sym, ap, ◌∙◌}
use mathlib.Core.Bool.{not}
use native.Mathlib.Omega.{arith}
use lib.Dec.{leb, ltb}
use lib.IntN.{ℤ, pos, negsuc, sub_ℕ, ◌-ℤ◌}
use lib.Signed.{le_z, lt_z}
use borrow.Author.Tests.{le-leb, lt-leb, lt-ltb, le-ltb}
use Rattle.laws.proofs.Tests.{by_le}
use Rattle.laws.proofs.Differences.{by_sign, sub_same, sub-add, sub_less}

-- ---- two tests of the same fact

-- at most
pub leb-same : (a b c d : ℕ) → (a ≤ b → c ≤ d) → (b < a → d < c) → leb a b ≡ leb c d
leb-same a b c d f g = by_le a b (λ h. le-leb a b h ∙ sym (le-leb c d (f h))) (λ h. lt-leb a b h ∙ sym (lt-leb c d (g h)))

-- below
pub ltb-same : (a b c d : ℕ) → (a < b → c < d) → (b ≤ a → d ≤ c) → ltb a b ≡ ltb c d
ltb-same a b c d f g = by_le (suc a) b (λ h. lt-ltb a b h ∙ sym (lt-ltb c d (f h))) (λ h. le-ltb a b (omega arith) ∙ sym (le-ltb c d (g (omega arith))))

-- below is not "at least", turned round
ltb-not : (a b : ℕ) → ltb a b ≡ not (leb b a)
ltb-not a b = by_le b a (λ h. le-ltb a b h ∙ sym (ap not (le-leb b a h))) (λ h. lt-ltb a b h ∙ sym (ap not (lt-leb b a h)))

-- ---- u - d against v - e

module _ (u d v e : ℕ) where
  -- compared over counts: the subtracted parts change sides
  pub le_subs : le_z (sub_ℕ u d) (sub_ℕ v e) ≡ leb (u + e) (v + d)
  le_subs =
      by_sign u d (λ z. le_z z (sub_ℕ v e) ≡ leb (u + e) (v + d))
      (λ h.
      by_sign v e (λ z. le_z (pos (u - d)) z ≡ leb (u + e) (v + d))
      (λ g. leb-same (u - d) (v - e) (u + e) (v + d) (λ p. omega arith) (λ p. omega arith))
      (λ g. sym (lt-leb (u + e) (v + d) (omega arith))))
      (λ h.
      by_sign v e (λ z. le_z (negsuc (d - suc u)) z ≡ leb (u + e) (v + d)) (λ g. sym (le-leb (u + e) (v + d) (omega arith)))
      (λ g. leb-same (e - suc v) (d - suc u) (u + e) (v + d) (λ p. omega arith) (λ p. omega arith)))

  -- their difference
  pub subs_less : sub_ℕ u d -ℤ sub_ℕ v e ≡ sub_ℕ (u + e) (d + v)
  subs_less =
      by_sign v e (λ z. sub_ℕ u d -ℤ z ≡ sub_ℕ (u + e) (d + v))
      (λ h. sub_less u d (v - e) ∙ sub_same u (d + (v - e)) (u + e) (d + v) (omega arith))
      (λ h. sub-add u d (suc (e - suc v)) ∙ sub_same (u + suc (e - suc v)) d (u + e) (d + v) (omega arith))

-- less is not "at least", turned round
lt_not : (x y : ℤ) → lt_z x y ≡ not (le_z y x)
lt_not (pos a) (pos b) = ltb-not a b
lt_not (pos a) (negsuc b) = refl
lt_not (negsuc a) (pos b) = refl
lt_not (negsuc a) (negsuc b) = ltb-not b a

-- strictly compared
pub lt_subs : (u d v e : ℕ) → lt_z (sub_ℕ u d) (sub_ℕ v e) ≡ ltb (u + e) (v + d)
lt_subs u d v e = lt_not (sub_ℕ u d) (sub_ℕ v e) ∙ ap not (le_subs v e u d) ∙ sym (ltb-not (u + e) (v + d))
