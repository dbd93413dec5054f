-- An answer with a code: what it leaves, by the code. Assumes nothing.
use Prim.Native.Nat.{ℕ, zero, suc}
use mathlib.Core.Path.{◌≡◌, refl}
use Rattle.entcode.specs.Said.{answer}
use Rattle.gurthapen_answer.specs.Result.{result, result_of}

module _ {A : Type 0} (v before : A) where
  -- code 0: the lists are written
  pub coded : {n : ℕ} {x : A} → n ≡ 0 → x ≡ v → result 0 x ≡ result_of (answer n v) before
  unfolding answer result_of
  coded e h = rw (e, h)

  -- any other: that refusal, and the lists as they were
  pub uncoded : (n : ℕ) → (n ≡ 0 → ⊥) → result n before ≡ result_of (answer n v) before
  unfolding answer result_of
  uncoded zero h = absurd (h refl)
  uncoded (suc n) h = refl
