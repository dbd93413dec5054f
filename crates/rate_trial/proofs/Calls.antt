-- What holds of a closure however often it was called. Assumes nothing.
use Prim.Native.Nat.{ℕ, ◌<◌}
use mathlib.Core.Bool.{Bool}
use mathlib.Core.Path.{◌≡◌, refl, ◌∙◌}
use Rattle.rate_trial.specs.Calls.{Left, lent, called}

module _ {F : Type 0} {step : F → ℕ → Bool → F → Type 0} {top : ℕ} {f : F} where
  -- what holds of it as it was lent, and what each call keeps
  pub left-keeps : {g : F} → Left step top f g → (P : F → Type 0) → P f → ((g h : F) (x : ℕ) (r : Bool) → P g → x < top → step g x r h → P h) → P g
  left-keeps lent P p k = p
  left-keeps (called g h x r l w s) P p k = k g h x r (left-keeps l P p k) w s

  -- one that no call changes
  pub left-same : {g : F} → Left step top f g → ((g h : F) (x : ℕ) (r : Bool) → x < top → step g x r h → h ≡ g) → g ≡ f
  left-same l k = left-keeps l (λ g. g ≡ f) refl (λ g h x r e w s. k g h x r w s ∙ e)
