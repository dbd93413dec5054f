-- What calls leave of a closure that writes.
use Rattle.std.specs.Prelude.{ℕ, Bool, ◌<◌}

-- the closure f as it was lent, or as calls at arguments below `top` left it
pub data Left {F : Type 0} (step : F → ℕ → Bool → F → Type 0) (top : ℕ) (f : F) : F → Type 0 where
  lent : Left step top f f
  called : (g h : F) (x : ℕ) (r : Bool) → Left step top f g → x < top → step g x r h → Left step top f h
