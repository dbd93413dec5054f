-- A shape from its pulses. Each f32 operation is rounded once, in the order of the Rust.
use Rattle.std.specs.Prelude.{ℕ, List, map, ℤ, pos, Float, false}
use Rattle.std.specs.Float.{fin, binary32}
use Rattle.std.specs.Float.Ieee.{of_int, mul, div}
use Rattle.cwrs.specs.Word.{energy}
use Rattle.vq.specs.Root.{root_of}

-- 1
abbrev pub float_one : Float
float_one = fin false 1 (pos 0)

-- (1 / √energy) · gain
abbrev pub factor_of : ℕ → Float → Float
factor_of energy gain = mul binary32 (div binary32 float_one (root_of energy)) gain

-- each of the numbers times g (normalise_residual, with the factor above for g)
unfoldable pub scaled : Float → List ℤ → List Float
scaled g v = map (λ (y : ℤ). mul binary32 g (of_int binary32 y)) v

-- the shape of a vector of pulses
abbrev pub shape_of : Float → List ℤ → List Float
shape_of gain v = scaled (factor_of (energy v) gain) v
