-- What becomes of an energy and of what the next band inherits, RFC 6716, section 4.3.2.1: the f32 operations of the reference source in
-- their order, each rounded once. The two shares, coef and beta, are those of modes' Prediction.
use Rattle.std.specs.Prelude.{true, cond, pos, Float}
use Rattle.std.specs.Float.{fin, binary32}
use Rattle.std.specs.Float.Ieee.{add, sub, mul, lt}

-- -9
abbrev pub lowest : Float
lowest = fin true 9 (pos 0)

-- the last frame's energy, raised to at least -9
abbrev pub raised : Float → Float
raised old = cond (lt old lowest) lowest old

-- coef * old + prev + q: a share of the last frame's energy, what the band inherits, and the step
unfoldable pub predicted : Float → Float → Float → Float → Float
predicted coef old prev q = add binary32 (add binary32 (mul binary32 coef (raised old)) prev) q

-- prev + q - beta * q: what the next band inherits
unfoldable pub handed_on : Float → Float → Float → Float
handed_on beta prev q = sub binary32 (add binary32 prev q) (mul binary32 beta q)
