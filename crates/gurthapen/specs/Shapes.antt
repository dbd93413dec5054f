-- Shapes of bands, exported: vq's call, over lists.
use Rattle.std.specs.Prelude.{ℕ, ◌&&◌, List, ℤ, Float}
use Rattle.vq.specs.Answer.{ShapeRequest, unquantised}
use Rattle.gurthapen_answer.specs.Result.{Result, exported}
use Rattle.gurthapen_state.specs.State.{reader_of, is_stored, is_long}
use Rattle.gurthapen_answer.specs.Shapes.{lists_formed}

-- a shape read from the packet s into the places x; m is where its collapse mask goes
abbrev pub unquants : ShapeRequest → List ℕ → List ℤ → List ℕ → List Float → Result ((List ℤ × List ℕ) × List Float)
unquants q s l m x = exported (is_stored l && is_long 1 m) (lists_formed (unquantised q s (reader_of l) x)) ((l, m), x)
