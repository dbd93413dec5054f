-- `quant_bands::steps::read_small`: the symbol's value, by its sign and size. Assumes nothing.
use Prim.Native.Nat.{◌<◌}
use mathlib.Core.Path.{◌≡◌, ◌∙◌}
use native.Mathlib.Omega.{arith}
use mir.Facts.{to_z-of_z}
use mir.Syntax.{w32}
use borrow.Author.Rules.{rules}
use Rattle.modes.specs.SmallEnergy.{small_energy}
use Rattle.entcode.specs.Sym.Shape.{table}
use Rattle.entdec.specs.Symbols.{read_sym}
use Rattle.quant_bands.proofs.Stepping.{small-table, small-below, small_is}
use Rattle.quant_bands.proofs.steps.read_small.Goals as goal
use Rattle.quant_bands.proofs.steps.read_small.Goals.{After-symbol-y}

-- the symbol, of the table by its name
told : (c : After-symbol-y) → let a = c.args in c.symbol-y.result ≡ read_sym (table small_energy 2) a.s.now a.d
told c = rw c.table-t.ensures at c.symbol-y.ensures

below : (c : After-symbol-y) → c.symbol-y.result.value < 3
below c = let a = c.args in rw (told c) (small-below a.s.now a.d)

pub symbol-y-requires : goal.symbol-y-requires
symbol-y-requires c =
    record { ready = c.requires; le_ftb = (omega arith, omega arith); t_nonzero = rw c.table-t.ensures small-table }

pub overflow_add-v : goal.overflow_add-v
overflow_add-v c = record { fits = omega (arith, below (goal.at.overflow_add-v c).After-symbol-y) }

pub value_of-requires : goal.value_of-requires
value_of-requires c = omega (arith, below (goal.at.value_of-requires c).After-symbol-y)

pub returns : goal.returns
returns c =
    let a = c.args in
    small_is a.s.now a.d (told (goal.at.returns c).After-symbol-y) (to_z-of_z {w = w32} {z = c.value_of.result} (search rules) ∙ c.value_of.ensures)
