-- `trip_call::reads::read_one`: by the kind. Assumes nothing.
use mathlib.Core.Path.{sym, ◌∙◌}
use Rattle.trip_call.proofs.Stepping.{read-bit, read_table, read-uniform, read-raw, read-laplace}
use Rattle.trip_call.proofs.reads.read_one.Goals as goal

pub returns-in-Bit : goal.returns-in-Bit
returns-in-Bit c =
    let a = c.args in
    let k = sym c.kind_of.ensures ∙ c.in-Bit.is in
    read-bit a.g a.s.now a.d a.tables.now k c.bit_logp.ensures

pub returns-in-Table : goal.returns-in-Table
returns-in-Table c =
    let a = c.args in
    let k = sym c.kind_of.ensures ∙ c.in-Table.is in
    read_table a.g a.s.now a.d a.tables.now k c.entries.ensures c.icdf.ensures

pub returns-in-Uniform : goal.returns-in-Uniform
returns-in-Uniform c =
    let a = c.args in
    let k = sym c.kind_of.ensures ∙ c.in-Uniform.is in
    read-uniform a.g a.s.now a.d a.tables.now k c.uint.ensures

pub returns-in-Raw : goal.returns-in-Raw
returns-in-Raw c =
    let a = c.args in
    let k = sym c.kind_of.ensures ∙ c.in-Raw.is in
    read-raw a.g a.s.now a.d a.tables.now k c.bits.ensures

pub returns-in-Laplace : goal.returns-in-Laplace
returns-in-Laplace c =
    let a = c.args in
    let k = sym c.kind_of.ensures ∙ c.in-Laplace.is in
    read-laplace a.g a.s.now a.d a.tables.now k c.ec_laplace_decode.ensures c.counted.ensures
