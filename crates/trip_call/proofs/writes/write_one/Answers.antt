-- `trip_call::writes::write_one`: by the kind. Assumes nothing.
use mathlib.Core.Path.{sym, ◌∙◌}
use mir.Syntax.{w32}
use mir.Facts.{to_z-of_z}
use borrow.Author.Rules.{rules}
use Rattle.entenc.specs.Write.{wr}
use Rattle.trip_call.proofs.Stepping.{wrote-bit, wrote-table, wrote-uniform, wrote-raw, wrote-laplace}
use Rattle.trip_call.proofs.writes.write_one.Goals as goal

pub returns-in-Bit : goal.returns-in-Bit
returns-in-Bit c =
    let a = c.args in
    let k = sym c.kind_of.ensures ∙ c.in-Bit.is in
    wrote-bit a.g (wr a.w a.buf.now) a.tables.now k c.bit_logp.ensures c.plain.ensures

pub returns-in-Table : goal.returns-in-Table
returns-in-Table c =
    let a = c.args in
    let k = sym c.kind_of.ensures ∙ c.in-Table.is in
    wrote-table a.g (wr a.w a.buf.now) a.tables.now k c.entries-t.ensures c.icdf.ensures c.plain-in-Table.ensures

pub returns-in-Uniform : goal.returns-in-Uniform
returns-in-Uniform c =
    let a = c.args in
    let k = sym c.kind_of.ensures ∙ c.in-Uniform.is in
    wrote-uniform a.g (wr a.w a.buf.now) a.tables.now k c.uint.ensures c.plain-in-Uniform.ensures

pub returns-in-Raw : goal.returns-in-Raw
returns-in-Raw c =
    let a = c.args in
    let k = sym c.kind_of.ensures ∙ c.in-Raw.is in
    wrote-raw a.g (wr a.w a.buf.now) a.tables.now k c.bits.ensures c.plain-in-Raw.ensures

pub returns-in-Laplace : goal.returns-in-Laplace
returns-in-Laplace c =
    let a = c.args in
    let k = sym c.kind_of.ensures ∙ c.in-Laplace.is in
    wrote-laplace a.g (wr a.w a.buf.now) a.tables.now _ k (to_z-of_z {w = w32} {z = c.value_at.result} (search rules) ∙ c.value_at.ensures)
    c.ec_laplace_encode.ensures c.counted.ensures
