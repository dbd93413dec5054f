-- `lister::work::run`: the invariant is what holds between turns (`Running`); each turn uses up one of the count. Assumes nothing.
use Prim.Native.Nat.{◌<◌}
use mathlib.Core.Path.{refl}
use native.Mathlib.Omega.{arith}
use Rattle.tool_lines.proofs.Tools.{start-holds, end-holds}
use Rattle.lister.specs.Stream.{lister}
use Rattle.lister.proofs.work.run.Goals as goal

pub loop-s-init : goal.loop-s-init
loop-s-init c =
    let a = c.args in
    let some : 0 < 2601 = omega arith in (
      refl,
      refl,
      refl,
      refl,
      refl,
      refl,
      refl,
      start-holds lister 0 a.from a.to 64336 1200 a.block.now a.kept.now a.out.now a.seen.now a.sent.now a.reads.now
          a.writes.now
          c.requires.new_input.0 c.requires.new_input.1 c.begin-start.ensures c.new_pen-text.ensures c.requires.block_nonzero.0 some c.requires.block_nonzero.1
          c.requires.block_nonzero.2 c.requires.new_input.2 c.requires.new_input.3,
    )

pub returns : goal.returns
returns c =
    let l = c.loop-s in
    end-holds lister 0 l.seen l.sent l.invariant.7 c.if-last.false
