-- `quant_bands::steps::read_step`: by how many bits are left. Assumes nothing.
use borrow.Author.Tests.{le-leb, lt-leb}
use Rattle.quant_bands.specs.Steps.{read_step}
use Rattle.quant_bands.proofs.steps.read_step.Goals as goal

pub returns-then-left-ge15 : goal.returns-then-left-ge15
unfolding read_step
returns-then-left-ge15 c = rw (← c.bits_left-left.ensures, le-leb 15 _ c.if-left-ge15.true) c.read.ensures

pub returns-then-left-ge2 : goal.returns-then-left-ge2
unfolding read_step
returns-then-left-ge2 c =
    rw (← c.bits_left-left.ensures, lt-leb 15 _ c.if-left-ge15.false, le-leb 2 _ c.if-left-ge2.true)
    c.read_small.ensures

pub returns-then-left-ge1 : goal.returns-then-left-ge1
unfolding read_step
returns-then-left-ge1 c =
    rw (← c.bits_left-left.ensures, lt-leb 15 _ c.if-left-ge15.false, lt-leb 2 _ c.if-left-ge2.false, le-leb 1 _ c.if-left-ge1.true)
    c.read_minus.ensures

pub returns : goal.returns
unfolding read_step
returns c =
    rw (← c.bits_left-left.ensures, lt-leb 15 _ c.if-left-ge15.false, lt-leb 2 _ c.if-left-ge2.false, lt-leb 1 _ c.if-left-ge1.false)
