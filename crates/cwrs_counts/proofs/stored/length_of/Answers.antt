-- `cwrs_counts::stored::length_of`: each arm has its row's length, and the last one is past the rows. Assumes nothing.
use mathlib.Core.Path.{refl}
use native.Mathlib.Omega.{arith}
use Rattle.cwrs_counts.specs.Table.{counts}
use Rattle.cwrs_counts.proofs.Arms.{long, no_row}
use Rattle.cwrs_counts.proofs.stored.length_of.Goals as goal

pub returns-in-0 : goal.returns-in-0
unfolding counts
returns-in-0 c = long c.args.a c.in-0.is refl

pub returns-in-1 : goal.returns-in-1
unfolding counts
returns-in-1 c = long c.args.a c.in-1.is refl

pub returns-in-2 : goal.returns-in-2
unfolding counts
returns-in-2 c = long c.args.a c.in-2.is refl

pub returns-in-3 : goal.returns-in-3
unfolding counts
returns-in-3 c = long c.args.a c.in-3.is refl

pub returns-in-4 : goal.returns-in-4
unfolding counts
returns-in-4 c = long c.args.a c.in-4.is refl

pub returns-in-5 : goal.returns-in-5
unfolding counts
returns-in-5 c = long c.args.a c.in-5.is refl

pub returns-in-6 : goal.returns-in-6
unfolding counts
returns-in-6 c = long c.args.a c.in-6.is refl

pub returns-in-7 : goal.returns-in-7
unfolding counts
returns-in-7 c = long c.args.a c.in-7.is refl

pub returns-in-8 : goal.returns-in-8
unfolding counts
returns-in-8 c = long c.args.a c.in-8.is refl

pub returns-in-9 : goal.returns-in-9
unfolding counts
returns-in-9 c = long c.args.a c.in-9.is refl

pub returns-in-10 : goal.returns-in-10
unfolding counts
returns-in-10 c = long c.args.a c.in-10.is refl

pub returns-in-11 : goal.returns-in-11
unfolding counts
returns-in-11 c = long c.args.a c.in-11.is refl

pub returns-in-12 : goal.returns-in-12
unfolding counts
returns-in-12 c = long c.args.a c.in-12.is refl

pub returns-in-13 : goal.returns-in-13
unfolding counts
returns-in-13 c = long c.args.a c.in-13.is refl

pub returns-in-14 : goal.returns-in-14
unfolding counts
returns-in-14 c = long c.args.a c.in-14.is refl

pub returns-in_default : goal.returns-in_default
unfolding counts
returns-in_default c = no_row c.args.a (omega arith)
