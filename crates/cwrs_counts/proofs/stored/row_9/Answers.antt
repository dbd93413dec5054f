-- `cwrs_counts::stored::row_9`: each arm has its two numbers, and the last one is past the row's end. Assumes nothing.
use mathlib.Core.Path.{refl}
use native.Mathlib.Omega.{arith}
use Rattle.cwrs_counts.specs.Table.{counts}
use Rattle.cwrs_counts.specs.Rows.{packed_at}
use Rattle.cwrs_counts.proofs.Arms.{hit, missed}
use Rattle.cwrs_counts.proofs.stored.row_9.Goals as goal

pub returns-in-0 : goal.returns-in-0
unfolding counts packed_at
returns-in-0 c = hit 9 c.args.g c.in-0.is refl

pub returns-in-1 : goal.returns-in-1
unfolding counts packed_at
returns-in-1 c = hit 9 c.args.g c.in-1.is refl

pub returns-in-2 : goal.returns-in-2
unfolding counts packed_at
returns-in-2 c = hit 9 c.args.g c.in-2.is refl

pub returns-in-3 : goal.returns-in-3
unfolding counts packed_at
returns-in-3 c = hit 9 c.args.g c.in-3.is refl

pub returns-in-4 : goal.returns-in-4
unfolding counts packed_at
returns-in-4 c = hit 9 c.args.g c.in-4.is refl

pub returns-in-5 : goal.returns-in-5
unfolding counts packed_at
returns-in-5 c = hit 9 c.args.g c.in-5.is refl

pub returns-in-6 : goal.returns-in-6
unfolding counts packed_at
returns-in-6 c = hit 9 c.args.g c.in-6.is refl

pub returns-in-7 : goal.returns-in-7
unfolding counts packed_at
returns-in-7 c = hit 9 c.args.g c.in-7.is refl

pub returns-in-8 : goal.returns-in-8
unfolding counts packed_at
returns-in-8 c = hit 9 c.args.g c.in-8.is refl

pub returns-in-9 : goal.returns-in-9
unfolding counts packed_at
returns-in-9 c = hit 9 c.args.g c.in-9.is refl

pub returns-in-10 : goal.returns-in-10
unfolding counts packed_at
returns-in-10 c = hit 9 c.args.g c.in-10.is refl

pub returns-in-11 : goal.returns-in-11
unfolding counts packed_at
returns-in-11 c = hit 9 c.args.g c.in-11.is refl

pub returns-in-12 : goal.returns-in-12
unfolding counts packed_at
returns-in-12 c = hit 9 c.args.g c.in-12.is refl

pub returns-in-13 : goal.returns-in-13
unfolding counts packed_at
returns-in-13 c = hit 9 c.args.g c.in-13.is refl

pub returns-in-14 : goal.returns-in-14
unfolding counts packed_at
returns-in-14 c = hit 9 c.args.g c.in-14.is refl

pub returns-in-15 : goal.returns-in-15
unfolding counts packed_at
returns-in-15 c = hit 9 c.args.g c.in-15.is refl

pub returns-in_default : goal.returns-in_default
unfolding counts packed_at
returns-in_default c = missed 9 16 refl c.args.g (omega arith)
